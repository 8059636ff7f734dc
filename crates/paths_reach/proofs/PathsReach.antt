-- Clause 2 of demand 3: in a set without refusals 6 and 7 for which the name check says yes, each written path outside the extern paths
-- reaches exactly one declaration, the one that the descriptor names.
use Rattle.std.specs.Prelude.{ℕ, suc, ◌≡◌, Bool, true, ◌&&◌, ◌||◌, length, Ok}
use Rattle.std.proofs.Math.Path.{refl}
use Rattle.std.proofs.Common.{ap, sym, ◌∙◌, subst, arith, eqb-true}
use Rattle.std.proofs.Math.Bool.{false}
use Rattle.std.proofs.Math.Option.{Option, some, none}
use Rattle.std.proofs.Math.Logic.{⊎_elim}
use mathlib.Core.List.{List, [], ◌∷◌, map, Memᴰ}
use Rattle.base.specs.Choose.{choose}
use Rattle.base.specs.Bytes.{same, same_refl, same_sound}
use Rattle.base.specs.Tests.{bool_cases, both_ways, and_left, and_right, and_both, or_cases}
use Rattle.base.specs.Lists.{Every, every_of, is_empty}
use Rattle.ident.specs.Ident.{to_snake}
use Rattle.descriptor.specs.Descriptor.{Bytes, Forest, done, node, FieldDescriptor, MessageDescriptor, FileDescriptor}
use Rattle.options.specs.Settings.{Setting}
use Rattle.extern_paths.specs.ExternPaths.{taken}
use Rattle.name_rules.specs.Accessors.{text, is_repeated, is_message}
use Rattle.name_rules.specs.FullNames.{◌·◌, Entry, set_entries}
use Rattle.name_rules.specs.Rules.{is_text}
use Rattle.name_rules.specs.MapEntries.{names_it}
use Rattle.name_rules.specs.WellFormed.{GoodField, GoodEntry}
use Rattle.name_rules.specs.Answer.{names}
use Rattle.code_generator.specs.Piece.{type, choice}
use Rattle.code_generator.specs.Resolve.{way}
use Rattle.code_generator.specs.MapFields.{MapEntry, map_entry_of}
use Rattle.code_generator.specs.MapFields.{entry_of as entry_fields}
use Rattle.code_generator.specs.Oneofs.{OneofField, is_plain, is_at, oneof_of, plain_fields, fields_at, meets, oneofs_from, oneof_fields}
use Rattle.name_check.specs.NameCheck.{name_check}
use Rattle.sights.specs.Events.{written_path}
use Rattle.sights.specs.Sights.{Use, Sight, use_at, file_place, set_sights, uses}
use Rattle.text_sights.specs.Written.{names_struct, names_enum, oneof_way, written_sights}
use Rattle.text_sights.proofs.TextReads.{set_sights_are}
use Rattle.paths_reach.specs.Reach.{world, ReachesOne}
use Rattle.paths_reach.specs.Dots.{DotFree, scope_of}
use Rattle.paths_reach.specs.Written.{type_named, oneof_named, enum_nameds, package_names, file_nameds}
use Rattle.paths_reach.specs.Seen.{Fine, fine_uses, every_mem, FieldPath, FieldPaths, OneofPath}
use Rattle.paths_reach.specs.Nodes.{Node, names_of, file_nodes, NodePaths, fine_file}
use Rattle.paths_reach.specs.Homes.{whole, mem_all_of}
use Rattle.paths_reach.specs.Closed.{every_at, file_within}
use Rattle.paths_reach.proofs.Hits.{way_leads, way_last, Hits, reaches}
use Rattle.paths_reach.specs.There.{node_there, oneof_in_node}
use Rattle.paths_reach.specs.Targets.{FineNode, fine_node, in_set}
use Rattle.paths_reach.specs.Types.{Target, well_formed, field_struct, field_enum}
use Rattle.paths_reach.specs.Entries.{set_nodes, field_in_set, tops, tops_nodes, nested_nodes, names_full, nested_in, maps_entry}

-- ---- fields of a message
pub plain_mem : (f : FieldDescriptor) (fs : List FieldDescriptor) → Memᴰ f (plain_fields fs) → Memᴰ f fs
unfolding plain_fields choose
plain_mem f [] i = i
plain_mem f (g ∷ fs) i = go (is_plain (oneof_of g)) i (plain_mem f fs)
  where
    go : (t : Bool) → Memᴰ f (choose t (g ∷ plain_fields fs) (plain_fields fs)) → (Memᴰ f (plain_fields fs) → Memᴰ f fs) → Memᴰ f (g ∷ fs)
    go true i rest = ⊎_elim (λ e. mathlib.Core.List.Memᴰ.head e) (λ j. mathlib.Core.List.Memᴰ.tail (rest j)) (mathlib.Core.List.Memᴰ.cases_cons i)
    go false i rest = mathlib.Core.List.Memᴰ.tail (rest i)

pub at_mem : (k : ℕ) (f : FieldDescriptor) (fs : List FieldDescriptor) → Memᴰ f (fields_at k fs) → Memᴰ f fs × (is_at k (oneof_of f) ≡ true)
unfolding fields_at choose
at_mem k f [] i = absurd (mathlib.Core.List.Memᴰ.not-nil i)
at_mem k f (g ∷ fs) i = go (is_at k (oneof_of g)) refl i (at_mem k f fs)
  where
    go : (t : Bool) → is_at k (oneof_of g) ≡ t → Memᴰ f (choose t (g ∷ fields_at k fs) (fields_at k fs)) → (Memᴰ f (fields_at k fs) → Memᴰ f fs × (is_at k (oneof_of f) ≡ true))
        → Memᴰ f (g ∷ fs) × (is_at k (oneof_of f) ≡ true)
    go true e i rest =
        ⊎_elim (λ q. (mathlib.Core.List.Memᴰ.head q, subst (λ (z : FieldDescriptor). is_at k (oneof_of z) ≡ true) (sym q) e)) (λ j. let r = rest j in (mathlib.Core.List.Memᴰ.tail r.0, r.1)) (mathlib.Core.List.Memᴰ.cases_cons i)
    go false e i rest = let r = rest i in (mathlib.Core.List.Memᴰ.tail r.0, r.1)

-- the fields of a oneof are those of one index
pub oneof_at : (m : MessageDescriptor) (nested : Forest MessageDescriptor) (k : ℕ) (ns : List (Option Bytes)) (x : OneofField) → Memᴰ x (oneofs_from m nested k ns)
    → (j : ℕ) × (x.fields ≡ fields_at j m.fields)
unfolding oneofs_from choose
oneof_at m nested k [] x i = absurd (mathlib.Core.List.Memᴰ.not-nil i)
oneof_at m nested k (n ∷ ns) x i = go (is_empty (fields_at k m.fields)) i (oneof_at m nested (suc k) ns x)
  where
    go : (t : Bool)
        → Memᴰ x (choose t (oneofs_from m nested (suc k) ns) (record { name = text n; fields = fields_at k m.fields; has_type_name_conflict = meets m nested (text n) } ∷ oneofs_from m nested (suc k) ns))
        → (Memᴰ x (oneofs_from m nested (suc k) ns) → (j : ℕ) × (x.fields ≡ fields_at j m.fields)) → (j : ℕ) × (x.fields ≡ fields_at j m.fields)
    go true i rest = rest i
    go false i rest = ⊎_elim (λ e. (k, ap (λ (z : OneofField). z.fields) e)) rest (mathlib.Core.List.Memᴰ.cases_cons i)

-- a field of a oneof has its index
pub in_oneof : (f : FieldDescriptor) (k : ℕ) → is_at k (oneof_of f) ≡ true → f.oneof_index ≡ some k
unfolding choose
in_oneof f k h = go f.proto3_optional f.oneof_index h
  where
    go : (t : Bool) (o : Option ℕ) → is_at k (choose t none o) ≡ true → o ≡ some k
    go true o q = both_ways q refl
    go false none q = both_ways q refl
    go false (some j) q = ap some (sym (eqb-true k j q))

-- a field with the label optional isn't repeated
pub not_repeated : (f : FieldDescriptor) → f.label ≡ some 1 → is_repeated f ≡ false
not_repeated f e = rw e refl

-- ---- map entries
entry_found : (k : List Bytes) (ms : Forest MessageDescriptor) (x : Option Bytes) → ((n : Node) → Memᴰ n (tops k ms) → n.message.map_entry ≡ true → GoodEntry n.message)
    → (n : Node) → Memᴰ n (tops k ms) → n.message.map_entry ≡ true → scope_of (names_of n) ≡ text x → map_entry_of (scope_of k) ms x ≡ none → ⊥
unfolding tops map_entry_of choose
entry_found k done x good n i e q h = mathlib.Core.List.Memᴰ.not-nil i
entry_found k (node m nested following) x good n i e q h =
    go (m.map_entry && same (scope_of k · text m.name) (text x)) refl h (λ j r. entry_found k following x (λ z l. good z (mathlib.Core.List.Memᴰ.tail l)) n j e q r)
  where
    self : Node
    self = record { home = k; message = m; nested = nested }

    filled : GoodEntry m → entry_fields m.fields ≡ none → ⊥
    filled g r = let s : ◌≡◌ {A = Option MapEntry} (some (record { key = g.key; value = g.value })) none = ap entry_fields (sym g.two_fields) ∙ r in let z : ◌≡◌ {A = ℕ} 0 1 = cc in omega arith

    go : (t : Bool) → (m.map_entry && same (scope_of k · text m.name) (text x)) ≡ t → choose t (entry_fields m.fields) (map_entry_of (scope_of k) following x) ≡ none
        → (Memᴰ n (tops k following) → map_entry_of (scope_of k) following x ≡ none → ⊥) → ⊥
    go true s r rest = filled (unfold tops in good self (mathlib.Core.List.Memᴰ.head refl) (and_left m.map_entry (same (scope_of k · text m.name) (text x)) s)) r
    go false s r rest =
        ⊎_elim
        (λ p. both_ways (and_both (subst (λ (z : Node). z.message.map_entry ≡ true) p e) (ap (λ (z : Bytes). same z (text x)) (subst (λ (z : Node). scope_of (names_of z) ≡ text x) p q) ∙ same_refl (text x))) s)
        (λ j. rest j r) (mathlib.Core.List.Memᴰ.cases_cons i)

-- the map entry that a field names
pub record EntryAt (k : List Bytes) (ms : Forest MessageDescriptor) (x : Option Bytes) (e : MapEntry) : Type 0 where
  pub at : Node
  pub there : Memᴰ at (tops k ms)
  pub is_entry : at.message.map_entry ≡ true
  pub named : scope_of (names_of at) ≡ text x
  pub holds : entry_fields at.message.fields ≡ some e

pub entry_at : (k : List Bytes) (ms : Forest MessageDescriptor) (x : Option Bytes) (e : MapEntry) → map_entry_of (scope_of k) ms x ≡ some e → EntryAt k ms x e
unfolding tops map_entry_of choose
entry_at k done x e h = absurd (let z : ◌≡◌ {A = ℕ} 0 1 = cc in omega arith)
entry_at k (node m nested following) x e h = go (m.map_entry && same (scope_of k · text m.name) (text x)) refl h (λ r. entry_at k following x e r)
  where
    go : (t : Bool) → (m.map_entry && same (scope_of k · text m.name) (text x)) ≡ t → choose t (entry_fields m.fields) (map_entry_of (scope_of k) following x) ≡ some e
        → (map_entry_of (scope_of k) following x ≡ some e → EntryAt k following x e) → EntryAt k (node m nested following) x e
    go true s r rest =
        record { at = record { home = k; message = m; nested = nested }; there = unfold tops in mathlib.Core.List.Memᴰ.head refl; is_entry = and_left m.map_entry (same (scope_of k · text m.name) (text x)) s; named = same_sound (scope_of k · text m.name) (text x) (and_right m.map_entry (same (scope_of k · text m.name) (text x)) s); holds = r }
    go false s r rest = let d = rest r in record { at = d.at; there = unfold tops in mathlib.Core.List.Memᴰ.tail d.there; is_entry = d.is_entry; named = d.named; holds = d.holds }

abbrev Reached : List Setting → List FileDescriptor → Use → Type 0
Reached rs set u = ReachesOne (world rs set) u

module _ (rs : List Setting) (set : List FileDescriptor) (good : names set ≡ Ok tt) (says_yes : name_check rs set ≡ true) where
  -- ---- the path of a type
  hits_type : (h : List Bytes) → Every DotFree h → (full : Bytes) (t : Target rs set full) → taken rs full ≡ false → Hits (whole rs set) h (written_path (way (scope_of h) full)) (type full)
  hits_type h here full t out =
      subst (λ (z : Bytes). Hits (whole rs set) h (written_path (way (scope_of h) z)) (type z)) (sym t.is)
      (record {
        goal = type_named t.home t.name;
        there = t.there out;
        for = refl;
        way_in = way_leads h t.home t.name here t.free;
        way_end = way_last h t.home t.name here t.free;
      })

  -- a field whose type name names no map entry
  module _ (m : Node) (around : Memᴰ m (set_nodes set)) (f : FieldDescriptor) (field : Memᴰ f m.message.fields)
      (no_entry : (n : Node) → Memᴰ n (set_nodes set) → n.message.map_entry ≡ true → names_it (scope_of (names_of n)) f ≡ true → ⊥)
    where
      entry_apart : (e : Entry) → Memᴰ e (set_entries set) → e.full ≡ text f.type_name → e.message.map_entry ≡ false
      entry_apart e i q = ⊎_elim (λ is. absurd (clash is)) (λ is. is) (bool_cases e.message.map_entry)
        where
          clash : e.message.map_entry ≡ true → ⊥
          clash is =
              let r = in_set set e i in
              no_entry r.at (mem_all_of file_nodes set r.in_set r.in_file) (ap (λ (z : Entry). z.message.map_entry) r.is ∙ is)
              (names_full (text r.at.message.name) r.at.home f.type_name (ap (λ (z : Entry). z.full) r.is ∙ q))

      target : (names_struct f || names_enum f) ≡ true → Target rs set (text f.type_name)
      target n =
          ⊎_elim (λ s. field_struct rs set good f (field_in_set set m around f field) s entry_apart) (λ s. field_enum rs set good f (field_in_set set m around f field) s) (or_cases (names_struct f) (names_enum f) n)

      field_path : (base h : List Bytes) → Every DotFree h → FieldPath rs base (Reached rs set) (map to_snake h) (scope_of h) f
      field_path base h here n out gs at =
          reaches rs set says_yes h (type (text f.type_name)) (use_at base gs (some (type (text f.type_name))) (written_path (way (scope_of h) (text f.type_name)))) at refl
          (hits_type h here (text f.type_name) (target n) out)

  -- ---- the paths of a message that is written
  module _ (f : FileDescriptor) (i : Memᴰ f set) (n : Node) (j : Memᴰ n (file_nodes f)) where
    in_nodes : Memᴰ n (set_nodes set)
    in_nodes = mem_all_of file_nodes set i j

    fine : FineNode n
    fine = fine_node f (well_formed rs set good f i) n j

    -- a message nested in it
    child : (c : Node) → Memᴰ c (tops (names_of n) n.nested) → Memᴰ c (file_nodes f)
    child c k = nested_nodes (package_names f) f.messages n j c (tops_nodes (names_of n) n.nested c k)

    child_entry : (c : Node) → Memᴰ c (tops (names_of n) n.nested) → c.message.map_entry ≡ true → GoodEntry c.message
    child_entry c k = (fine_node f (well_formed rs set good f i) c (child c k)).entry

    -- a field that isn't repeated names no map entry
    optional_apart : (m : Node) → Memᴰ m (set_nodes set) → (g : FieldDescriptor) → Memᴰ g m.message.fields → is_repeated g ≡ false
        → (e : Node) → Memᴰ e (set_nodes set) → e.message.map_entry ≡ true → names_it (scope_of (names_of e)) g ≡ true → ⊥
    optional_apart m k g l r e o is named =
        both_ways (and_left (is_repeated g) (is_message g && names_it (scope_of (names_of e)) g) (maps_entry set good e o is m k g l named)) r

    plain_path : (base : List Bytes) (g : FieldDescriptor) → Memᴰ g n.message.fields → (e : Option MapEntry) → map_entry_of (scope_of (names_of n)) n.nested g.type_name ≡ e
        → FieldPaths rs base (Reached rs set) (map to_snake n.home) (scope_of n.home) g e
    plain_path base g k none q =
        field_path n in_nodes g k
        (λ e o is named.
        entry_found (names_of n) n.nested g.type_name child_entry e (nested_in set good e o is n in_nodes g k named) is
        (named_full g.type_name named) q)
        base n.home fine.free.1
      where
        named_full : {x : Bytes} (o : Option Bytes) → is_text x o ≡ true → x ≡ text o
        named_full none h = both_ways h refl
        named_full {x} (some y) h = sym (same_sound y x h)
    plain_path base g k (some e) q =
        let c = entry_at (names_of n) n.nested g.type_name e q in
        let there = mem_all_of file_nodes set i (child c.at c.there) in
        let entry = child_entry c.at c.there c.is_entry in
        let is : ◌≡◌ {A = Option MapEntry} (some (record { key = entry.key; value = entry.value })) (some e) = ap entry_fields (sym entry.two_fields) ∙ c.holds in
        let key : entry.key ≡ e.key = cc in
        let value : entry.value ≡ e.value = cc in
        let fields : c.at.message.fields ≡ e.key ∷ (e.value ∷ []) = entry.two_fields ∙ (cc) in
        let key_in : Memᴰ e.key c.at.message.fields = rw fields (mathlib.Core.List.Memᴰ.head refl) in
        let value_in : Memᴰ e.value c.at.message.fields = rw fields (mathlib.Core.List.Memᴰ.tail (mathlib.Core.List.Memᴰ.head refl)) in
        let key_label : e.key.label ≡ some 1 = subst (λ (z : FieldDescriptor). z.label ≡ some 1) key entry.key_field.optional in
        let value_label : e.value.label ≡ some 1 = subst (λ (z : FieldDescriptor). z.label ≡ some 1) value entry.value_field.optional in (
          field_path c.at there e.key key_in (optional_apart c.at there e.key key_in (not_repeated e.key key_label)) base n.home fine.free.1,
          field_path c.at there e.value value_in (optional_apart c.at there e.value value_in (not_repeated e.value value_label)) base n.home fine.free.1,
        )

    variant_path : (base : List Bytes) (x : OneofField) → Memᴰ x (oneof_fields n.message n.nested) → (g : FieldDescriptor) → Memᴰ g x.fields
        → FieldPath rs base (Reached rs set) (map to_snake (names_of n)) (scope_of (names_of n)) g
    variant_path base x k g l =
        let (index, is) = oneof_at n.message n.nested 0 n.message.oneofs x k in
        let own = at_mem index g n.message.fields (subst (λ (z : List FieldDescriptor). Memᴰ g z) is l) in
        let good_field = every_at (GoodField (length n.message.oneofs)) n.message.fields fine.good.fields own.0 in
        let label : g.label ≡ some 1 = (good_field.in_oneof index (in_oneof g index own.1)).1 in
        field_path n in_nodes g own.0 (optional_apart n in_nodes g own.0 (not_repeated g label)) base (names_of n) fine.free

    oneof_path : (base : List Bytes) → n.message.map_entry ≡ false → taken rs (scope_of (names_of n)) ≡ false → (x : OneofField) → Memᴰ x (oneof_fields n.message n.nested)
        → OneofPath rs base (Reached rs set) (map to_snake n.home) (scope_of (names_of n)) (text n.message.name) x
    unfolding file_nameds
    oneof_path base e t x k gs at =
        reaches rs set says_yes n.home (choice (scope_of (names_of n)) x.name) (use_at base gs (some (choice (scope_of (names_of n)) x.name)) (written_path (oneof_way (text n.message.name) x))) at refl
        (record {
          goal = oneof_named (names_of n) x;
          there =
              file_within rs set f i (oneof_named (names_of n) x)
              (mathlib.Core.List.Memᴰ.append_left (enum_nameds rs (package_names f) f.enums)
              (node_there rs (package_names f) f.messages (well_formed rs set good f i).nothing_nested n j e t (oneof_named (names_of n) x) (oneof_in_node rs n x k)));
          for = refl;
          way_in = record { turn = n.home; steps = text n.message.name ∷ []; out = omega arith; back = refl; inwards = refl; meets = refl };
          way_end = refl;
        })

    node_paths : (base : List Bytes) → n.message.map_entry ≡ false → taken rs (scope_of (names_of n)) ≡ false → NodePaths rs base (Reached rs set) n
    node_paths base e t =
        record {
          fields = λ g k. plain_path base g (plain_mem g n.message.fields k) (map_entry_of (scope_of (names_of n)) n.nested g.type_name) refl;
          oneofs = λ x k. oneof_path base e t x k;
          variants = λ x k g l. variant_path base x k g l;
        }

  all_fine : Every (Fine (Reached rs set)) (set_sights rs set)
  all_fine =
      subst (λ (l : List Sight). Every (Fine (Reached rs set)) l) (sym (set_sights_are rs set))
      (every_of (Fine (Reached rs set)) (written_sights rs set) set
      (every_mem (λ (f : FileDescriptor). Every (Fine (Reached rs set)) (written_sights rs set f)) set
      (λ f i. fine_file rs set (Reached rs set) f (λ n j. node_paths f i n j (file_place f)))))

  -- every path that is seen in the texts reaches exactly one declaration, the one that it is for
  pub paths_reach : (u : Use) → Memᴰ u (uses (set_sights rs set)) → ReachesOne (world rs set) u
  paths_reach = fine_uses (Reached rs set) (set_sights rs set) all_fine
