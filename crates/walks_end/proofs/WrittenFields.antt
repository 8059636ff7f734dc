-- The written fields, in a set without refusals 6 and 7: all fields of the messages that are no map entries and that no extern path takes; the
-- structs of these are seen in the texts. Assumes nothing.
use Rattle.std.specs.Prelude.{ℕ, zero, suc, ◌+◌, ◌<◌, ◌≡◌, Bool, ◌||◌, ◌↔◌, length, Ok}
use Rattle.std.proofs.Common.{arith, ap, sym, ◌∙◌, eq-eqb}
use Rattle.std.proofs.Math.Path.{refl, subst}
use Rattle.std.proofs.Math.Bool.{true, false}
use Rattle.std.proofs.Math.Option.{Option, some, none}
use Rattle.std.proofs.Math.Logic.{⊎_elim}
use mathlib.Core.List.{List, [], ◌∷◌, ◌++◌, map, Memᴰ}
use Rattle.base.specs.Choose.{choose, choose_case}
use Rattle.base.specs.Tests.{both_ways, or_false_left, or_false_right, not_implied}
use Rattle.base.specs.Lists.{all_of, is_empty}
use Rattle.descriptor.specs.Descriptor.{Bytes, Forest, done, node, FieldDescriptor, MessageDescriptor, FileDescriptor}
use Rattle.options.specs.Settings.{Setting}
use Rattle.extern_paths.specs.ExternPaths.{taken}
use Rattle.name_rules.specs.Accessors.{text}
use Rattle.name_rules.specs.FullNames.{package_scope}
use Rattle.name_rules.specs.WellFormed.{GoodField}
use Rattle.name_rules.specs.Answer.{names}
use Rattle.code_generator.specs.Piece.{Owned}
use Rattle.code_generator.specs.Oneofs.{OneofField, oneof_of, is_plain, is_at, plain_fields, fields_at, meets, oneofs_from, oneof_fields}
use Rattle.sights.specs.Sights.{Item, Sight, items, set_sights}
use Rattle.text_sights.specs.Written.{written_sights}
use Rattle.text_sights.proofs.TextReads.{set_sights_are}
use Rattle.paths_reach.specs.Dots.{scope_of, scope_of_names, dotted_package}
use Rattle.paths_reach.specs.Written.{item_of, type_named, enum_nameds, file_nameds, package_names}
use Rattle.paths_reach.specs.Nodes.{Node, names_of, nodes, file_nodes, items_of_file}
use Rattle.paths_reach.specs.Homes.{mem_all_of, of_all_of}
use Rattle.paths_reach.specs.Closed.{every_at}
use Rattle.paths_reach.specs.There.{Childless, taken_nodes, no_entry_around, node_there, struct_in_node}
use Rattle.paths_reach.specs.Targets.{fine_node}
use Rattle.paths_reach.specs.Types.{well_formed}
use Rattle.paths_reach.specs.Entries.{set_nodes}
use Rattle.paths_reach.proofs.PathsReach.{plain_mem, at_mem, oneof_at, in_oneof}
use Rattle.walks_end.specs.BoxedFields.{owned, written_in, written_fields}
use Rattle.walks_end.specs.Owners.{items_all}

-- a field of a message whose struct is written
pub record Written (rs : List Setting) (ns : List Node) (o : Owned) : Type 0 where
  pub at : Node
  pub there : Memᴰ at ns
  pub no_entry : at.message.map_entry ≡ false
  pub outside : taken rs (scope_of (names_of at)) ≡ false
  pub message : o.message ≡ scope_of (names_of at)
  pub field : Memᴰ o.field at.message.fields

-- ---- a field is plain, or in a oneof that is left with fields
mem_plain : (f : FieldDescriptor) (fs : List FieldDescriptor) → Memᴰ f fs → is_plain (oneof_of f) ≡ true → Memᴰ f (plain_fields fs)
unfolding plain_fields choose
mem_plain f [] i h = i
mem_plain f (g ∷ fs) i h =
    ⊎_elim (λ e. let here : is_plain (oneof_of g) ≡ true = ap (λ (z : FieldDescriptor). is_plain (oneof_of z)) (sym e) ∙ h in rw here (mathlib.Core.List.Memᴰ.head e))
    (λ j. choose_case (λ (l : List FieldDescriptor). Memᴰ f l) (is_plain (oneof_of g)) (λ _. mathlib.Core.List.Memᴰ.tail (mem_plain f fs j h)) (λ _. mem_plain f fs j h)) (mathlib.Core.List.Memᴰ.cases_cons i)

mem_at : (k : ℕ) (f : FieldDescriptor) (fs : List FieldDescriptor) → Memᴰ f fs → is_at k (oneof_of f) ≡ true → Memᴰ f (fields_at k fs)
unfolding fields_at choose
mem_at k f [] i h = i
mem_at k f (g ∷ fs) i h =
    ⊎_elim (λ e. let here : is_at k (oneof_of g) ≡ true = ap (λ (z : FieldDescriptor). is_at k (oneof_of z)) (sym e) ∙ h in rw here (mathlib.Core.List.Memᴰ.head e))
    (λ j. choose_case (λ (l : List FieldDescriptor). Memᴰ f l) (is_at k (oneof_of g)) (λ _. mathlib.Core.List.Memᴰ.tail (mem_at k f fs j h)) (λ _. mem_at k f fs j h)) (mathlib.Core.List.Memᴰ.cases_cons i)

not_empty : {A : Type 0} (x : A) (xs : List A) → Memᴰ x xs → is_empty xs ≡ false
not_empty x [] i = absurd (mathlib.Core.List.Memᴰ.not-nil i)
not_empty x (y ∷ xs) i = refl

oneof_there : (m : MessageDescriptor) (nested : Forest MessageDescriptor) (f : FieldDescriptor) (k : ℕ) → Memᴰ f (fields_at k m.fields) → (i j : ℕ) (ns : List (Option Bytes)) → k ≡ i + j → j < length ns
    → (x : OneofField) × Memᴰ x (oneofs_from m nested i ns) × Memᴰ f x.fields
unfolding oneofs_from choose
oneof_there m nested f k own i j [] e l = absurd (omega arith)
oneof_there m nested f k own i zero (n ∷ ns) e l =
    let here : k ≡ i = omega arith in
    let mine = subst (λ (z : ℕ). Memᴰ f (fields_at z m.fields)) here own in
    let some_there : is_empty (fields_at i m.fields) ≡ false = not_empty f (fields_at i m.fields) mine in
    let x : OneofField = record { name = text n; fields = fields_at i m.fields; has_type_name_conflict = meets m nested (text n) } in
    (x, rw some_there (mathlib.Core.List.Memᴰ.head refl), mine)
oneof_there m nested f k own i (suc j) (n ∷ ns) e l =
    let (x, there, mine) = oneof_there m nested f k own (suc i) j ns (omega arith) (omega arith) in
    (x, choose_case (λ (l : List OneofField). Memᴰ x l) (is_empty (fields_at i m.fields)) (λ _. there) (λ _. mathlib.Core.List.Memᴰ.tail there), mine)

-- ---- what is written of a message
module _ (rs : List Setting) where
  abbrev own : Node → List Owned
  own n =
      let full = scope_of (names_of n) in
      map (owned full) (plain_fields n.message.fields) ++ (written_in rs full n.nested ++ all_of (λ (x : OneofField). map (owned full) x.fields) (oneof_fields n.message n.nested))

  field_own : (n : Node) (f : FieldDescriptor) → Memᴰ f n.message.fields → GoodField (length n.message.oneofs) f → Memᴰ (owned (scope_of (names_of n)) f) (own n)
  field_own n f i good = go (oneof_of f) refl
    where
      full : Bytes
      full = scope_of (names_of n)

      go : (o : Option ℕ) → oneof_of f ≡ o → Memᴰ (owned full f) (own n)
      go none e = mathlib.Core.List.Memᴰ.append_left _ (mathlib.Core.List.Memᴰ.map (owned full) (mem_plain f n.message.fields i (ap is_plain e)))
      go (some k) e =
          let at : is_at k (oneof_of f) ≡ true = ap (is_at k) e ∙ eq-eqb k k refl in
          let below = (good.in_oneof k (in_oneof f k at)).0 in
          let (x, there, mine) = oneof_there n.message n.nested f k (mem_at k f n.message.fields i at) 0 k n.message.oneofs (omega arith) below in
          mathlib.Core.List.Memᴰ.append_right (map (owned full) (plain_fields n.message.fields))
          (mathlib.Core.List.Memᴰ.append_right (written_in rs full n.nested) (mem_all_of (λ (x : OneofField). map (owned full) x.fields) (oneof_fields n.message n.nested) there (mathlib.Core.List.Memᴰ.map (owned full) mine)))

  not_left_out : (a c : Bool) → a ≡ false → c ≡ false → (o : Owned) (os : List Owned) → Memᴰ o os → Memᴰ o (choose (a || c) [] os)
  unfolding choose
  not_left_out false false p q o os k = k
  not_left_out true c p q o os k = both_ways refl p
  not_left_out false true p q o os k = both_ways refl q

  -- a message that is written, with all of its fields
  node_written : (h : List Bytes) (ms : Forest MessageDescriptor) → Childless ms → (n : Node) → Memᴰ n (nodes h ms) → n.message.map_entry ≡ false → taken rs (scope_of (names_of n)) ≡ false
      → (o : Owned) → Memᴰ o (own n) → Memᴰ o (written_in rs (scope_of h) ms)
  unfolding nodes written_in
  node_written h done c n i e t o k = absurd (mathlib.Core.List.Memᴰ.not-nil i)
  node_written h (node m nested following) c n i e t o k =
      let full = text m.name ∷ h in
      let self : Node = record { home = h; message = m; nested = nested } in
      let rest = written_in rs (scope_of h) following in
      ⊎_elim
      (λ q.
      let entry : m.map_entry ≡ false = subst (λ (z : Node). z.message.map_entry ≡ false) q e in
      let out : taken rs (scope_of full) ≡ false = subst (λ (z : Node). taken rs (scope_of (names_of z)) ≡ false) q t in
      mathlib.Core.List.Memᴰ.append_left rest (not_left_out m.map_entry (taken rs (scope_of full)) entry out o (own self) (subst (λ (z : Node). Memᴰ o (own z)) q k)))
      (λ j.
      ⊎_elim
      (λ l.
      let entry : m.map_entry ≡ false = no_entry_around m nested c.0 full n l in
      let out : taken rs (scope_of full) ≡ false = not_implied (λ s. taken_nodes rs (text m.name) h nested s n l) t in
      let deep = node_written full nested c.1.0 n l e t o k in
      mathlib.Core.List.Memᴰ.append_left rest
      (not_left_out m.map_entry (taken rs (scope_of full)) entry out o (own self)
      (mathlib.Core.List.Memᴰ.append_right (map (owned (scope_of full)) (plain_fields m.fields)) (mathlib.Core.List.Memᴰ.append_left (all_of (λ (x : OneofField). map (owned (scope_of full)) x.fields) (oneof_fields m nested)) deep))))
      (λ l. mathlib.Core.List.Memᴰ.append_right (choose (m.map_entry || taken rs (scope_of full)) [] (own self)) (node_written h following c.1.1 n l e t o k))
      (mathlib.Core.List.Memᴰ.append_cases (nodes full nested) j))
      (mathlib.Core.List.Memᴰ.cases_cons i)

  wider : (ms ns : List Node) → ((n : Node) → Memᴰ n ms → Memᴰ n ns) → (o : Owned) → Written rs ms o → Written rs ns o
  wider ms ns w o k = record { at = k.at; there = w k.at k.there; no_entry = k.no_entry; outside = k.outside; message = k.message; field = k.field }

  -- and nothing else is written
  written_node : (h : List Bytes) (ms : Forest MessageDescriptor) (o : Owned) → Memᴰ o (written_in rs (scope_of h) ms) → Written rs (nodes h ms) o
  unfolding nodes written_in choose
  written_node h done o i = absurd (mathlib.Core.List.Memᴰ.not-nil i)
  written_node h (node m nested following) o i =
      ⊎_elim (λ j. go (m.map_entry || taken rs (scope_of full)) refl j (written_node full nested o))
      (λ j. wider (nodes h following) (nodes h (node m nested following)) (λ n k. mathlib.Core.List.Memᴰ.tail (mathlib.Core.List.Memᴰ.append_right (nodes full nested) k)) o (written_node h following o j))
      (mathlib.Core.List.Memᴰ.append_cases (choose (m.map_entry || taken rs (scope_of full)) [] (own self)) i)
    where
      full : List Bytes
      full = text m.name ∷ h

      self : Node
      self = record { home = h; message = m; nested = nested }

      all_nodes : List Node
      all_nodes = nodes h (node m nested following)

      mine : (m.map_entry || taken rs (scope_of full)) ≡ false → (f : FieldDescriptor) → Memᴰ f m.fields → o ≡ owned (scope_of full) f → Written rs all_nodes o
      mine out f k e =
          record {
            at = self;
            there = mathlib.Core.List.Memᴰ.head refl;
            no_entry = or_false_left m.map_entry (taken rs (scope_of full)) out;
            outside = or_false_right m.map_entry (taken rs (scope_of full)) out;
            message = ap (λ (z : Owned). z.message) e;
            field = subst (λ (z : Owned). Memᴰ z.field m.fields) (sym e) k;
          }

      go : (t : Bool) → (m.map_entry || taken rs (scope_of full)) ≡ t → Memᴰ o (choose t [] (own self)) → (Memᴰ o (written_in rs (scope_of full) nested) → Written rs (nodes full nested) o) → Written rs all_nodes o
      go true out k inner = absurd (mathlib.Core.List.Memᴰ.not-nil k)
      go false out k inner =
          ⊎_elim (λ l. let (f, j, e) = mathlib.Core.List.Memᴰ.of_map (owned (scope_of full)) (plain_fields m.fields) l in mine out f (plain_mem f m.fields j) (sym e))
          (λ l.
          ⊎_elim (λ j. wider (nodes full nested) all_nodes (λ n d. mathlib.Core.List.Memᴰ.tail (mathlib.Core.List.Memᴰ.append_left (nodes h following) d)) o (inner j))
          (λ j.
          let (x, d, p) = of_all_of (λ (x : OneofField). map (owned (scope_of full)) x.fields) (oneof_fields m nested) j in
          let (f, q, e) = mathlib.Core.List.Memᴰ.of_map (owned (scope_of full)) x.fields p in
          let (index, is) = oneof_at m nested 0 m.oneofs x d in
          mine out f (at_mem index f m.fields (subst (λ (z : List FieldDescriptor). Memᴰ f z) is q)).0 (sym e))
          (mathlib.Core.List.Memᴰ.append_cases (written_in rs (scope_of full) nested) l))
          (mathlib.Core.List.Memᴰ.append_cases (map (owned (scope_of full)) (plain_fields m.fields)) k)

module _ (rs : List Setting) (set : List FileDescriptor) (good : names set ≡ Ok tt) where
  file_scope : (f : FileDescriptor) → written_in rs (package_scope f.package_name) f.messages ≡ written_in rs (scope_of (package_names f)) f.messages
  file_scope f = ap (λ (s : Bytes). written_in rs s f.messages) (sym (scope_of_names (dotted_package f.package_name)))

  pub written_is : (o : Owned) → Memᴰ o (written_fields rs set) ↔ Written rs (set_nodes set) o
  unfolding written_fields
  written_is o = (
    λ i.
        let (f, j, k) = of_all_of (λ (f : FileDescriptor). written_in rs (package_scope f.package_name) f.messages) set i in
        wider rs (file_nodes f) (set_nodes set) (λ n l. mem_all_of file_nodes set j l) o (written_node rs (package_names f) f.messages o (subst (λ (l : List Owned). Memᴰ o l) (file_scope f) k)),
    λ w.
        let n = w.at in
        let (f, j, k) = of_all_of file_nodes set w.there in
        let good_field = every_at (GoodField (length n.message.oneofs)) n.message.fields (fine_node f (well_formed rs set good f j) n k).good.fields w.field in
        let here : Memᴰ (owned (scope_of (names_of n)) o.field) (own rs n) = field_own rs n o.field w.field good_field in
        let there = node_written rs (package_names f) f.messages (well_formed rs set good f j).nothing_nested n k w.no_entry w.outside o (subst (λ (z : Bytes). Memᴰ (owned z o.field) (own rs n)) (sym w.message) here) in
        mem_all_of (λ (f : FileDescriptor). written_in rs (package_scope f.package_name) f.messages) set j (subst (λ (l : List Owned). Memᴰ o l) (sym (file_scope f)) there),
  )

  -- the struct of such a message is seen
  pub struct_seen : (n : Node) → Memᴰ n (set_nodes set) → n.message.map_entry ≡ false → taken rs (scope_of (names_of n)) ≡ false
      → Memᴰ (item_of (type_named n.home (text n.message.name))) (items (set_sights rs set))
  unfolding file_nameds
  struct_seen n i e t =
      let (f, j, k) = of_all_of file_nodes set i in
      let named = type_named n.home (text n.message.name) in
      let there = mathlib.Core.List.Memᴰ.append_left (enum_nameds rs (package_names f) f.enums) (node_there rs (package_names f) f.messages (well_formed rs set good f j).nothing_nested n k e t named (struct_in_node rs n)) in
      let in_file : Memᴰ (item_of named) (items (written_sights rs set f)) = subst (λ (l : List Item). Memᴰ (item_of named) l) (sym (items_of_file rs set f)) (mathlib.Core.List.Memᴰ.map item_of there) in
      subst (λ (ss : List Sight). Memᴰ (item_of named) (items ss)) (sym (set_sights_are rs set)) (items_all (written_sights rs set) set f j (item_of named) in_file)
