-- The messages of a set with what is nested in them: the number behind it, and the map entries that their fields name. Assumes nothing.
use Rattle.std.specs.Prelude.{◌≡◌, refl, ◌&&◌, ◌⊎◌, ℕ, ◌+◌, ◌<◌, length, None, Ok}
use Rattle.std.proofs.Math.Path.{sym, ap}
use Rattle.std.proofs.Common.{◌∙◌, subst, ltb-false}
use Rattle.std.proofs.Math.Bool.{Bool, true, false}
use mathlib.Core.List.{List, [], ◌∷◌, ◌++◌, map, Memᴰ}
use Rattle.std.proofs.Math.Logic.{inl, inr, ⊎_elim}
use Rattle.std.proofs.Math.Option.{Option, none}
use native.Mathlib.Omega.{arith}
use Rattle.base.specs.Bytes.{same, same_refl, same_sound}
use Rattle.base.specs.Choose.{choose}
use Rattle.base.specs.Lists.{Every, all_every, none_fails}
use Rattle.base.specs.Tests.{bool_cases, both_ways, and_left, and_right, and_both, or_left}
use Rattle.descriptor.specs.Descriptor.{Bytes, Forest, done, node, FieldDescriptor, MessageDescriptor, FileDescriptor}
use Rattle.descriptor.specs.Decode.{decode_message, decode_set}
use Rattle.index.specs.Tree.{size}
use Rattle.name_rules.specs.Accessors.{text, is_repeated, is_message, is_group}
use Rattle.name_rules.specs.Rules.{file_good}
use Rattle.name_rules.specs.FullNames.{◌·◌, package_scope, Entry, entries, set_entries, fields_of_entries, set_fields}
use Rattle.name_rules.specs.MapEntries.{names_it, entry_named, entries_named, map_entries_named}
use Rattle.name_rules.specs.Answer.{file_named, first_six, names}
use Rattle.context_laws.specs.At.{At, at_one, mem_of_at}
use Rattle.context_laws.specs.Tables.{Row, rows_of, type_name_of, Sound}
use Rattle.context_laws.specs.Tables as tables
use Rattle.context_laws.specs.Numbers.{find_entry}
use Rattle.context_laws.specs.Rows.{first_row}
use Rattle.context_laws.proofs.Rows.{find_owner, row_of, row_typed}
use Rattle.name_rules.proofs.NamesLaws.{no_refusals}
use Rattle.text_tables.specs.Rows.{message_row, field_row}
use Rattle.text_tables.specs.declared.MessageRow.{MessageRow}
use Rattle.text_tables.specs.declared.FieldRow.{FieldRow}
use Rattle.code_generator.specs.MapFields.{entry_of, map_entry_of}
use Rattle.members.specs.Members.{entry_at, map_entry_at}
use Rattle.table_says.specs.Says.{PlaceSays, Numbered, NumberedFiles, NodeSays}
use Rattle.table_laws.specs.EntryPlaces.{chosen}
use Rattle.table_laws.specs.AfterLaws.{Afters, FileAfters}
use Rattle.table_laws.specs.Counts.{names_from, only_owner, only_maps}
use Rattle.table_laws.specs.Parents.{every_at, Stand, stand_first, stand_tail, stand_left, stand_right, entries_size, Solid, solid_set, Reach, reach_from, Parent, files_found}
use Rattle.table_laws.specs.Parents.Reach.{stop, step}

-- ---- what map_entry_of finds among the messages of a scope, numbered from i on

module _ (es : List Entry) (fields parent : List FieldDescriptor) (after : ℕ → ℕ) (x : Option Bytes) where
  record Found (scope : Bytes) (F : Forest MessageDescriptor) : Type 0 where
    entry : Entry
    number : ℕ
    at : At entry es number
    is : entry.message.map_entry ≡ true
    full : entry.full ≡ text x
    named : entry_named fields parent entry.full ≡ true
    gives : map_entry_of scope F x ≡ entry_of entry.message.fields

  record Missing (scope : Bytes) (i : ℕ) (F : Forest MessageDescriptor) : Type 0 where
    gives : map_entry_of scope F x ≡ none
    no : (p : ℕ) (e : Entry) → Reach after p i → p < i + size F → At e es p → e.message.map_entry ≡ true → e.full ≡ text x → ⊥

  look : (F : Forest MessageDescriptor) (scope : Bytes) (i : ℕ) → Stand es i (entries scope F) → Afters after i F → entries_named fields parent scope F ≡ true → Found scope F ⊎ Missing scope i F
  unfolding entries entries_named map_entry_of size choose
  look done scope i stand afters named = inr (record { gives = refl; no = λ p e reach less at is full. let from = reach_from reach in omega arith })
  look (node m nested following) scope i stand afters named =
      let inner : Bytes = scope · text m.name in
      let head : Entry = record { full = inner; message = m } in
      let here : List Entry = entries inner nested in
      let next : List Entry = entries scope following in
      let test : Bool = m.map_entry && same inner (text x) in
      let own = choose m.map_entry (entry_named fields parent inner) true in
      let both = entries_named fields m.fields inner nested && entries_named fields parent scope following in
      let this : At head es i = stand_first es i head (here ++ next) stand in
      ⊎_elim
      (λ w.
      let entry = and_left m.map_entry (same inner (text x)) w in
      inl (record {
        entry = head;
        number = i;
        at = this;
        is = entry;
        full = same_sound inner (text x) (and_right m.map_entry (same inner (text x)) w);
        named = rw entry at (and_left own both named);
        gives = rw w;
      }))
      (λ w.
      ⊎_elim
      (λ v. inl (record { entry = v.entry; number = v.number; at = v.at; is = v.is; full = v.full; named = v.named; gives = rw w v.gives }))
      (λ v.
      inr (record {
        gives = rw w v.gives;
        no = λ p e reach less at is full.
            passed p reach
            (λ same_place.
            let one : e ≡ head = at_one at (subst (At head es) (sym same_place) this) in
            both_ways (and_both (ap (λ (z : Entry). z.message.map_entry) (sym one) ∙ is) (ap (same inner) (sym full ∙ ap (λ (z : Entry). z.full) one) ∙ same_refl inner)) w)
            (λ on. v.no p e (subst (Reach after p) afters.0 on) (omega arith) at is full);
      }))
      (look following scope (i + 1 + size nested) (stand_right es (i + 1) (size nested) here next (entries_size inner nested) (stand_tail es i head (here ++ next) stand)) afters.1.1 (and_right (entries_named fields m.fields inner nested) (entries_named fields parent scope following) (and_right own both named))))
      (bool_cases test)
    where
      passed : (p : ℕ) {i : ℕ} → Reach after p i → (p ≡ i → ⊥) → (Reach after p (after i) → ⊥) → ⊥
      passed p (stop e) f g = f e
      passed p (step l r) f g = g r

-- ---- each map entry among the files is named as it must be

pub entries_are_named : (ds : List FileDescriptor) → names ds ≡ Ok tt → Every (λ (f : FileDescriptor). map_entries_named (set_fields ds) f ≡ true) ds
unfolding first_six file_named
entries_are_named ds good =
    all_every (λ (f : FileDescriptor). map_entries_named (set_fields ds) f ≡ true) (file_named (set_fields ds)) (λ f g. and_right (file_good f) (map_entries_named (set_fields ds) f) g) ds
    (none_fails (file_named (set_fields ds)) ds (ltb-false (first_six ds) (length ds) (no_refusals ds good).0))

-- a repeated message field of the message that d stands in
pub record MapField (r : Row) (d : Entry) : Type 0 where
  pub repeated : is_repeated r.field ≡ true
  pub message : is_message r.field ≡ true
  pub name : Bytes
  pub inside : d.full ≡ r.full · name

-- ---- a set without refusals 6 and 7; after: the number behind what is nested in a message

module _ (ds : List FileDescriptor) (s : Sound (set_entries ds)) (good : names ds ≡ Ok tt) (after : ℕ → ℕ)
    (afters : FileAfters after 0 (map (λ (f : FileDescriptor). f.messages) ds)) where
  abbrev es : List Entry
  es = set_entries ds

  abbrev fields : List FieldDescriptor
  fields = fields_of_entries es

  -- the message around the map entry e
  parent_of : (e : Entry) (p : ℕ) → At e es p → e.message.map_entry ≡ true → Parent es fields after e.full p
  parent_of e p at is =
      subst (Parent es fields after e.full) (let z : 0 + p ≡ p = omega arith in z)
      (files_found es fields after ds 0 (λ x k a. subst (At x es) (let z : k ≡ 0 + k = omega arith in z) a) afters (entries_are_named ds good) e p at is)

  -- a field whose type name is a map entry's is a repeated message field of the message around it
  pub entry_typed : (r : Row) (k : ℕ) → At r (rows_of es) k → (d : Entry) (p : ℕ) → At d es p → d.message.map_entry ≡ true → d.full ≡ type_name_of r → MapField r d
  entry_typed r k at d p there is full =
      let home = find_owner 0 es r (mem_of_at at) in
      let around = parent_of d p there is in
      let named = names_from r.field.type_name d.full (every_at Solid there (solid_set ds)) full in
      let same_message : around.number ≡ home.place = only_owner around.at d.full around.named home.at r.field home.own named in
      let one : around.entry ≡ home.entry = at_one around.at (subst (At home.entry es) (sym same_message) home.at) in
      let maps = only_maps around.at d.full around.named r.field (subst (λ (e : Entry). Memᴰ r.field e.message.fields) (sym one) home.own) named in
      let message = and_right (is_repeated r.field) (is_message r.field && names_it d.full r.field) maps in
      record {
        repeated = and_left (is_repeated r.field) (is_message r.field && names_it d.full r.field) maps;
        message = and_left (is_message r.field) (names_it d.full r.field) message;
        name = around.name;
        inside = around.inside ∙ ap (λ (e : Entry). e.full · around.name) one ∙ ap (λ (x : Bytes). x · around.name) home.name;
      }

  module _ (set : List ℕ) (t : List FieldRow)
      (place : (r : Row) (k : ℕ) → At r (rows_of es) k → is_message r.field ≡ true → (e : Entry) (j : ℕ) → At e es j → e.full ≡ type_name_of r → PlaceSays set (is_repeated r.field) e.message (field_row t k))
      (no_place : (r : Row) (k : ℕ) → At r (rows_of es) k → is_message r.field ≡ false → (field_row t k).entry ≡ None) where
    entry_there : {e : Entry} {i : ℕ} (at : At e es i) {f : FieldDescriptor} {j : ℕ} → At f e.message.fields j → (d : Entry) (p : ℕ) → At d es p → d.message.map_entry ≡ true → d.full ≡ text f.type_name
        → is_repeated f ≡ true → is_message f ≡ true → map_entry_at set t (first_row es i + j) ≡ entry_of d.message.fields
    unfolding entry_at choose decode_message
    entry_there {e} {i} at {f} {j} own d p there is full repeated message =
        let says = place (tables.field_row i e f) (first_row es i + j) (row_of at own) message d p there full in
        let picked : choose (is_repeated f) d.message.map_entry false ≡ true = rw (repeated, is) in
        let lies = says.there picked in
        ap (entry_at set) lies.1.0 ∙ ap (λ (m : MessageDescriptor). entry_of m.fields) lies.1.1

    module _ {e : Entry} {i : ℕ} (at : At e es i) (nested : Forest MessageDescriptor) (behind : after i ≡ i + 1 + size nested) {f : FieldDescriptor} {j : ℕ} (own : At f e.message.fields j) where
      abbrev k : ℕ
      k = first_row es i + j

      abbrev r : Row
      r = tables.field_row i e f

      none_there : Missing es fields e.message.fields after f.type_name e.full (i + 1) nested → (field_row t k).entry ≡ None
      none_there missing =
          let p : At r (rows_of es) k = row_of at own in
          ⊎_elim
          (λ message.
          let typed = find_entry es (type_name_of r) (row_typed s p (or_left (is_group f) message)) in
          let d = typed.entry in
          let says = place r k p message d typed.number typed.at typed.name in
          ⊎_elim
          (λ picked.
          let is = chosen (is_repeated f) d.message.map_entry picked in
          let around = parent_of d typed.number typed.at is in
          let named = names_from f.type_name d.full (every_at Solid typed.at (solid_set ds)) typed.name in
          let same_message : around.number ≡ i = only_owner around.at d.full around.named at f (mem_of_at own) named in
          let below = around.below in
          let less : typed.number < i + 1 + size nested = subst (λ (n : ℕ). typed.number < n) (ap after same_message ∙ behind) below in
          absurd (missing.no typed.number d (subst (λ (n : ℕ). Reach after typed.number (n + 1)) same_message around.reach) less typed.at is typed.name))
          (λ unpicked. says.nowhere unpicked)
          (bool_cases (choose (is_repeated f) d.message.map_entry false)))
          (λ other. no_place r k p other)
          (bool_cases (is_message f))

      pub map_entry_is : Stand es (i + 1) (entries e.full nested) → Afters after (i + 1) nested → entries_named fields e.message.fields e.full nested ≡ true
          → map_entry_at set t k ≡ map_entry_of e.full nested f.type_name
      unfolding entry_at choose
      map_entry_is stand inside named =
          ⊎_elim
          (λ found.
          let d = found.entry in
          let is_named = names_from f.type_name d.full (every_at Solid found.at (solid_set ds)) found.full in
          let maps = only_maps at d.full found.named f (mem_of_at own) is_named in
          let message = and_right (is_repeated f) (is_message f && names_it d.full f) maps in
          entry_there at own d found.number found.at found.is found.full (and_left (is_repeated f) (is_message f && names_it d.full f) maps) (and_left (is_message f) (names_it d.full f) message)
          ∙ sym found.gives)
          (λ missing. ap (entry_at set) (none_there missing) ∙ sym missing.gives)
          (look es fields e.message.fields after f.type_name nested e.full (i + 1) stand inside named)

-- ---- the messages of a set with their numbers

module _ (set : List ℕ) (messages : List MessageRow) (t : List FieldRow) (s : Sound (set_entries (decode_set set))) (good : names (decode_set set) ≡ Ok tt) (after : ℕ → ℕ)
    (afters : FileAfters after 0 (map (λ (f : FileDescriptor). f.messages) (decode_set set)))
    (behind : (e : Entry) (i : ℕ) → At e (set_entries (decode_set set)) i → (message_row messages i).after ≡ after i)
    (place : (r : Row) (k : ℕ) → At r (rows_of (set_entries (decode_set set))) k → is_message r.field ≡ true → (e : Entry) (j : ℕ) → At e (set_entries (decode_set set)) j → e.full ≡ type_name_of r → PlaceSays set (is_repeated r.field) e.message (field_row t k))
    (no_place : (r : Row) (k : ℕ) → At r (rows_of (set_entries (decode_set set))) k → is_message r.field ≡ false → (field_row t k).entry ≡ None) where
  abbrev all : List Entry
  all = set_entries (decode_set set)

  walk : (F : Forest MessageDescriptor) (scope : Bytes) (i : ℕ) (parent : List FieldDescriptor) → Stand all i (entries scope F) → Afters after i F
      → entries_named (fields_of_entries all) parent scope F ≡ true → Numbered (NodeSays set messages t) scope i F
  unfolding entries entries_named
  walk done scope i parent stand inside named = tt
  walk (node m nested following) scope i parent stand inside named =
      let inner : Bytes = scope · text m.name in
      let head : Entry = record { full = inner; message = m } in
      let here : List Entry = entries inner nested in
      let next : List Entry = entries scope following in
      let own = choose m.map_entry (entry_named (fields_of_entries all) parent inner) true in
      let deeper = entries_named (fields_of_entries all) m.fields inner nested in
      let beside = entries_named (fields_of_entries all) parent scope following in
      let both = and_right own (deeper && beside) named in
      let this : At head all i = stand_first all i head (here ++ next) stand in
      let on = stand_tail all i head (here ++ next) stand in
      let stand_nested = stand_left all (i + 1) here next on in (
        record {
          at = this;
          after = behind head i this ∙ inside.0;
          map_entry = λ f j own_field. map_entry_is (decode_set set) s good after afters set t place no_place this nested inside.0 own_field stand_nested inside.1.0 (and_left deeper beside both);
        },
        (
          walk nested inner (i + 1) m.fields stand_nested inside.1.0 (and_left deeper beside both),
          walk following scope (i + 1 + size nested) parent (stand_right all (i + 1) (size nested) here next (entries_size inner nested) on) inside.1.1 (and_right deeper beside both),
        ),
      )

  walk_files : (fs : List FileDescriptor) (i : ℕ) → Stand all i (set_entries fs) → FileAfters after i (map (λ (f : FileDescriptor). f.messages) fs)
      → Every (λ (f : FileDescriptor). map_entries_named (fields_of_entries all) f ≡ true) fs → NumberedFiles (NodeSays set messages t) i fs
  unfolding set_entries map_entries_named
  walk_files [] i stand inside named = tt
  walk_files (f ∷ fs) i stand inside named =
      let scope : Bytes = package_scope f.package_name in
      let here : List Entry = entries scope f.messages in (
        walk f.messages scope i [] (stand_left all i here (set_entries fs) stand) inside.0 named.0,
        walk_files fs (i + size f.messages) (stand_right all i (size f.messages) here (set_entries fs) (entries_size scope f.messages) stand) inside.1 named.1,
      )

  pub nodes_say : NumberedFiles (NodeSays set messages t) 0 (decode_set set)
  nodes_say = walk_files (decode_set set) 0 (λ x k a. subst (At x all) (let z : k ≡ 0 + k = omega arith in z) a) afters (entries_are_named (decode_set set) good)
