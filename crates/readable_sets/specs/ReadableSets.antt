-- A set without refusals 6 and 7: all names convert, and the reader of bytes sees what the marked pieces show. Assumes nothing.
use Rattle.std.specs.Prelude.{ℕ, zero, suc, ◌+◌, ◌≤◌, Bool, ◌&&◌, ◌||◌, not, ◌⊎◌, get_or, length, Ok}
use native.Mathlib.Omega.{arith}
use Rattle.std.proofs.Math.Path.{◌≡◌, refl, subst}
use Rattle.std.proofs.Common.{sym, inl, inr, ltb-false}
use Rattle.std.proofs.Math.Bool.{true, false}
use Rattle.std.proofs.Math.Option.{Option, some, none}
use mathlib.Core.List.{List, [], ◌∷◌, ◌++◌, map, map-append}
use Rattle.std.proofs.Math.Dec.{eqb}
use Rattle.std.proofs.lemmas.Bool.{not-true}
use Rattle.base.specs.Bytes.{same, same_sound}
use Rattle.base.specs.Choose.{choose}
use Rattle.base.specs.Lists.{all, all_of, Every, all_every, every_append, every_to}
use Rattle.base.specs.Tests.{both_ways, and_left, and_right, or_left, or_right, or_cases}
use Rattle.field_types.specs.Types.{FieldType, types, no_type, sort_of, group, message, enumerated}
use Rattle.descriptor.specs.Descriptor.{Bytes, Forest, done, node, preorder, FieldDescriptor, EnumDescriptor, MessageDescriptor, FileDescriptor}
use Rattle.options.specs.Settings.{Setting}
use Rattle.name_rules.specs.Accessors.{text, type, is_message, is_group, is_enum}
use Rattle.name_rules.specs.FullNames.{◌·◌, package_scope, Entry, entries, Declaration, enum_declarations, entry_declarations, file_declarations, set_declarations, declared_as, equals, fresh, type_declared, fields_of_entries, file_fields, first_undeclared}
use Rattle.name_rules.specs.Rules.{segments}
use Rattle.name_rules.specs.Answer.{first_seven, names}
use Rattle.name_rules.proofs.NamesLaws.{no_refusals}
use Rattle.name_rules.specs.WellFormed.{Name, GoodField, GoodEnum, GoodMessage, GoodEntry, EveryNode, WellFormed}
use Rattle.name_rules.proofs.WellFormedLaws.{every_file}
use Rattle.sights.specs.Sights.{read, file_place, file_sights, set_sights, Sight}
use Rattle.sights.specs.Unmarked.{unmarked}
use Rattle.text_reader.specs.Symbols.{text_symbols}
use Rattle.text_reader.specs.Reader.{see}
use Rattle.field_reading.specs.Readable.{refers, ReadableField}
use Rattle.see_file.specs.EnumReading.{named_text}
use Rattle.see_file.specs.MessageReading.{ReadableMessage}
use Rattle.see_file.specs.SeeFile.{ReadableFile, see_file}
use Rattle.readable_sets.specs.Dots.{Dotted, Scope, root, within, named_in, split_dotted}

-- ---- lists
every_split : {A : Type 0} (P : A → Type 0) (xs ys : List A) → Every P (xs ++ ys) → Every P xs × Every P ys
every_split P [] ys h = (tt, h)
every_split P (x ∷ xs) ys h = let r = every_split P xs ys h.1 in ((h.0, r.0), r.1)

at_each_node : (P : MessageDescriptor → Type 0) (F : Forest MessageDescriptor) → Every P (preorder F) → EveryNode (λ m nested. P m) F
unfolding preorder
at_each_node P done h = tt
at_each_node P (node m nested following) h =
    let r = every_split P (preorder nested) (preorder following) h.1 in
    (h.0, (at_each_node P nested r.0, at_each_node P following r.1))

-- ---- every declaration's full name
abbrev NamedSo : Declaration → Type 0
NamedSo d = Dotted d.full

enums_dotted : {scope : Bytes} → Scope scope → (es : List EnumDescriptor) → Every GoodEnum es → Every NamedSo (enum_declarations scope es)
enums_dotted s [] h = tt
enums_dotted s (e ∷ es) h = (named_in s (named_text e.name h.0.named), enums_dotted s es h.1)

record GoodRow (e : Entry) : Type 0 where
  dotted : Dotted e.full
  message : GoodMessage e.message

entries_good : {scope : Bytes} → Scope scope → (F : Forest MessageDescriptor) → EveryNode (λ m nested. GoodMessage m) F → Every GoodRow (entries scope F)
unfolding entries
entries_good s done h = tt
entries_good {scope} s (node m nested following) h =
    let d = named_in s (named_text m.name h.0.named) in (
      record { dotted = d; message = h.0 },
      every_append GoodRow (entries (scope · text m.name) nested) (entries scope following) (entries_good (within d) nested h.1.0) (entries_good s following h.1.1),
    )

rows_dotted : (es : List Entry) → Every GoodRow es → Every NamedSo (entry_declarations es)
rows_dotted [] h = tt
rows_dotted (e ∷ es) h =
    (h.0.dotted, every_append NamedSo (enum_declarations e.full e.message.enums) (entry_declarations es) (enums_dotted (within h.0.dotted) e.message.enums h.0.message.enums) (rows_dotted es h.1))

package_in : (o : Option Bytes) → ((p : Bytes) → o ≡ some p → Every Name (segments p)) → Scope (package_scope o)
package_in none h = root
package_in (some p) h = within (record { rest = p; is = refl; names = every_to (λ n g. g.letter_or_digit) (segments p) (h p refl) })

file_dotted : (f : FileDescriptor) → WellFormed f → Every NamedSo (file_declarations f)
unfolding file_declarations
file_dotted f h =
    let s = package_in f.package_name h.package_names in
    every_append NamedSo (entry_declarations (entries (package_scope f.package_name) f.messages)) (enum_declarations (package_scope f.package_name) f.enums)
    (rows_dotted (entries (package_scope f.package_name) f.messages) (entries_good s f.messages (at_each_node GoodMessage f.messages h.messages)))
    (enums_dotted s f.enums h.enums)

set_dotted : (fs : List FileDescriptor) → Every WellFormed fs → Every NamedSo (set_declarations fs)
unfolding set_declarations
set_dotted [] h = tt
set_dotted (f ∷ fs) h = every_append NamedSo (file_declarations f) (set_declarations fs) (file_dotted f h.0) (set_dotted fs h.1)

declared_dotted : (sort : Bool) (full : Bytes) (ds : List Declaration) → Every NamedSo ds → declared_as sort full ds ≡ true → Dotted full
unfolding declared_as
declared_dotted sort full [] h e = both_ways e refl
declared_dotted sort full (d ∷ ds) h e = on (or_cases (equals d.is_enumeration sort && same d.full full) (declared_as sort full ds) e) (declared_dotted sort full ds h.1)
  where
    on : ((equals d.is_enumeration sort && same d.full full) ≡ true) ⊎ (declared_as sort full ds ≡ true) → (declared_as sort full ds ≡ true → Dotted full) → Dotted full
    on (inl g) others = subst Dotted (same_sound d.full full (and_right (equals d.is_enumeration sort) (same d.full full) g)) h.0
    on (inr g) others = others g

-- ---- the type numbers of a sort
-- of the types from the number n on, only the number i has the sort
abbrev only : ℕ → ℕ → ℕ → List FieldType → Bool
only sort i n [] = true
only sort i n (t ∷ ts) = (not (eqb t.sort sort) || eqb n i) && only sort i (suc n) ts

only_is : (sort i n : ℕ) (ts : List FieldType) → only sort i n ts ≡ true → (k : ℕ) → eqb (get_or ts k no_type).sort sort ≡ true → eqb 0 sort ≡ false → eqb (n + k) i ≡ true
only_is sort i n [] h k e z = both_ways e z
only_is sort i n (t ∷ ts) h zero e z =
    on (or_cases (not (eqb t.sort sort)) (eqb n i) (and_left (not (eqb t.sort sort) || eqb n i) (only sort i (suc n) ts) h))
  where
    on : (not (eqb t.sort sort) ≡ true) ⊎ (eqb n i ≡ true) → eqb (n + 0) i ≡ true
    on (inl g) = both_ways e (not-true (eqb t.sort sort) g)
    on (inr g) = subst (λ (j : ℕ). eqb j i ≡ true) (let q : n ≡ n + 0 = omega arith in q) g
only_is sort i n (t ∷ ts) h (suc k) e z =
    subst (λ (j : ℕ). eqb j i ≡ true) (let q : suc n + k ≡ n + suc k = omega arith in q)
    (only_is sort i (suc n) ts (and_right (not (eqb t.sort sort) || eqb n i) (only sort i (suc n) ts) h) k e z)

module _ (k : ℕ) where
  group_number : eqb (sort_of k) group ≡ true → eqb k 10 ≡ true
  unfolding sort_of
  group_number e = subst (λ (j : ℕ). eqb j 10 ≡ true) (let q : 0 + k ≡ k = omega arith in q) (only_is group 10 0 types refl k e refl)

  message_number : eqb (sort_of k) message ≡ true → eqb k 11 ≡ true
  unfolding sort_of
  message_number e = subst (λ (j : ℕ). eqb j 11 ≡ true) (let q : 0 + k ≡ k = omega arith in q) (only_is message 11 0 types refl k e refl)

  enum_number : eqb (sort_of k) enumerated ≡ true → eqb k 14 ≡ true
  unfolding sort_of
  enum_number e = subst (λ (j : ℕ). eqb j 14 ≡ true) (let q : 0 + k ≡ k = omega arith in q) (only_is enumerated 14 0 types refl k e refl)

-- ---- a field
module _ (ds : List Declaration) (dotted : Every NamedSo ds) where
  target_dotted : (f : FieldDescriptor) → type_declared ds f ≡ true → refers (type f) ≡ true → Dotted (text f.type_name)
  unfolding type_declared choose
  target_dotted f h r = on (is_message f || is_group f) (is_enum f) refl refl h
    where
      named : ((is_message f || is_group f) ≡ true) ⊎ (is_enum f ≡ true)
      named = sorts (or_cases (eqb (sort_of (type f)) group || eqb (sort_of (type f)) message) (eqb (sort_of (type f)) enumerated) r)
        where
          two : (eqb (sort_of (type f)) group ≡ true) ⊎ (eqb (sort_of (type f)) message ≡ true) → (is_message f || is_group f) ≡ true
          two (inl e) = or_right (is_message f) (group_number (type f) e)
          two (inr e) = or_left (is_group f) (message_number (type f) e)

          sorts : ((eqb (sort_of (type f)) group || eqb (sort_of (type f)) message) ≡ true) ⊎ (eqb (sort_of (type f)) enumerated ≡ true) → ((is_message f || is_group f) ≡ true) ⊎ (is_enum f ≡ true)
          sorts (inl e) = inl (two (or_cases (eqb (sort_of (type f)) group) (eqb (sort_of (type f)) message) e))
          sorts (inr e) = inr (enum_number (type f) e)

      none_such : ((is_message f || is_group f) ≡ true) ⊎ (is_enum f ≡ true) → (is_message f || is_group f) ≡ false → is_enum f ≡ false → Dotted (text f.type_name)
      none_such (inl e) p q = both_ways e p
      none_such (inr e) p q = both_ways e q

      on : (m e : Bool) → (is_message f || is_group f) ≡ m → is_enum f ≡ e
          → choose m (declared_as false (text f.type_name) ds) (choose e (declared_as true (text f.type_name) ds) true) ≡ true → Dotted (text f.type_name)
      on true e p q g = declared_dotted false (text f.type_name) ds dotted g
      on false true p q g = declared_dotted true (text f.type_name) ds dotted g
      on false false p q g = none_such named p q

  field_readable : (oneofs : ℕ) (f : FieldDescriptor) → GoodField oneofs f → type_declared ds f ≡ true → ReadableField f
  field_readable oneofs f h g =
      record {
        named = (named_text f.name h.named).letter_or_digit;
        target = λ r. split_dotted (text f.type_name) (target_dotted f g r);
        default = λ e v d. (h.default_named v d (enum_number (type f) e)).letter_or_digit;
      }

  abbrev Declared : FieldDescriptor → Type 0
  Declared f = type_declared ds f ≡ true

  fields_readable : (oneofs : ℕ) (fs : List FieldDescriptor) → Every (GoodField oneofs) fs → Every Declared fs → Every ReadableField fs
  fields_readable oneofs [] h g = tt
  fields_readable oneofs (f ∷ fs) h g = (field_readable oneofs f h.0 g.0, fields_readable oneofs fs h.1 g.1)

  -- ---- the messages of a file
  abbrev FieldsDeclared : MessageDescriptor → Type 0
  FieldsDeclared m = Every Declared m.fields

  rows_split : (es fs : List Entry) → Every Declared (fields_of_entries (es ++ fs))
      → Every Declared (fields_of_entries es) × Every Declared (fields_of_entries fs)
  unfolding fields_of_entries
  rows_split [] fs h = (tt, h)
  rows_split (e ∷ es) fs h =
      let r = every_split Declared e.message.fields (fields_of_entries (es ++ fs)) h in
      let s = rows_split es fs r.1 in
      (every_append Declared e.message.fields (fields_of_entries es) r.0 s.0, s.1)

  nodes_declared : (scope : Bytes) (F : Forest MessageDescriptor) → Every Declared (fields_of_entries (entries scope F)) → EveryNode (λ m nested. FieldsDeclared m) F
  unfolding entries fields_of_entries
  nodes_declared scope done h = tt
  nodes_declared scope (node m nested following) h =
      let r = every_split Declared m.fields (fields_of_entries (entries (scope · text m.name) nested ++ entries scope following)) h in
      let s = rows_split (entries (scope · text m.name) nested) (entries scope following) r.1 in
      (r.0, (nodes_declared (scope · text m.name) nested s.0, nodes_declared scope following s.1))

  nodes_readable : (F : Forest MessageDescriptor) → EveryNode (λ m nested. GoodMessage m) F → EveryNode (λ m nested. m.map_entry ≡ true → GoodEntry m) F
      → EveryNode (λ m nested. FieldsDeclared m) F → EveryNode (λ m nested. ReadableMessage m) F
  nodes_readable done g e d = tt
  nodes_readable (node m nested following) g e d = (
    record { message = g.0; fields = fields_readable (length m.oneofs) m.fields g.0.fields d.0; entry = e.0 },
    (nodes_readable nested g.1.0 e.1.0 d.1.0, nodes_readable following g.1.1 e.1.1 d.1.1),
  )

  file_readable : (f : FileDescriptor) → WellFormed f → all (type_declared ds) (file_fields f) ≡ true → ReadableFile f
  file_readable f h g =
      record {
        messages =
            nodes_readable f.messages (at_each_node GoodMessage f.messages h.messages)
            (at_each_node (λ m. m.map_entry ≡ true → GoodEntry m) f.messages h.map_entries)
            (nodes_declared (package_scope f.package_name) f.messages (all_every Declared (type_declared ds) (λ f e. e) (file_fields f) g));
        enums = h.enums;
      }

-- ---- no file has refusal 7
abbrev TypesDeclared : List Declaration → FileDescriptor → Type 0
TypesDeclared ds f = all (type_declared ds) (file_fields f) ≡ true

none_undeclared : (ds before : List Declaration) (fs : List FileDescriptor) → length fs ≤ first_undeclared ds before fs → Every (TypesDeclared ds) fs
unfolding first_undeclared choose
none_undeclared ds before [] h = tt
none_undeclared ds before (f ∷ fs) h = on (fresh before (file_declarations f) && all (type_declared ds) (file_fields f)) refl h (none_undeclared ds (before ++ file_declarations f) fs)
  where
    on : (t : Bool) → (fresh before (file_declarations f) && all (type_declared ds) (file_fields f)) ≡ t → suc (length fs) ≤ choose t (1 + first_undeclared ds (before ++ file_declarations f) fs) 0
        → (length fs ≤ first_undeclared ds (before ++ file_declarations f) fs → Every (TypesDeclared ds) fs) → Every (TypesDeclared ds) (f ∷ fs)
    on true e l others = (and_right (fresh before (file_declarations f)) (all (type_declared ds) (file_fields f)) e, others (omega arith))
    on false e l others = absurd (omega arith)

module _ (fs : List FileDescriptor) (h : names fs ≡ Ok tt) where
  -- all names of the set convert
  pub every_readable : Every ReadableFile fs
  unfolding first_seven
  every_readable = go fs (every_file fs h) (none_undeclared (set_declarations fs) [] fs (ltb-false (first_seven fs) (length fs) (no_refusals fs h).1))
    where
      go : (gs : List FileDescriptor) → Every WellFormed gs → Every (TypesDeclared (set_declarations fs)) gs → Every ReadableFile gs
      go [] w d = tt
      go (g ∷ gs) w d = (file_readable (set_declarations fs) (set_dotted fs (every_file fs h)) g w.0 d.0, go gs w.1 d.1)

-- ---- demand 3, first clause, over all files of a set
-- what a reader of the bytes of all its texts sees, each text in its package's module
unfoldable pub seen_in : List Setting → List FileDescriptor → List Sight
seen_in rs set = all_of (λ f. read (file_place f) [] (see (text_symbols rs set f))) set

pub see_set : (rs : List Setting) (set : List FileDescriptor) → names set ≡ Ok tt → seen_in rs set ≡ map unmarked (set_sights rs set)
unfolding seen_in set_sights all_of
see_set rs set h = go set (every_readable set h)
  where
    go : (fs : List FileDescriptor) → Every ReadableFile fs → all_of (λ f. read (file_place f) [] (see (text_symbols rs set f))) fs ≡ map unmarked (all_of (file_sights rs set) fs)
    go [] r = refl
    go (f ∷ fs) r = rw (see_file rs set f r.0, go fs r.1) (sym (map-append unmarked (file_sights rs set f) (all_of (file_sights rs set) fs)))
