-- What holds of a set without refusal 7: full names differ, and each type name is declared once, with its sort. Assumes nothing.
use mathlib.Core.Path.{◌≡◌, refl, sym, ap, ◌∙◌}
use mathlib.Core.Bool.{Bool, true, false, ◌&&◌, ◌||◌}
use mathlib.Core.List.{List, [], ◌∷◌, ◌++◌, map, append-nil, map-append}
use Prim.Native.Nat.{ℕ, suc, ◌+◌, ◌<◌}
use native.Mathlib.Omega.{arith}
use lib.ListN.{length, get_or}
use lib.Dec.{ltb}
use borrow.Author.Tests.{ltb-true, ltb-false, eqb-true, ne_eqb}
use Rattle.base.specs.Bytes.{same, same_sound}
use Rattle.base.specs.Choose.{choose}
use Rattle.base.specs.Lists.{all, map_length, all_append}
use Rattle.base.specs.Tests.{and_left, and_right, and_both, both_ways}
use Rattle.name_rules.proofs.AppendLaws.{fields_append}
use Rattle.descriptor.specs.Descriptor.{Bytes, FieldDescriptor, EnumDescriptor, FileDescriptor}
use Rattle.name_rules.specs.Accessors.{or_else, text, is_message, is_group, is_enum}
use Rattle.name_rules.specs.FullNames.{package_scope, Entry, entries, set_entries, Declaration, enum_declarations, entry_declarations, file_declarations, set_declarations, declared_as, equals, fresh, type_declared, fields_of_entries, file_fields, set_fields, first_undeclared}
use Rattle.name_rules.specs.Answer.{first_seven}
use Rattle.type_names.proofs.FreshLaws.{fulls, fresh_append, apart, messages_only, messages_fresh, messages_append, declared_message, Stands, stands}

-- ---- lists of fields
all_at : (p : FieldDescriptor → Bool) (xs : List FieldDescriptor) (f : FieldDescriptor) (ys : List FieldDescriptor) → all p (xs ++ (f ∷ ys)) ≡ true → p f ≡ true
unfolding all
all_at p [] f ys h = and_left (p f) (all p ys) h
all_at p (x ∷ xs) f ys h = all_at p xs f ys (and_right (p x) (all p (xs ++ (f ∷ ys))) h)

-- ---- the entries are the messages among the declarations
abbrev message_declaration : Entry → Declaration
message_declaration e = record { full = e.full; is_enumeration = false }

enums_only : (scope : Bytes) (es : List EnumDescriptor) → messages_only (enum_declarations scope es) ≡ []
unfolding messages_only choose
enums_only scope [] = refl
enums_only scope (e ∷ es) = enums_only scope es

entries_only : (es : List Entry) → messages_only (entry_declarations es) ≡ map message_declaration es
unfolding messages_only choose
entries_only [] = refl
entries_only (e ∷ es) =
    ap (λ (l : List Declaration). message_declaration e ∷ l)
    (messages_append (enum_declarations e.full e.message.enums) (entry_declarations es) ∙ rw (enums_only e.full e.message.enums) (entries_only es))

set_only : (fs : List FileDescriptor) → messages_only (set_declarations fs) ≡ map message_declaration (set_entries fs)
unfolding set_declarations file_declarations set_entries messages_only
set_only [] = refl
set_only (f ∷ fs) =
    let es : List Entry = entries (package_scope f.package_name) f.messages in
    let ds : List Declaration = enum_declarations (package_scope f.package_name) f.enums in
    messages_append (entry_declarations es ++ ds) (set_declarations fs)
    ∙ rw (messages_append (entry_declarations es) ds, enums_only (package_scope f.package_name) f.enums, entries_only es, set_only fs, append-nil (map message_declaration es))
    (sym (map-append message_declaration es (set_entries fs)))

abbrev pub full_names : List Entry → List Bytes
full_names = map (λ (e : Entry). e.full)

fulls_are : (es : List Entry) → fulls (map message_declaration es) ≡ full_names es
fulls_are [] = refl
fulls_are (e ∷ es) = ap (λ (l : List Bytes). e.full ∷ l) (fulls_are es)

-- ---- no file at fault
record Sound (ds before : List Declaration) (fs : List FileDescriptor) : Type 0 where
  distinct : fresh before (set_declarations fs) ≡ true
  typed : all (type_declared ds) (set_fields fs) ≡ true

sound : (ds before : List Declaration) (fs : List FileDescriptor) → first_undeclared ds before fs ≡ length fs → Sound ds before fs
unfolding first_undeclared set_declarations set_entries fields_of_entries fresh all choose
sound ds before [] h = record { distinct = refl; typed = refl }
sound ds before (f ∷ fs) h = by_test (fresh before (file_declarations f) && all (type_declared ds) (file_fields f)) refl h (λ e. sound ds (before ++ file_declarations f) fs e)
  where
    by_test : (t : Bool) → (fresh before (file_declarations f) && all (type_declared ds) (file_fields f)) ≡ t
        → choose t (1 + first_undeclared ds (before ++ file_declarations f) fs) 0 ≡ suc (length fs)
        → (first_undeclared ds (before ++ file_declarations f) fs ≡ length fs → Sound ds (before ++ file_declarations f) fs) → Sound ds before (f ∷ fs)
    by_test true e q rest =
        let s = rest (omega arith) in
        record {
          distinct = fresh_append before (file_declarations f) (set_declarations fs) (and_left _ _ e) s.distinct;
          typed = ap (all (type_declared ds)) (fields_append (entries (package_scope f.package_name) f.messages) (set_entries fs)) ∙ all_append (type_declared ds) (file_fields f) (set_fields fs) ∙ and_both (and_right (fresh before (file_declarations f)) _ e) s.typed;
        }
    by_test false e q rest = absurd (omega arith)

-- a name stands in a list of names at one place
pub record Once (names : List Bytes) (name : Bytes) : Type 0 where
  pub place : ℕ
  pub below : place < length names
  pub named : get_or names place [] ≡ name
  pub only : (j : ℕ) → j < length names → get_or names j [] ≡ name → j ≡ place

-- an enum of this full name is declared
pub record EnumDeclared (ds : List Declaration) (name : Bytes) : Type 0 where
  pub place : ℕ
  pub below : place < length ds
  pub named : get_or (fulls ds) place [] ≡ name
  pub sort : get_or (map (λ (d : Declaration). d.is_enumeration) ds) place false ≡ true

enum_stands : (name : Bytes) (ds : List Declaration) → declared_as true name ds ≡ true → EnumDeclared ds name
unfolding declared_as
enum_stands name [] h = both_ways h refl
enum_stands name (d ∷ ds) h = first (equals d.is_enumeration true && same d.full name) refl h (λ e. enum_stands name ds e)
  where
    is_one : (t : Bool) → equals t true ≡ true → t ≡ true
    is_one true e = refl
    is_one false e = e

    first : (t : Bool) → (equals d.is_enumeration true && same d.full name) ≡ t → (t || declared_as true name ds) ≡ true → (declared_as true name ds ≡ true → EnumDeclared ds name) → EnumDeclared (d ∷ ds) name
    first true e q next =
        record { place = 0; below = omega arith; named = same_sound d.full name (and_right (equals d.is_enumeration true) (same d.full name) e); sort = is_one d.is_enumeration (and_left (equals d.is_enumeration true) (same d.full name) e) }
    first false e q next = let s = next q in let b = s.below in record { place = suc s.place; below = omega arith; named = s.named; sort = s.sort }

order : (names : List Bytes) (name : Bytes) → ((i j : ℕ) → i < j → j < length names → get_or names i [] ≡ get_or names j [] → ⊥)
    → (i j : ℕ) → i < length names → j < length names → get_or names i [] ≡ name → get_or names j [] ≡ name → j ≡ i
order names name apart i j a b p q =
    by_less (ltb i j) refl (λ e. apart i j e b (p ∙ sym q)) (λ e. apart j i e a (q ∙ sym p))
  where
    by_less : (t : Bool) → ltb i j ≡ t → (i < j → ⊥) → (j < i → ⊥) → j ≡ i
    by_less true e x y = absurd (x (ltb-true i j e))
    by_less false e x y = let l = ltb-false i j e in nat_cases (ltb j i) refl
      where
        nat_cases : (t : Bool) → ltb j i ≡ t → j ≡ i
        nat_cases true e = absurd (y (ltb-true j i e))
        nat_cases false e = let k = ltb-false j i e in omega arith

-- ---- the theorems, of a set without refusal 7
module _ (fs : List FileDescriptor) (none : first_seven fs ≡ length fs) where
  holds : Sound (set_declarations fs) [] fs
  unfolding first_seven
  holds = sound (set_declarations fs) [] fs none

  -- no two declarations have one full name
  pub names_differ : (i j : ℕ) → i < j → j < length (set_declarations fs) → get_or (fulls (set_declarations fs)) i [] ≡ get_or (fulls (set_declarations fs)) j [] → ⊥
  names_differ = apart [] (set_declarations fs) holds.distinct

  pub entries_apart : (i j : ℕ) → i < j → j < length (full_names (set_entries fs)) → get_or (full_names (set_entries fs)) i [] ≡ get_or (full_names (set_entries fs)) j [] → ⊥
  entries_apart i j l k e =
      let ms : List Declaration = map message_declaration (set_entries fs) in
      let is : fresh [] ms ≡ true = ap (fresh []) (sym (set_only fs)) ∙ messages_fresh [] (set_declarations fs) holds.distinct in
      let names : fulls ms ≡ full_names (set_entries fs) = fulls_are (set_entries fs) in
      let n : length (fulls ms) ≡ length ms = map_length (λ (d : Declaration). d.full) ms in
      let m = ap length names in
      apart [] ms is i j l (omega arith) (rw names e)

  module _ (xs : List FieldDescriptor) (f : FieldDescriptor) (ys : List FieldDescriptor) (there : set_fields fs ≡ xs ++ (f ∷ ys)) where
    typed : type_declared (set_declarations fs) f ≡ true
    typed = all_at (type_declared (set_declarations fs)) xs f ys (ap (all (type_declared (set_declarations fs))) (sym there) ∙ holds.typed)

    -- a message's or group's type name is the full name of one message
    pub message_named : (is_message f || is_group f) ≡ true → Once (full_names (set_entries fs)) (text f.type_name)
    unfolding type_declared choose
    message_named e =
        let d : declared_as false (text f.type_name) (set_declarations fs) ≡ true = rw e at typed in
        let s : Stands (fulls (map message_declaration (set_entries fs))) (text f.type_name) =
        stands (text f.type_name) (map message_declaration (set_entries fs)) (sym (declared_message (text f.type_name) (set_declarations fs) ∙ rw (set_only fs)) ∙ d) in
        let t : Stands (full_names (set_entries fs)) (text f.type_name) = rw (fulls_are (set_entries fs)) at s in
        record { place = t.place; below = t.below; named = t.named; only = λ j l q. order (full_names (set_entries fs)) (text f.type_name) entries_apart t.place j t.below l t.named q }

    -- an enum's is the full name of an enum
    pub enum_named : is_enum f ≡ true → EnumDeclared (set_declarations fs) (text f.type_name)
    unfolding type_declared choose
    enum_named e =
        let k = eqb-true (or_else 1 f.type) 14 e in
        let no : (is_message f || is_group f) ≡ false = rw (ne_eqb (or_else 1 f.type) 11 (λ q. omega arith), ne_eqb (or_else 1 f.type) 10 (λ q. omega arith)) in
        enum_stands (text f.type_name) (set_declarations fs) (rw (no, e) at typed)
