-- Counts of uses are counts of fields: the map entry rule of a row. Assumes nothing.
use mathlib.Core.Path.{◌≡◌, refl, sym, ap, ◌∙◌}
use mathlib.Core.Bool.{Bool, true, false, ◌&&◌, and-false}
use mathlib.Core.List.{List, [], ◌∷◌}
use mathlib.Core.Option.{Option, some, none}
use Prim.Native.Nat.{ℕ, ◌+◌, ◌≤◌, ◌<◌}
use native.Mathlib.Omega.{arith}
use lib.ListN.{get_or}
use lib.Dec.{eqb}
use borrow.Author.Tests.{le-ltb}
use Rattle.base.specs.Bytes.{same}
use Rattle.base.specs.Choose.{choose}
use Rattle.base.specs.Lists.{count, all_of, count_append}
use Rattle.base.proofs.BytesLaws.{same_turned}
use Rattle.descriptor.specs.Descriptor.{Bytes, FieldDescriptor}
use Rattle.name_rules.specs.Accessors.{is_repeated, is_message}
use Rattle.name_rules.specs.Rules as rules
use Rattle.name_rules.specs.MapEntries.{names_it, maps_it, entry_named}
use Rattle.declarations.specs.Listed.{full, Listed, listed}
use Rattle.declarations.specs.declared.Declaration.{Declaration as Row}
use Rattle.type_names.specs.LookUp.{named}
use Rattle.map_entries.specs.Named.{Use, use_of, is_mapping, field_use, uses, naming, mapping_in}
use Rattle.map_entries.proofs.CountLaws.{said_rule}
use Rattle.map_entries.proofs.SaidLaws.{naming_at}

one_more : (b : Bool) (n : ℕ) → choose b 1 0 + n ≡ choose b (1 + n) n
unfolding choose
one_more true n = refl
one_more false n = omega arith

-- the fields of the messages with the number
abbrev pub fields_numbered : ℕ → List Listed → List FieldDescriptor
fields_numbered number = all_of (λ (l : Listed). choose (eqb l.number number) l.fields [])

abbrev pub fields_listed : List Listed → List FieldDescriptor
fields_listed = all_of (λ (l : Listed). l.fields)

module _ (bytes : List ℕ) (t : List Row) (j : ℕ) (small : j ≤ 65535) where
  abbrev own : Bytes
  own = full bytes t (j + 1)

  abbrev test : Use → Bool
  test u = named bytes t u.name j

  named_is : (y : Bytes) → named bytes t y j ≡ same y own
  unfolding named choose
  named_is y = rw (le-ltb 65535 j small) (same_turned own y)

  names_one : (number : ℕ) (f : FieldDescriptor) → count test (field_use number f) ≡ choose (names_it own f) 1 0
  unfolding field_use count choose
  names_one number f = by f.type_name
    where
      by : (name : Option Bytes) → count test (use_of number (is_mapping f) name) ≡ choose (rules.is_text own name) 1 0
      by none = refl
      by (some y) = rw (named_is y)

  names_all : (number : ℕ) (fs : List FieldDescriptor) → count test (all_of (field_use number) fs) ≡ count (names_it own) fs
  unfolding all_of count
  names_all number [] = refl
  names_all number (f ∷ fs) =
      count_append test (field_use number f) (all_of (field_use number) fs) ∙ rw (names_one number f, names_all number fs) (one_more (names_it own f) (count (names_it own) fs))

  maps_one : (number k : ℕ) (f : FieldDescriptor) → eqb k number ≡ true → count (mapping_in number test) (field_use k f) ≡ choose (maps_it own f) 1 0
  unfolding field_use count choose
  maps_one number k f e = by f.type_name
    where
      order : (a b c : Bool) → (c && ((a && b) && true)) ≡ (a && (b && c))
      order true true true = refl
      order true true false = refl
      order true false true = refl
      order true false false = refl
      order false true true = refl
      order false true false = refl
      order false false true = refl
      order false false false = refl

      by : (name : Option Bytes) → count (mapping_in number test) (use_of k (is_mapping f) name) ≡ choose (is_repeated f && (is_message f && rules.is_text own name)) 1 0
      by none = rw (and-false (is_message f), and-false (is_repeated f))
      by (some y) = rw (named_is y, e, order (is_repeated f) (is_message f) (same y own))

  maps_none : (number k : ℕ) (f : FieldDescriptor) → eqb k number ≡ false → count (mapping_in number test) (field_use k f) ≡ 0
  unfolding field_use count choose
  maps_none number k f e = by f.type_name
    where
      by : (name : Option Bytes) → count (mapping_in number test) (use_of k (is_mapping f) name) ≡ 0
      by none = refl
      by (some y) = rw (e, and-false (is_mapping f), and-false (named bytes t y j))

  maps_all : (number k : ℕ) (b : Bool) → eqb k number ≡ b → (fs : List FieldDescriptor) → count (mapping_in number test) (all_of (field_use k) fs) ≡ count (maps_it own) (choose b fs [])
  unfolding all_of count choose
  maps_all number k true e [] = refl
  maps_all number k false e [] = refl
  maps_all number k true e (f ∷ fs) =
      count_append (mapping_in number test) (field_use k f) (all_of (field_use k) fs) ∙ rw (maps_one number k f e, maps_all number k true e fs) (one_more (maps_it own f) (count (maps_it own) fs))
  maps_all number k false e (f ∷ fs) = count_append (mapping_in number test) (field_use k f) (all_of (field_use k) fs) ∙ rw (maps_none number k f e, maps_all number k false e fs)

  names_listed : (ls : List Listed) → count test (uses ls) ≡ count (names_it own) (fields_listed ls)
  unfolding uses all_of count
  names_listed [] = refl
  names_listed (l ∷ ls) =
      count_append test (all_of (field_use l.number) l.fields) (uses ls) ∙ rw (names_all l.number l.fields, names_listed ls)
      (sym (count_append (names_it own) l.fields (fields_listed ls)))

  maps_listed : (number : ℕ) (ls : List Listed) → count (mapping_in number test) (uses ls) ≡ count (maps_it own) (fields_numbered number ls)
  unfolding uses all_of count
  maps_listed number [] = refl
  maps_listed number (l ∷ ls) =
      count_append (mapping_in number test) (all_of (field_use l.number) l.fields) (uses ls)
      ∙ rw (maps_all number l.number (eqb l.number number) refl l.fields, maps_listed number ls)
      (sym (count_append (maps_it own) (choose (eqb l.number number) l.fields []) (fields_numbered number ls)))

  -- the rule of row j, in the message with the number
  pub row_rule : (n size number : ℕ) → j < n → j < size
      → eqb (get_or (naming bytes t n size) j 0) (number + 2) ≡ entry_named (fields_listed (listed bytes t n)) (fields_numbered number (listed bytes t n)) (full bytes t (j + 1))
  unfolding entry_named
  row_rule n size number h k =
      ap (λ (w : ℕ). eqb w (number + 2)) (naming_at bytes t n j h size k) ∙ said_rule test number (uses (listed bytes t n))
      ∙ rw (maps_listed number (listed bytes t n), names_listed (listed bytes t n))
