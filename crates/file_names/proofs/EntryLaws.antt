-- What a map entry holds, by its bytes. Assumes nothing.
use mathlib.Core.Path.{◌≡◌, refl, ap, ap₂}
use mathlib.Core.Bool.{Bool, true, false, ◌&&◌, ◌||◌, not}
use mathlib.Core.List.{List, [], ◌∷◌, map}
use Prim.Native.Nat.{ℕ, zero, suc}
use native.Mathlib.Omega.{arith}
use lib.Dec.{eqb}
use borrow.Author.Tests.{ne_eqb}
use Rattle.base.specs.Bytes.{b}
use Rattle.base.specs.Lists.{is_empty, empty_map}
use Rattle.descriptor.specs.Descriptor.{FieldDescriptor}
use Rattle.descriptor.specs.Decode.{entries, parts, decode_field, decode_enum, decode_oneof, decode_message, decode_messages}
use Rattle.name_rules.specs.Rules.{is_text, is_number, key_type, key_good, value_field_good, key_and_value, none_nested, entry_good}
use Rattle.file_names.specs.Walks.{is_optional}

three_and : (x y z w : Bool) → (x && (y && (z && w))) ≡ ((x && (y && z)) && w)
three_and true true z w = refl
three_and true false z w = refl
three_and false y z w = refl

pub key_is : (f : FieldDescriptor) → key_good f ≡ (is_optional (b "key") 1 f && key_type f.type)
unfolding key_good is_optional
key_is f = three_and (is_text (b "key") f.name) (is_number 1 f.number) (is_number 1 f.label) (key_type f.type)

pub value_is : (f : FieldDescriptor) → value_field_good f ≡ (is_optional (b "value") 2 f && not (is_number 10 f.type))
unfolding value_field_good is_optional
value_is f = three_and (is_text (b "value") f.name) (is_number 2 f.number) (is_number 1 f.label) (not (is_number 10 f.type))

not_none : (n : ℕ) → eqb (suc n) 0 ≡ false
not_none n = ne_eqb (suc n) 0 (λ e. omega arith)

-- at the deepest level nothing is nested
none_decoded : (left : ℕ) (ps : List (List ℕ)) → none_nested (decode_messages left ps) ≡ (eqb left 0 || is_empty ps)
unfolding decode_messages
none_decoded zero ps = refl
none_decoded (suc n) [] = rw (not_none n)
none_decoded (suc n) (p ∷ ps) = rw (not_none n)

pub entry_is : (s : List ℕ) (left : ℕ)
    → entry_good (decode_message s) (decode_messages left (parts 3 (entries s)))
    ≡ (key_and_value (map decode_field (parts 2 (entries s)))
    && (is_empty (parts 4 (entries s)) && (is_empty (parts 8 (entries s)) && (eqb left 0 || is_empty (parts 3 (entries s))))))
unfolding entry_good decode_message
entry_is s left =
    ap (λ (u : Bool). key_and_value (map decode_field (parts 2 (entries s))) && u)
    (ap₂ (λ (x y : Bool). x && y) (empty_map decode_enum (parts 4 (entries s)))
    (ap₂ (λ (x y : Bool). x && y) (empty_map decode_oneof (parts 8 (entries s))) (none_decoded left (parts 3 (entries s)))))
