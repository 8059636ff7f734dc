-- build_enum_value_mappings in one pass: a mark for each of the first 256 values, set where the value is kept. Assumes nothing.
use Rattle.std.specs.Prelude.{ℕ, zero, suc, ◌+◌, Bool, false, not, List, [], ◌∷◌, map, ltb, get_or, set, replicate}
use Rattle.base.specs.Choose.{choose}
use Rattle.descriptor.specs.Descriptor.{Bytes, ValueDescriptor}
use Rattle.descriptor.specs.Decode.{entries, parts, decode_value}
use Rattle.code_generator.specs.Enums.{value_number, is_used}
use Rattle.enum_values.specs.declared.Kept.{Kept}

-- the first n numbers of a table, the last first
unfoldable pub numbers_before : List ℕ → ℕ → List ℕ
numbers_before t zero = []
numbers_before t (suc n) = get_or t n 0 ∷ numbers_before t n

abbrev pub no_values : Kept
no_values = record { count = 0; numbers = replicate 256 0; marks = replicate 256 false }

-- one value more, with this number. Values past limit 6 get no mark
unfoldable pub note : ℕ → Kept → Kept
note number x =
    choose (ltb x.count 256)
    (record {
      count = x.count + 1;
      numbers = set x.numbers x.count number;
      marks = set x.marks x.count (not (is_used number (numbers_before x.numbers x.count)));
    })
    x

unfoldable pub noted : Kept → List ValueDescriptor → Kept
noted x [] = x
noted x (v ∷ vs) = noted (note (value_number v) x) vs

-- those with a mark, the first one's being mark i
unfoldable pub marked {ℓ} : {A : Type ℓ} → List Bool → ℕ → List A → List A
marked ms i [] = []
marked ms i (x ∷ xs) = choose (get_or ms i false) (x ∷ marked ms (i + 1) xs) (marked ms (i + 1) xs)

-- the values of an enum's part, and those with a mark
abbrev pub values_in : Bytes → List ValueDescriptor
values_in s = map decode_value (parts 2 (entries s))

abbrev pub marked_in : List Bool → Bytes → List ValueDescriptor
marked_in ms s = marked ms 0 (values_in s)
