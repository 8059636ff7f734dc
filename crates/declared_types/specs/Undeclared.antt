-- Refusal 7 by the rows of a table of declarations.
use Rattle.std.specs.Prelude.{ℕ, zero, suc, ◌+◌, ◌-◌, Bool, true, false, List, length, eqb, ltb}
use Rattle.base.specs.Choose.{choose}
use Rattle.base.specs.Lists.{all}
use Rattle.wire.specs.Records.{part}
use Rattle.descriptor.specs.Descriptor.{Bytes, FieldDescriptor}
use Rattle.descriptor.specs.Decode.{entries, parts, decode_field}
use Rattle.name_rules.specs.Accessors.{text, type}
use Rattle.declarations.specs.Rows.{row_at, kind_number}
use Rattle.declarations.specs.declared.Declaration.{Declaration as Row}
use Rattle.type_names.specs.declared.Sort.{Sort}
use Rattle.type_names.specs.declared.Sort.TheVariants as sorts
use Rattle.type_names.specs.LookUp.{find_row, declared_before}

-- is a declaration of the sort in the table?
abbrev pub found : Bytes → List Row → ℕ → Bytes → Sort → Bool
found bytes t count name sort = ltb (find_row bytes t name sort count) count

abbrev pub field_known : Bytes → List Row → ℕ → FieldDescriptor → Bool
field_known bytes t count f =
    choose (eqb (type f) 11) (found bytes t count (text f.type_name) sorts.Message)
    (choose (eqb (type f) 10) (found bytes t count (text f.type_name) sorts.Message) (choose (eqb (type f) 14) (found bytes t count (text f.type_name) sorts.Enum) true))

-- of the field with these bytes
unfoldable pub type_known : Bytes → List Row → ℕ → Bytes → Bool
type_known bytes t count s = field_known bytes t count (decode_field s)

unfoldable pub row_good : Bytes → List Row → ℕ → ℕ → Bool
row_good bytes t count i =
    choose (eqb (kind_number (row_at t i).kind) 0) true
    (choose (declared_before bytes t i) false
    (choose (eqb (kind_number (row_at t i).kind) 1) true
    (all (type_known bytes t count) (parts 2 (entries (part bytes (row_at t i).start ((row_at t i).end - (row_at t i).start)))))))

-- of n rows from row i on
unfoldable pub undeclared_from : Bytes → List Row → ℕ → ℕ → ℕ → ℕ
undeclared_from bytes t count zero i = length (parts 1 (entries bytes))
undeclared_from bytes t count (suc n) i = choose (row_good bytes t count i) (undeclared_from bytes t count n (i + 1)) (row_at t i).file

unfoldable pub first_undeclared_row : Bytes → List Row → ℕ → ℕ
first_undeclared_row bytes t count = undeclared_from bytes t count count 0
