-- The first row of a table with a full name.
use Rattle.std.specs.Prelude.{ℕ, zero, suc, ◌+◌, Bool, true, false, not, List, Option, None, Some, eqb, ltb}
use Rattle.base.specs.Bytes.{same}
use Rattle.base.specs.Choose.{choose}
use Rattle.descriptor.specs.Descriptor.{Bytes}
use Rattle.declarations.specs.Rows.{row_at, kind_number}
use Rattle.declarations.specs.declared.Declaration.{Declaration as Row}
use Rattle.declarations.specs.Listed.{full}
use Rattle.checksums.specs.Sums.{sum_of}
use Rattle.type_names.specs.Chains.{cells}
use Rattle.type_names.specs.declared.Sort.{Sort}
use Rattle.type_names.specs.declared.Sort.TheVariants.{Any, Enum, Message}

-- a table has no row past 65,535
unfoldable pub named : Bytes → List Row → Bytes → ℕ → Bool
named bytes t name i = choose (ltb 65535 i) false (same (full bytes t (i + 1)) name)

-- by the number of the kind of a row
unfoldable pub wanted : Sort → ℕ → Bool
wanted Any kind = not (eqb kind 0)
wanted Enum kind = eqb kind 1
wanted Message kind = choose (ltb kind 2) false true

unfoldable pub fits : Bytes → List Row → Bytes → Sort → ℕ → Bool
fits bytes t name sort i = choose (wanted sort (kind_number (row_at t i).kind)) (named bytes t name i) false

-- the first of n rows from row i on; the row behind them where there is none
unfoldable pub find_from : Bytes → List Row → Bytes → Sort → ℕ → ℕ → ℕ
find_from bytes t name sort zero i = i
find_from bytes t name sort (suc n) i = choose (fits bytes t name sort i) i (find_from bytes t name sort n (i + 1))

unfoldable pub find_row : Bytes → List Row → Bytes → Sort → ℕ → ℕ
find_row bytes t name sort count = find_from bytes t name sort count 0

-- the same, with none where there is none
unfoldable pub found_row : Bytes → List Row → Bytes → Sort → ℕ → Option ℕ
found_row bytes t name sort count = choose (ltb (find_row bytes t name sort count) count) (Some (find_row bytes t name sort count)) None

-- ---- a full name declared before

-- does the declaration in row j have the full name of row i?
unfoldable pub same_row : Bytes → List Row → ℕ → ℕ → Bool
same_row bytes t i j = choose (eqb (kind_number (row_at t j).kind) 0) false (same (full bytes t (j + 1)) (full bytes t (i + 1)))

-- does one of the first n rows?
unfoldable pub before_by : Bytes → List Row → ℕ → ℕ → Bool
before_by bytes t i zero = false
before_by bytes t i (suc n) = choose (same_row bytes t i n) true (before_by bytes t i n)

unfoldable pub declared_before : Bytes → List Row → ℕ → Bool
declared_before bytes t i = choose (ltb 65535 i) false (before_by bytes t i i)

-- ---- checksums of the full names

-- that of row i; a table has no row past 65,535
unfoldable pub row_sum : Bytes → List Row → ℕ → ℕ
row_sum bytes t i = choose (ltb 65535 i) 0 (sum_of (full bytes t (i + 1)))

-- those of the first n rows, with the chains of the rows
unfoldable pub row_sums : Bytes → List Row → ℕ → List ℕ
row_sums bytes t n = cells (row_sum bytes t) n
