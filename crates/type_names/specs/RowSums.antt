-- What a list of checksums says of the rows of a table.
use Rattle.std.specs.Prelude.{ℕ, ◌+◌, ◌%◌, ◌≤◌, ◌<◌, ◌≡◌, List, length, get_or, Option, None, Some, IfSome}
use Rattle.descriptor.specs.Descriptor.{Bytes}
use Rattle.declarations.specs.declared.Declaration.{Declaration as Row}
use Rattle.type_names.specs.LookUp.{row_sum}

-- it has those of the first n rows
pub record Summed (bytes : Bytes) (t : List Row) (sums : List ℕ) (n : ℕ) : Type 0 where
  pub is : (k : ℕ) → k < n → get_or sums k 0 ≡ row_sum bytes t k

-- it has one for row i, and that is another one
pub record Apart (sums : List ℕ) (i sum : ℕ) : Type 0 where
  pub inside : i < length sums
  pub other : get_or sums i 0 % 4294967296 ≡ sum → ⊥

-- the rows from the first of these numbers up to the second have other ones
pub record Others (bytes : Bytes) (t : List Row) (sum from to : ℕ) : Type 0 where
  pub other : (j : ℕ) → from ≤ j → j < to → row_sum bytes t j ≡ sum → ⊥

-- a checksum that is looked for: any, where none is given
abbrev pub IsSum : Option ℕ → ℕ → Type 0
IsSum given sum = IfSome given (λ x. sum ≡ x)

-- rows of a table are looked for: those before row `left` that may have a checksum, any where none is given
pub record Seeking : Type 0 where
  pub set : Bytes
  pub rows : List Row
  pub sum : Option ℕ
  pub left : ℕ

-- those before row `end`; what is passed over has another checksum
pub record Seeks (bytes : Bytes) (t : List Row) (given : Option ℕ) (end : ℕ) (l : Seeking) : Type 0 where
  pub set : l.set ≡ bytes
  pub rows : l.rows ≡ t
  pub given_sum : l.sum ≡ given
  pub fewer : l.left ≤ end
  pub others : (sum : ℕ) → IsSum given sum → Others bytes t sum l.left end

-- one row on
abbrev pub SeeksOn : Seeking → Option ℕ → Seeking → Type 0
SeeksOn old None new = old.left ≡ 0
SeeksOn old (Some row) new = (old.left ≡ row + 1) × Seeks old.set old.rows old.sum row new
