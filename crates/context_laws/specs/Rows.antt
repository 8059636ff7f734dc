-- Where the rows of a message begin. Assumes nothing.
use Rattle.std.specs.Prelude.{ℕ, length, take}
use mathlib.Core.List.{List}
use Rattle.name_rules.specs.FullNames.{Entry, fields_of_entries}

-- the row of the first field of the message with number a
unfoldable pub first_row : List Entry → ℕ → ℕ
first_row es a = length (fields_of_entries (take a es))
