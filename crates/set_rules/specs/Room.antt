-- The room for a row of each file and each declaration of a set, and one more. Assumes nothing.
use Rattle.std.specs.Prelude.{ℕ, ◌+◌, ◌≤◌, List, length}
use Rattle.descriptor.specs.Descriptor.{Bytes}
use Rattle.descriptor.specs.Decode.{decode_set}
use Rattle.declarations.specs.Rows.{declared, Became}
use Rattle.declarations.specs.Listed.{listed_files}
use Rattle.declarations.specs.declared.counts.Count.{Count}
use Rattle.declarations.specs.declared.Declaration.{Declaration}
use Rattle.map_entries.specs.declared.Namers.{Namers}

abbrev pub row_count : Bytes → ℕ
row_count set = length (decode_set set) + length (listed_files 0 0 (decode_set set))

-- a table t, of no more than 65,536 rows, and a column with a place for each row
pub record Room (set : Bytes) (t : List Declaration) (column : List Namers) : Type 0 where
  pub small : row_count set + 1 ≤ 65536
  pub wide : row_count set + 1 ≤ length t
  pub long : row_count set ≤ length column

-- the table u, with c rows, is that of the set's declarations: a table with the room became it
pub record Declares (set : Bytes) (u : List Declaration) (c : Count) (column : List Namers) : Type 0 where
  pub cleared : List Declaration
  pub room : Room set cleared column
  pub became : Became (declared set cleared) u c
