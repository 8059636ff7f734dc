-- The embedded messages of a part as a forest of places in the set, and its rows: in declaration order, with what each stands in.
use Rattle.std.specs.Prelude.{ℕ, zero, suc, ◌+◌, ◌-◌, ◌≡◌, List, [], ◌∷◌, ◌++◌, length, get_or, set, eqb, ltb}
use Rattle.base.specs.Choose.{choose}
use Rattle.wire.specs.Records.{over, part}
use Rattle.wire.specs.Step.{Record}
use Rattle.descriptor.specs.Descriptor.{Forest, done, node}
use Rattle.descriptor.specs.Places.{end_in, inside}
use Rattle.index.specs.declared.Row.{Row}

-- where an embedded message lies in the set
pub record Place : Type 0 where
  pub start : ℕ
  pub end : ℕ

abbrev pub place : ℕ → Record → Place
place base f = record { start = base + f.start; end = base + end_in f }

-- how the messages nested in bytes that start at a place of the set are read
abbrev pub Inner : Type 0
Inner = List ℕ → ℕ → Forest Place

abbrev pub forest_record : Inner → ℕ → List ℕ → ℕ → Record → Unit {0} → (Unit {0} → Forest Place) → Forest Place
forest_record inner number s base f x go_on =
    choose (eqb f.number number) (node (place base f) (inner (inside s f) (base + f.start)) (go_on x)) (go_on x)

abbrev pub forest_from : Inner → ℕ → List ℕ → ℕ → ℕ → Forest Place
forest_from inner number s base at = over (forest_record inner number s base) (λ key x. done) (λ x. done) s at tt

-- the embedded messages with the field number in s, which starts at base of the set, with the messages nested in them (3), in so many levels
unfoldable pub forest_in : ℕ → ℕ → Inner
forest_in zero number s base = done
forest_in (suc k) number s base = forest_from (forest_in k 3) number s base 0

unfoldable pub size : {A : Type 0} → Forest A → ℕ
size done = 0
size (node a nested following) = 1 + size nested + size following

-- The rows of a forest, numbered from i on: a place, the file's index, what it stands in (0, or one more than the row of the message around it), and
-- the row behind those nested in it.
unfoldable pub rows : ℕ → ℕ → ℕ → Forest Place → List Row
rows file up i done = []
rows file up i (node p nested following) =
    record { start = p.start; end = p.end; file = file; up = up; after = i + 1 + size nested }
    ∷ (rows file (i + 1) (i + 1) nested ++ rows file up (i + 1 + size nested) following)

-- the bytes of a row's declaration
abbrev pub row_bytes : List ℕ → Row → List ℕ
row_bytes set r = part set r.start (r.end - r.start)

-- a table takes a row in its place; what it has no room for is left out
abbrev pub put : List Row → ℕ → Row → List Row
put t i r = set t i r

-- the rows in a table, from row i on
unfoldable pub fill : List Row → ℕ → List Row → List Row
fill t i [] = t
fill t i (r ∷ rs) = fill (put t i r) (i + 1) rs

-- what a table has past its end
abbrev pub no_row : Row
no_row = record { start = 0; end = 0; file = 0; up = 0; after = 0 }

-- row i of a table
abbrev pub row_at : List Row → ℕ → Row
row_at t i = get_or t i no_row

-- the table t with the rows of a forest from row i on is u, and next is the row behind them
pub record Indexed (forest : Forest Place) (file up : ℕ) (t : List Row) (i : ℕ) (u : List Row) (next : ℕ) : Type 0 where
  pub table : u ≡ fill t i (rows file up i forest)
  pub counted : next ≡ i + size forest

-- the forests of the files of a set: of each, the embedded messages with the field number, in so many levels
abbrev pub file_record : ℕ → ℕ → List ℕ → Record → Unit {0} → (Unit {0} → List (Forest Place)) → List (Forest Place)
file_record number left s f x go_on = choose (eqb f.number 1) (forest_in left number (inside s f) f.start ∷ go_on x) (go_on x)

abbrev pub files_from : ℕ → ℕ → List ℕ → ℕ → List (Forest Place)
files_from number left s at = over (file_record number left s) (λ key x. []) (λ x. []) s at tt

-- a set over limit 1 is not looked at
unfoldable pub file_forests : ℕ → ℕ → List ℕ → List (Forest Place)
file_forests number left s = choose (ltb 32768 (length s)) [] (files_from number left s 0)

unfoldable pub total : List (Forest Place) → ℕ
total [] = 0
total (F ∷ Fs) = size F + total Fs

-- the rows of forests, numbered from i on, the first of the file with the index file
unfoldable pub rows_of : ℕ → ℕ → List (Forest Place) → List Row
rows_of file i [] = []
rows_of file i (F ∷ Fs) = rows file 0 i F ++ rows_of (file + 1) (i + size F) Fs

pub record IndexedFiles (Fs : List (Forest Place)) (t u : List Row) (next : ℕ) : Type 0 where
  pub table : u ≡ fill t 0 (rows_of 0 0 Fs)
  pub counted : next ≡ total Fs

-- The rows of what the messages of a table hold with the field number (fields 2, enums 4, oneofs 8), from row i on: of k messages, the first in row j of
-- the table. A set within the limits has fewer than 32,768; what follows them is left out.
abbrev pub member_forest : List ℕ → ℕ → Row → Forest Place
member_forest set number m = forest_in 1 number (part set m.start (m.end - m.start)) m.start

unfoldable pub members : List ℕ → ℕ → List Row → ℕ → ℕ → ℕ → List Row
members set number messages zero j i = []
members set number messages (suc k) j i =
    choose (ltb 32767 i) []
    (rows (row_at messages j).file (j + 1) i (member_forest set number (row_at messages j))
    ++ members set number messages k (j + 1) (i + size (member_forest set number (row_at messages j))))

-- the table t with these rows from row i on is u, and next is the row behind them
pub record Holds (rs : List Row) (t : List Row) (i : ℕ) (u : List Row) (next : ℕ) : Type 0 where
  pub table : u ≡ fill t i rs
  pub counted : next ≡ i + length rs

-- a set over limit 1, or a table of more messages than limit 3, is not looked at
unfoldable pub all_members : List ℕ → ℕ → List Row → ℕ → ℕ → List Row
all_members set number messages count i = choose (ltb 32768 (length set)) [] (choose (ltb 1024 count) [] (members set number messages count 0 i))
