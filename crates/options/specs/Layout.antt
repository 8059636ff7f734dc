-- Document 01's "Options file": which options break the layout, and where (refusal 1).
use Rattle.std.specs.Prelude.{Bool, true, false, ◌||◌, ◌&&◌, not, List, [], ◌∷◌, ℕ, zero, suc, ◌+◌, ◌*◌, eqb, leb, ltb, length, take, Result, Ok, Err}
use Rattle.base.specs.Choose.{choose}
use Rattle.base.specs.declared.refusal.Refusal.{Refusal}
use Rattle.base.specs.declared.refusal.Refusal.TheVariants.{Layout}
use Rattle.options.specs.Kinds.{is_kind, has_path, has_value, stands_once}
use Rattle.options.specs.Settings.{row_count, kind_at, path_length, value_length, zero_at, bodies, part}

-- a part that a kind has holds at least one byte; a part it lacks has length 0
unfoldable pub fits : Bool → ℕ → Bool
fits has n = choose has (not (eqb n 0)) (eqb n 0)

-- has one of the rows before row i the kind?
unfoldable pub kind_before : List ℕ → ℕ → ℕ → Bool
kind_before s kind zero = false
kind_before s kind (suc i) = eqb (kind_at s i) kind || kind_before s kind i

-- the later row of a kind that stands once is the broken one
unfoldable pub repeated : List ℕ → ℕ → Bool
repeated s i = stands_once (kind_at s i) && kind_before s (kind_at s i) i

unfoldable pub header_good : List ℕ → ℕ → Bool
header_good s i =
    is_kind (kind_at s i) && eqb (zero_at s i) 0 && fits (has_path (kind_at s i)) (path_length s i)
    && fits (has_value (kind_at s i)) (value_length s i) && not (repeated s i)

-- all bytes are at least `low` and at most 0x7E
unfoldable pub printable : ℕ → List ℕ → Bool
printable low [] = true
printable low (c ∷ cs) = leb low c && leb c 126 && printable low cs

unfoldable pub body_good : List ℕ → ℕ → ℕ → Bool
body_good s i at = printable 33 (part s at (path_length s i)) && printable 32 (part s (at + path_length s i) (value_length s i))

-- row i, whose body starts at `at`: a header or body that is cut isn't judged
unfoldable pub row_good : List ℕ → ℕ → ℕ → Bool
row_good s i at =
    choose (ltb (length s) (10 + i * 8)) true
    (choose (header_good s i)
    (choose (ltb (length s) (at + path_length s i + value_length s i)) true (body_good s i at))
    false)

-- k rows from row i on, whose body starts at `at`, in options of `size` bytes that begin with s; then nothing else
unfoldable pub layout_from : List ℕ → ℕ → ℕ → ℕ → ℕ → Result Unit Refusal
layout_from s size zero i at = choose (eqb at size) (choose (leb at 4096) (Ok tt) (Err (Layout i))) (Err (Layout i))
layout_from s size (suc k) i at =
    choose (row_good s i at) (layout_from s size k (i + 1) (at + path_length s i + value_length s i)) (Err (Layout i))

-- what lies past byte 4,096 counts as cut
unfoldable pub layout : List ℕ → Result Unit Refusal
layout o =
    choose (ltb (length o) 2) (Err (Layout 0))
    (choose (leb (row_count o) 64) (layout_from (take 4096 o) (length o) (row_count o) 0 (bodies o)) (Err (Layout 0)))
