-- The kinds of rows of an options file: which parts a row of the kind has, and whether the kind stands once.
use Rattle.std.specs.Prelude.{Bool, ◌||◌, ℕ, eqb, get_or}
use Rattle.base.specs.Bytes.{b}

-- by kind, from 0: `b` path and value, `p` path only, `v` value only and once, `n` neither; else it is no kind
unfoldable pub sort_of : ℕ → ℕ
sort_of kind = get_or (b " bpppbbbbpvnv") kind 0

unfoldable pub has_path : ℕ → Bool
has_path kind = eqb (sort_of kind) 98 || eqb (sort_of kind) 112

unfoldable pub has_value : ℕ → Bool
has_value kind = eqb (sort_of kind) 98 || eqb (sort_of kind) 118

unfoldable pub stands_once : ℕ → Bool
stands_once kind = eqb (sort_of kind) 118

unfoldable pub is_kind : ℕ → Bool
is_kind kind = has_path kind || (has_value kind || eqb (sort_of kind) 110)
