-- The rows of an options file, as its layout places them.
use Rattle.std.specs.Prelude.{Bool, true, false, not, List, [], ◌∷◌, ℕ, zero, suc, ◌+◌, ◌*◌, eqb, take, drop, get_or}
use Rattle.std.proofs.Math.Option.{Option, some, none}
use Rattle.base.specs.Choose.{choose}
use Rattle.base.specs.Bytes.{b}
use Rattle.options.specs.Found.{Found}

-- the little-endian 16-bit number at a place
unfoldable pub number : List ℕ → ℕ → ℕ
number o at = get_or o at 0 + get_or o (at + 1) 0 * 256

-- n rows of kind, path length, value length, zero
unfoldable pub row_count : List ℕ → ℕ
row_count o = number o 0

unfoldable pub kind_at : List ℕ → ℕ → ℕ
kind_at o i = number o (2 + i * 8)

unfoldable pub path_length : List ℕ → ℕ → ℕ
path_length o i = number o (4 + i * 8)

unfoldable pub value_length : List ℕ → ℕ → ℕ
value_length o i = number o (6 + i * 8)

unfoldable pub zero_at : List ℕ → ℕ → ℕ
zero_at o i = number o (8 + i * 8)

-- where the bodies start
unfoldable pub bodies : List ℕ → ℕ
bodies o = 2 + row_count o * 8

-- the n bytes from a place on
abbrev pub part : List ℕ → ℕ → ℕ → List ℕ
part o at n = take n (drop at o)

-- a row: its kind, and its path and value, empty where the kind has none
pub record Setting : Type 0 where
  pub kind : ℕ
  pub path : List ℕ
  pub value : List ℕ

-- k rows from row i on, whose body starts at `at`: path before value
unfoldable pub settings_from : List ℕ → ℕ → ℕ → ℕ → List Setting
settings_from o zero i at = []
settings_from o (suc k) i at =
    record { kind = kind_at o i; path = part o at (path_length o i); value = part o (at + path_length o i) (value_length o i) }
    ∷ settings_from o k (i + 1) (at + path_length o i + value_length o i)

unfoldable pub settings : List ℕ → List Setting
settings o = settings_from o (row_count o) 0 (bodies o)

-- ---- what a search for a row finds
abbrev pub found_at : ℕ → Found
found_at i = record { found = true; number = i }

abbrev pub not_found : Found
not_found = record { found = false; number = 0 }

-- the first row of a kind, the rows being numbered from i on
unfoldable pub first_of_kind : ℕ → ℕ → List Setting → Found
first_of_kind kind i [] = not_found
first_of_kind kind i (r ∷ rs) = choose (eqb r.kind kind) (found_at i) (first_of_kind kind (i + 1) rs)

-- ---- what is asked of the kinds without a path
-- the value of the first row of a kind
unfoldable pub value_of : ℕ → List Setting → Option (List ℕ)
value_of kind [] = none
value_of kind (r ∷ rs) = choose (eqb r.kind kind) (some r.value) (value_of kind rs)

abbrev pub or_else : {A : Type 0} → Option A → A → A
or_else none x = x
or_else (some v) x = v

-- kind 10: the prost path
unfoldable pub prost_path : List Setting → List ℕ
prost_path rs = or_else (value_of 10 rs) (b "::prost")

-- kind 11: prefix stripping off
unfoldable pub strips_prefix : List Setting → Bool
strips_prefix rs = not (first_of_kind 11 0 rs).found
