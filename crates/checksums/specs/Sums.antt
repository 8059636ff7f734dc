-- Checksums of byte strings, and lists of them. Assumes nothing.
use Rattle.std.specs.Prelude.{ℕ, ◌+◌, ◌*◌, ◌%◌, ◌^◌, ◌≡◌, Bool, false, ◌||◌, List, [], ◌∷◌, eqb, ltb, length, set}
use Rattle.base.specs.Choose.{choose}

-- of bytes behind those whose checksum is h
unfoldable pub sum_from : ℕ → List ℕ → ℕ
sum_from h [] = h
sum_from h (x ∷ xs) = sum_from ((h * 1000003 + x) % 2 ^ 32) xs

abbrev pub sum_of : List ℕ → ℕ
sum_of s = sum_from 0 s

-- is x one of the numbers?
unfoldable pub holds : ℕ → List ℕ → Bool
holds x [] = false
holds x (y ∷ ys) = eqb x y || holds x ys

-- are two of them the same?
unfoldable pub repeats : List ℕ → Bool
repeats [] = false
repeats (x ∷ xs) = holds x xs || repeats xs

-- the table t with x as number n is t', and r numbers are there with it: one more than it has room for, where it has none for x
pub record Put (t : List ℕ) (n x : ℕ) (t' : List ℕ) (r : ℕ) : Type 0 where
  pub table : t' ≡ set t n x
  pub count : r ≡ choose (ltb n (length t)) (n + 1) (length t + 1)
