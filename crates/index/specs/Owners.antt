-- Which holder each item has. Assumes nothing.
use Rattle.std.specs.Prelude.{ℕ, ◌+◌, List, [], ◌∷◌, ◌++◌, length, replicate}

-- for each of what the holders hold, in order, its holder's number: the first holder's is i
unfoldable pub owners {ℓ κ} : {A : Type ℓ} {B : Type κ} → (A → List B) → ℕ → List A → List ℕ
owners held i [] = []
owners held i (a ∷ xs) = replicate (length (held a)) i ++ owners held (i + 1) xs
