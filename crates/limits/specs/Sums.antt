-- Sums over lists. Assumes nothing.
use Rattle.std.specs.Prelude.{ℕ, ◌+◌, Bool, List, [], ◌∷◌}
use Rattle.base.specs.Choose.{choose}

unfoldable pub sum {ℓ} : {A : Type ℓ} → (A → ℕ) → List A → ℕ
sum w [] = 0
sum w (x ∷ xs) = w x + sum w xs

-- 1 for what passes a test
abbrev pub bit : Bool → ℕ
bit t = choose t 1 0
