-- What the search keeps: a mark for each message. Assumes nothing.
use Rattle.std.specs.Prelude.{◌≡◌, ◌⊎◌, Bool, true, false, List, [], ◌∷◌, ℕ, suc, ◌<◌, length, get_or}
use Rattle.message_graph.specs.Fields.{Fields, size, owner_of, target_of, link}
use Rattle.message_graph.specs.Leads.{Leads}

-- x has its mark
abbrev pub Marked : List Bool → ℕ → Type 0
Marked ms x = get_or ms x false ≡ true

-- all that x has a link to has its mark
abbrev pub Done : Fields → List Bool → ℕ → Type 0
Done f ms x = (i : ℕ) → i < size f → link f i ≡ true → owner_of f i ≡ x → Marked ms (target_of f i)

-- how many marks are clear
unfoldable pub clear : List Bool → ℕ
clear [] = 0
clear (true ∷ ms) = clear ms
clear (false ∷ ms) = suc (clear ms)

-- a visit to x: marks stay, x has its mark, a new mark is led to from x, and all that it has a link to has its mark too
pub record Visited (f : Fields) (old new : List Bool) (x : ℕ) : Type 0 where
  pub size : length new ≡ length old
  pub keeps : (y : ℕ) → Marked old y → Marked new y
  pub here : Marked new x
  pub led : (a : ℕ) → Leads f a x → ((y : ℕ) → Marked old y → Leads f a y) → (y : ℕ) → Marked new y → Leads f a y
  pub done : (y : ℕ) → Marked new y → Marked old y ⊎ Done f new y
  pub fewer : clear new < clear old
