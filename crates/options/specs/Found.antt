-- The number of a row, if there is one: what the definitions of a search give.
use Rattle.std.specs.Prelude.{Bool, ℕ}

pub record Found : Type 0 where
  pub found : Bool
  pub number : ℕ
