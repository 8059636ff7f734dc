-- What a tally says of the cases that were asked about.
use Rattle.std.specs.Prelude.{◌≡◌, ◌-◌, ◌^◌, ◌<◌, List, length, min, All, Any}
use Rattle.cases.specs.declared.tally.Tally.{Tally}

-- each case is counted; where none differs, each may have been found the same, and where some do, one may have been found to differ
pub record Compared {A : Type 0} (Same Differs : A → Type 0) (cases : List A) (t : Tally) : Type 0 where
  pub counted : t.compared ≡ min (length cases) (2 ^ 64 - 1)
  pub none : t.differ ≡ 0 → All Same cases
  pub some : 0 < t.differ → Any Differs cases
