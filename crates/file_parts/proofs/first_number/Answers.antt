use mathlib.Core.Path.{◌∙◌}
use Rattle.file_parts.proofs.PlaceLaws.{number_end}
use Rattle.file_parts.proofs.first_number.Goals as goal

pub returns : goal.returns
returns c = number_end _ _ _ _ (λ h. (c.in-None.ensures.steps h).0) ∙ c.loop-part.invariant
