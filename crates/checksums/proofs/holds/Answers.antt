use mathlib.Core.Path.{◌∙◌}
use Rattle.checksums.proofs.Steps.{holds_is}
use Rattle.checksums.proofs.holds.Goals as goal

pub returns : goal.returns
returns c = c.contains.ensures.value ∙ holds_is _ _
