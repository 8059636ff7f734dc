use native.Mathlib.Omega.{arith}
use mathlib.Core.Path.{◌∙◌}
use Rattle.enum_values.proofs.KeptLaws.{used_before}
use Rattle.enum_values.proofs.Kept.is_used.Goals as goal

pub returns : goal.returns
returns c = c.contains.ensures.value ∙ used_before c.args.self.now.numbers c.args.number c.args.self.now.count (omega (arith, c.requires))
