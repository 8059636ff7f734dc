use Rattle.std.proofs.Common.{rules, ap, ◌∙◌}
use Rattle.checksums.specs.Sums.{repeats}
use Rattle.checksums.specs.Lists.{may}
use Rattle.checksums.proofs.Steps.{full_may, held_may}
use Rattle.checksums.proofs.Sums.may_repeat.Goals as goal

pub returns-then-self : goal.returns-then-self
returns-then-self g c = full_may g.row.N _ _ (search rules) repeats c.if-self.true ∙ ap (may repeats) c.self.view_is

pub returns-else-self : goal.returns-else-self
returns-else-self g c = held_may g.row.N _ _ (search rules) repeats c.if-self.false c.repeats.ensures ∙ ap (may repeats) c.self.view_is
