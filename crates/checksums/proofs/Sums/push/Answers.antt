use Rattle.std.proofs.Common.{rules, ap, ◌∙◌}
use Rattle.checksums.specs.Lists.{pushed}
use Rattle.checksums.proofs.Steps.{first_pushed}
use Rattle.checksums.proofs.Sums.push.Goals as goal

pub returns : goal.returns
returns g c = first_pushed g.row.N _ _ (search rules) c.put_sum-self-inside.ensures ∙ ap (λ o. pushed g.row.N o c.args.sum) c.self.view_is
