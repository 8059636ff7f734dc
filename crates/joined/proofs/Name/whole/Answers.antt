use Rattle.std.proofs.Common.{refl, ◌∙◌}
use Rattle.std.specs.Prelude.{Some, None}
use Rattle.joined.specs.Joined.{fits, text_fitting}
use Rattle.joined.proofs.Name.whole.Goals as goal

pub returns : goal.returns
unfolding fits
returns c = c.fitting.ensures ∙ text_fitting c.fill_path-needed.ensures refl (λ x. Some x) None
