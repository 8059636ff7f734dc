use Rattle.std.proofs.Common.{refl, ◌∙◌}
use Rattle.joined.specs.Joined.{text_cut}
use Rattle.members.specs.Members.{cut_camel}
use Rattle.members.proofs.camel.camel_name.Goals as goal

pub returns : goal.returns
unfolding cut_camel
returns c = c.cut.ensures ∙ text_cut c.fill_upper_camel-length.ensures refl
