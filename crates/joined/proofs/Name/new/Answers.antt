use Rattle.std.proofs.Common.{refl, ◌∙◌}
use Rattle.joined.specs.Joined.{◌⊙◌, text_cut}
use Rattle.joined.proofs.Name.new.Goals as goal

pub returns : goal.returns
unfolding ◌⊙◌
returns c = c.cut.ensures ∙ text_cut c.fill_path-length.ensures refl
