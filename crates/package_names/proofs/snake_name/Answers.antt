use Rattle.std.proofs.Common.{refl, ◌∙◌}
use Rattle.joined.specs.Joined.{text_cut}
use Rattle.package_names.specs.Packages.{cut_snake}
use Rattle.package_names.proofs.snake_name.Goals as goal

pub returns : goal.returns
unfolding cut_snake
returns c = c.cut.ensures ∙ text_cut c.fill_snake-length.ensures refl
