use Rattle.std.proofs.Common.{refl, ◌∙◌}
use Rattle.std.specs.Prelude.{Some, None}
use Rattle.joined.specs.Joined.{text_fitting}
use Rattle.enum_text.specs.Overlap.{has_room}
use Rattle.enum_text.proofs.overlap.Variants.name.Goals as goal

pub returns : goal.returns
unfolding has_room
returns c = c.fitting.ensures ∙ text_fitting c.fill_name-length.ensures refl (λ x. Some x) None
