use Rattle.std.proofs.Common.{ap₂, ◌∙◌}
use Rattle.base.specs.Bytes.{same}
use Rattle.base.proofs.BytesLaws.{same_bytes}
use Rattle.package_names.proofs.same_snake.Goals as goal

pub returns : goal.returns
returns c = c.eq.ensures ∙ same_bytes _ _ ∙ ap₂ same (c.as_bytes.ensures ∙ c.snake_name-left.ensures) (c.as_bytes-2.ensures ∙ c.snake_name-right.ensures)
