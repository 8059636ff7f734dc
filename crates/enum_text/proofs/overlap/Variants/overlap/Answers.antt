use Rattle.std.proofs.Common.{◌∙◌}
use Rattle.enum_text.proofs.SumLaws.{sums_apart}
use Rattle.enum_text.proofs.overlap.Variants.overlap.Goals as goal

pub returns-else-may_repeat : goal.returns-else-may_repeat
returns-else-may_repeat c = c.if-may_repeat.false ∙ sums_apart _ c.new-sums.ensures c.put_sums.ensures c.may_repeat.ensures c.if-may_repeat.false
