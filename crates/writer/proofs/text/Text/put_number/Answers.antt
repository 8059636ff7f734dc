use Rattle.std.proofs.Common.{ap, ◌∙◌}
use Rattle.writer.specs.Writing.{◌▻◌}
use Rattle.writer.proofs.Digits.{decimal-is}
use Rattle.writer.proofs.text.Text.put_number.Goals as goal

pub returns : goal.returns
returns c = c.put.ensures ∙ ap (◌▻◌ c.args.self.now) (c.as_bytes.ensures.value ∙ c.format.ensures.text ∙ decimal-is c.args.n c.ranges.n.fits)
