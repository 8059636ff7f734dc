use Rattle.std.proofs.Common.{ap, ◌∙◌}
use Rattle.std.proofs.lemmas.Int.{of_z-to_z}
use Rattle.std.specs.Int.{w32}
use Rattle.writer.specs.Writing.{◌▻◌}
use Rattle.writer.proofs.Digits.{signed-is}
use Rattle.writer.proofs.text.Text.put_signed.Goals as goal

pub returns : goal.returns
returns c =
    c.put.ensures ∙ ap (◌▻◌ c.args.self.now) (c.as_bytes.ensures.value ∙ c.format.ensures.text ∙ rw (c.cast_signed.ensures, of_z-to_z w32 c.args.n c.ranges.n.fits) (signed-is c.args.n c.ranges.n.fits))
