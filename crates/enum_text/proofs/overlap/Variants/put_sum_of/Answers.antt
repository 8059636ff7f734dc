use Rattle.std.proofs.Common.{ap, ◌∙◌}
use Rattle.checksums.specs.Sums.{sum_of}
use Rattle.enum_text.proofs.SumLaws.{sum_missing, sum_held}
use Rattle.enum_text.proofs.overlap.Variants.put_sum_of.Goals as goal

pub returns-in-Some : goal.returns-in-Some
returns-in-Some c = sum_held _ _ _ _ c.in-Some.ensures (c.checksum.ensures ∙ ap sum_of c.as_bytes.ensures) c.push.ensures

pub returns-in_default : goal.returns-in_default
returns-in_default c = sum_missing _ _ _ _ c.in_default.ensures
