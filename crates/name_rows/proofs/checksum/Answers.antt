use Rattle.std.proofs.Common.{sym, ◌∙◌, arith}
use Rattle.name_rows.proofs.Steps.{checksum_more, checksum_end}
use Rattle.name_rows.proofs.checksum.Goals as goal

pub loop-byte-preserved : goal.loop-byte-preserved
loop-byte-preserved c = (omega arith, checksum_more c.args.key.now c.loop-byte.sum _ _ c.loop-byte-test.true c.from.ensures ∙ c.loop-byte.invariant.1)

pub returns : goal.returns
returns c = sym (checksum_end c.args.key.now c.loop-byte.sum c.loop-byte.byte-index (omega arith)) ∙ c.loop-byte.invariant.1
