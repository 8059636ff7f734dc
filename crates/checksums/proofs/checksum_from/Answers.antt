use native.Mathlib.Omega.{arith}
use mathlib.Core.Path.{sym, ◌∙◌}
use Rattle.checksums.proofs.Steps.{sum_more, sum_end}
use Rattle.checksums.proofs.checksum_from.Goals as goal

pub loop-byte-preserved : goal.loop-byte-preserved
loop-byte-preserved c = (omega arith, sum_more _ _ _ _ c.loop-byte-test.true c.from.ensures ∙ c.loop-byte.invariant.1)

pub returns-clause-value : goal.returns-clause-value
returns-clause-value c = sym (sum_end c.args.bytes.now c.loop-byte.so_far c.loop-byte.byte-index (omega (arith, c.loop-byte-test.false))) ∙ c.loop-byte.invariant.1
