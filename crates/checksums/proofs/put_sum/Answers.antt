use Rattle.checksums.proofs.Steps.{put_there, put_nowhere}
use Rattle.checksums.proofs.put_sum.Goals as goal

pub returns-then-n-sums : goal.returns-then-n-sums
returns-then-n-sums c = put_there _ _ _ c.if-n-sums.true

pub returns : goal.returns
returns c = put_nowhere _ _ _ c.if-n-sums.false
