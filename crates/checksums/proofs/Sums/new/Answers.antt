use Rattle.checksums.proofs.Steps.{none_first}
use Rattle.checksums.proofs.Sums.new.Goals as goal

pub returns : goal.returns
returns g c = none_first _
