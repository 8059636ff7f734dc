use Rattle.std.proofs.Common.{arith}
use Rattle.std.proofs.lemmas.Grind.{common_steps}
use Rattle.path.specs.Worth.{best_of}
use Rattle.path.proofs.MatchLaws.{improved_few}
use Rattle.path.proofs.best_row.Goals as goal

pub loop-number-preserved : goal.loop-number-preserved
unfolding best_of
loop-number-preserved c =
    record {
      number = improved_few _ _ _ _ _ c.improved-best.ensures c.loop-number.invariant.number (grind (arith, common_steps));
      few = grind (arith, common_steps);
      rest = grind (arith, common_steps);
    }
