use Rattle.std.proofs.Common.{◌≡◌, ◌+◌, ◌<◌, ◌^◌, length}
use Rattle.std.specs.Iterator.Adapters.{enumerate_source, enumerate_count}
use Rattle.path.specs.Worth.{weighed, best_of, none_yet}
use Rattle.path.proofs.best_row.Given as goal

abbrev pub invariant-loop-number : goal.invariant-loop-number
invariant-loop-number l =
    record {
      number : l.best.number < 2 ^ 16;
      few : enumerate_count l.number-iterator + length (enumerate_source l.number-iterator) < 2 ^ 16;
      rest : best_of (weighed l.all l.path) l.kind l.best (enumerate_count l.number-iterator) (enumerate_source l.number-iterator) ≡ best_of (weighed l.all l.path) l.kind none_yet 0 l.options;
    }
