use Rattle.std.proofs.Common.{◌≡◌, ◌-◌, length, drop}
use Rattle.std.specs.Iterator.Adapters.{enumerate_source, enumerate_count}
use Rattle.extern_checks.specs.Doubles.{externs_from, externs}
use Rattle.extern_checks.proofs.check.Given as goal

abbrev pub invariant-loop-number : goal.invariant-loop-number
invariant-loop-number l =
    record {
      here : enumerate_source l.number-iterator ≡ drop (enumerate_count l.number-iterator) l.options;
      rest : externs_from l.options (length l.options - enumerate_count l.number-iterator) (enumerate_count l.number-iterator) ≡ externs l.options;
    }
