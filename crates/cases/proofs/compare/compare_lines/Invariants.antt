use Rattle.std.proofs.Common.{true, false}
use Rattle.cases.specs.Compared.{Compared}
use Rattle.cases.proofs.compare.compare_lines.Given as goal

abbrev pub invariant-loop-line : goal.invariant-loop-line
invariant-loop-line g l = Compared (λ line. goal.F-post g l.holds line true) (λ line. goal.F-post g l.holds line false) l.yielded l.tally
