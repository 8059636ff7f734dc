use Rattle.std.proofs.Common.{None, Some}
use Rattle.cases.specs.Compared.{Compared}
use Rattle.cases.proofs.compare.compare_all.Given as goal

abbrev pub invariant-loop-case : goal.invariant-loop-case
invariant-loop-case g l = Compared (λ c. goal.F-post g l.differs c None) (λ c. (d : _) × goal.F-post g l.differs c (Some d)) l.yielded l.tally
