use Rattle.type_names.proofs.ChainLaws.{Linking}
use Rattle.type_names.proofs.chain.Given as goal

abbrev pub invariant-loop-k : goal.invariant-loop-k
invariant-loop-k l = Linking l.initial.sums l.n l.sums l.k
