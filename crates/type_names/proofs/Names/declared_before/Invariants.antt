use Rattle.type_names.specs.LookUp.{row_sum}
use Rattle.type_names.proofs.WalkLaws.{Walk}
use Rattle.type_names.proofs.BeforeLaws.{Left}
use Rattle.type_names.proofs.Names.declared_before.Given as goal

abbrev pub invariant-loop-other : goal.invariant-loop-other
invariant-loop-other l = Walk l.self.declared.set.now l.self.declared.rows.now (row_sum l.self.declared.set.now l.self.declared.rows.now l.row) (Left l.self.declared.set.now l.self.declared.rows.now l.row) l.other-iterator
