use Rattle.type_names.proofs.WalkLaws.{Walk}
use Rattle.type_names.proofs.FindLaws.{Going}
use Rattle.type_names.proofs.Names.find.Given as goal

abbrev pub invariant-loop-row : goal.invariant-loop-row
invariant-loop-row l = Walk l.self.declared.set.now l.self.declared.rows.now l.sum (Going l.self.declared.set.now l.self.declared.rows.now l.name l.sort l.self.declared.count l.first) l.row-iterator
