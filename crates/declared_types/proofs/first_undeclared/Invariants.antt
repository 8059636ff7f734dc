use Rattle.declared_types.proofs.FieldLaws.{Going}
use Rattle.declared_types.proofs.first_undeclared.Given as goal

abbrev pub invariant-loop-row : goal.invariant-loop-row
invariant-loop-row l = Going l.names.declared.set.now l.names.declared.rows.now l.names.declared.count l.row
