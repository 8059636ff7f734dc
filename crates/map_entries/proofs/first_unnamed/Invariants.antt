use Rattle.map_entries.specs.Numbers.{numbers}
use Rattle.map_entries.proofs.EntryRowLaws.{Going}
use Rattle.map_entries.proofs.first_unnamed.Given as goal

abbrev pub invariant-loop-row : goal.invariant-loop-row
invariant-loop-row l = Going l.declared.set.now l.declared.rows.now (numbers l.who) l.declared.count l.row
