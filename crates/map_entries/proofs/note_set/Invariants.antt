use Rattle.map_entries.specs.Numbers.{numbers}
use Rattle.map_entries.proofs.PassLaws.{Passed}
use Rattle.map_entries.proofs.note_set.Given as goal

abbrev pub invariant-loop-row : goal.invariant-loop-row
invariant-loop-row l = Passed l.names.declared.set.now l.names.declared.rows.now l.names.declared.count (numbers l.initial.who) (numbers l.who) l.row
