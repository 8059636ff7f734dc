use Rattle.type_names.proofs.WalkLaws.{Walk}
use Rattle.map_entries.specs.Numbers.{number_of, numbers}
use Rattle.map_entries.proofs.PassLaws.{Noted}
use Rattle.map_entries.proofs.note_rows.Given as goal

abbrev pub invariant-loop-row : goal.invariant-loop-row
invariant-loop-row l = Walk l.names.declared.set.now l.names.declared.rows.now l.sum (Noted l.names.declared.set.now l.names.declared.rows.now l.name (number_of l.said) l.names.declared.count (numbers l.initial.who) (numbers l.who)) l.row-iterator
