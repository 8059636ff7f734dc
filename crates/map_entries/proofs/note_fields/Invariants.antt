use lib.ListN.{length}
use Rattle.base.specs.Lists.{all_of}
use Rattle.descriptor.specs.Decode.{entries, parts}
use Rattle.map_entries.specs.Named.{part_use, tally}
use Rattle.map_entries.specs.Numbers.{numbers}
use Rattle.map_entries.proofs.PassLaws.{Going}
use Rattle.map_entries.proofs.note_fields.Given as goal

abbrev pub invariant-loop-part : goal.invariant-loop-part
invariant-loop-part l = Going l.names.declared.set.now l.names.declared.rows.now l.names.declared.count l.number (tally l.names.declared.set.now l.names.declared.rows.now l.names.declared.count (all_of (part_use l.number) (parts 2 (entries l.fn.message))) (numbers l.fn.who)) (length (numbers l.fn.who)) l.part-iterator (numbers l.who)
