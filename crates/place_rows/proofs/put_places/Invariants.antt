use Rattle.writer.specs.Writing.{◌▻◌}
use Rattle.walks.specs.Walked.{walked}
use Rattle.file_parts.proofs.WalkLaws.{Along}
use Rattle.place_rows.specs.PlaceRows.{file_rows, behind_file, set_rows}
use Rattle.place_rows.proofs.put_places.Given as goal

abbrev pub invariant-loop-first : goal.invariant-loop-first
invariant-loop-first l =
    Along l.context.messages 0 65535
    (λ i ps. l.text ▻ walked (file_rows l.context.options l.context.messages l.context.fields) (behind_file l.context.options l.context.messages l.context.fields) i ps)
    (l.fn.text ▻ set_rows l.context.options l.context.messages l.context.fields l.context.set) l.first-iterator
