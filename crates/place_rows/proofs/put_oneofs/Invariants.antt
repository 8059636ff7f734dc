use Rattle.std.specs.Prelude.{◌≡◌}
use Rattle.base.specs.Lists.{all_of}
use Rattle.writer.specs.Writing.{◌▻◌}
use Rattle.members.specs.Seen.{OneofSeen}
use Rattle.code_generator.specs.Piece.{flat}
use Rattle.place_rows.specs.PlaceRows.{oneof_rows}
use Rattle.place_rows.proofs.PartLaws.{type_row}
use Rattle.place_rows.proofs.put_oneofs.Given as goal

abbrev pub invariant-loop-oneof : goal.invariant-loop-oneof
invariant-loop-oneof l =
    l.text ▻ all_of (λ (o : OneofSeen). flat (type_row l.context l.message o)) l.oneof-iterator
    ≡ l.initial.text ▻ oneof_rows l.context.messages l.context.fields l.message.full l.message.nested l.message.number l.message.part
