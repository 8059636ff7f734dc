use Rattle.std.proofs.Common.{ap, ◌∙◌}
use Rattle.writer.specs.Writing.{◌▻◌}
use Rattle.descriptor.specs.Descriptor.{Bytes}
use Rattle.members.specs.Seen.{MessageSeen}
use Rattle.members.proofs.OneofLaws.{pieces_on, pieces_done, unwritten}
use Rattle.code_generator.specs.Piece.{spelt, oneof_type}
use Rattle.name_rows.specs.Rows.{row}
use Rattle.place_rows.specs.PlaceRows.{oneof_rows}
use Rattle.place_rows.proofs.PartLaws.{type_row, all_types}
use Rattle.place_rows.proofs.put_oneofs.Goals as goal

pub returns-then-not-declares_oneofs : goal.returns-then-not-declares_oneofs
unfolding oneof_rows
returns-then-not-declares_oneofs c = unwritten _ _ _ _ _ _ c.declares_oneofs.ensures c.if-not-declares_oneofs.true

pub loop-oneof-init : goal.loop-oneof-init
loop-oneof-init c =
    let v = c.args in
    rw (c.into_iter-oneof-iterator.ensures.into_iter_gives, c.oneofs-oneof-items.ensures) (ap (λ (p : Bytes). v.text.now ▻ p) (all_types v.context.now v.message.now))

pub loop-oneof-preserved : goal.loop-oneof-preserved
loop-oneof-preserved c =
    let v = c.args in
    pieces_on (type_row v.context.now v.message.now) _ _ _ c.loop-oneof.invariant _ _ _ c.in-Some.ensures.steps
    (c.put_oneof.ensures ∙ ap (λ (m : MessageSeen). c.loop-oneof.text ▻ row m.full (spelt (oneof_type c.in-Some.oneof.conflict c.in-Some.oneof.name))) c.message.view_is)

pub returns : goal.returns
returns c =
    let v = c.args in
    pieces_done (type_row v.context.now v.message.now) _ _ _ c.loop-oneof.invariant c.in-None.ensures.steps.0
