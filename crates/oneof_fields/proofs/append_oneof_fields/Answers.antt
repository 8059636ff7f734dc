use Rattle.std.proofs.Common.{ap}
use Rattle.writer.specs.Writing.{◌▻◌}
use Rattle.descriptor.specs.Descriptor.{Bytes}
use Rattle.members.proofs.OneofLaws.{pieces_on, pieces_done, unwritten}
use Rattle.oneof_fields.proofs.FieldLaws.{field_of, field_named, all_fields}
use Rattle.oneof_fields.specs.OneofFields.{oneof_field_texts}
use Rattle.oneof_fields.proofs.append_oneof_fields.Goals as goal

pub returns-then-not-declares_oneofs : goal.returns-then-not-declares_oneofs
unfolding oneof_field_texts
returns-then-not-declares_oneofs c = unwritten _ _ _ _ _ _ c.declares_oneofs.ensures c.if-not-declares_oneofs.true

pub loop-oneof-init : goal.loop-oneof-init
loop-oneof-init c =
    let v = c.args in
    rw (c.into_iter-oneof-iterator.ensures.into_iter_gives, c.oneofs-oneof-items.ensures) (ap (λ (p : Bytes). v.text.now ▻ p) (all_fields v.context.now v.depth v.message.now))

pub loop-oneof-preserved : goal.loop-oneof-preserved
loop-oneof-preserved c =
    let v = c.args in
    pieces_on (field_of v.context.now v.depth v.message.now) _ _ _ c.loop-oneof.invariant _ _ _ c.in-Some.ensures.steps
    (field_named v.context.now v.depth v.message.now _ _ _ _ c.name-name.ensures c.append_oneof_field.ensures)

pub returns : goal.returns
returns c =
    let v = c.args in
    pieces_done (field_of v.context.now v.depth v.message.now) _ _ _ c.loop-oneof.invariant c.in-None.ensures.steps.0
