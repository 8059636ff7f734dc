use Rattle.std.proofs.Common.{ap, ◌∙◌}
use Rattle.writer.specs.Writing.{◌▻◌}
use Rattle.descriptor.specs.Descriptor.{Bytes}
use Rattle.members.specs.Members.{oneof_members}
use Rattle.members.specs.Seen.{MessageSeen}
use Rattle.members.proofs.OneofLaws.{pieces_on, pieces_done, unwritten}
use Rattle.code_generator.specs.Writing.{◌⊳◌}
use Rattle.oneof_text.specs.OneofText.{oneof_text, oneof_texts}
use Rattle.oneof_text.proofs.EnumLaws.{enum_of, all_enums}
use Rattle.oneof_text.proofs.append_oneofs.Goals as goal

pub returns-then-not-declares_oneofs : goal.returns-then-not-declares_oneofs
unfolding oneof_texts
returns-then-not-declares_oneofs c = unwritten _ _ _ _ _ _ c.declares_oneofs.ensures c.if-not-declares_oneofs.true

pub loop-oneof-init : goal.loop-oneof-init
loop-oneof-init c =
    let v = c.args in
    rw (c.into_iter-oneof-iterator.ensures.into_iter_gives, c.oneofs-oneof-items.ensures) (ap (λ (p : Bytes). v.text.now ▻ p) (all_enums v.context.now v.depth v.message.now))

pub loop-oneof-preserved : goal.loop-oneof-preserved
loop-oneof-preserved c =
    let v = c.args in
    pieces_on (enum_of v.context.now v.depth v.message.now) _ _ _ c.loop-oneof.invariant _ _ _ c.in-Some.ensures.steps
    (c.put_oneof.ensures
    ∙ ap (λ (m : MessageSeen). c.loop-oneof.text ⊳ oneof_text v.context.now.options v.context.now.set v.context.now.messages v.context.now.fields v.depth m.full c.in-Some.oneof.name c.in-Some.oneof.conflict (oneof_members v.context.now.fields c.in-Some.oneof)) c.message.view_is)

pub returns : goal.returns
returns c =
    let v = c.args in
    pieces_done (enum_of v.context.now v.depth v.message.now) _ _ _ c.loop-oneof.invariant c.in-None.ensures.steps.0
