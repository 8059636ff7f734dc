use Rattle.std.proofs.Common.{ap, sym, ◌∙◌, add-one, refl, ℕ}
use Rattle.writer.specs.Writing.{◌▻◌}
use Rattle.writer.proofs.TextLaws.{put-nothing}
use Rattle.descriptor.specs.Descriptor.{Bytes}
use Rattle.descriptor.specs.Decode.{entries, parts}
use Rattle.context.specs.Given.{Given}
use Rattle.members.specs.Seen.{MessageSeen}
use Rattle.walks.specs.Walked.{walked, written_on, written_all}
use Rattle.member_rows.specs.MemberRows.{oneof_row, oneof_rows, next_index}
use Rattle.member_rows.proofs.NameLaws.{oneof_there, oneof_missing}
use Rattle.member_rows.proofs.put_oneofs.Goals as goal

pub loop-index-init : goal.loop-index-init
unfolding oneof_rows
loop-index-init c =
    let v = c.args in
    let g = v.context.now in
    let m = v.message.now in
    rw (c.into_iter-index-iterator.ensures.into_iter_gives, c.enumerate-index-items.ensures.count, c.enumerate-index-items.ensures.source, c.new.ensures.parts)
    (ap (λ (n : MessageSeen). v.text.now ▻ walked (oneof_row g.messages g.fields m.number m.part) (next_index g.messages g.fields) 0 (parts 8 (entries n.part))) c.message.view_is)

pub loop-index-preserved-then-has_members : goal.loop-index-preserved-then-has_members
loop-index-preserved-then-has_members c =
    let g = c.args.context.now in
    let m = c.args.message.now in
    let step = c.in-Some.ensures.steps in
    let t = c.loop-index.text in
    let piece = oneof_there g.messages g.fields m.number m.part (ap (λ (x : Given). x.messages) c.context.view_is) c.fields-fields.ensures.start c.fields-fields.ensures.end
    c.in-Some.index c.in-Some.part.now _ c.name_of.ensures (ap (λ (x : Given). x.fields) c.context.view_is) _ c.has_members.ensures c.if-has_members.true in
    written_on _ _ t _ _ _ c.loop-index.invariant _ _ _ _ step.0 (step.2 ∙ add-one _)
    (c.put_row.ensures ∙ ap (λ (x : Bytes). t ▻ x) piece ∙ ap (λ (k : ℕ). t ▻ oneof_row g.messages g.fields m.number m.part k c.in-Some.part.now) step.1)

pub loop-index-preserved : goal.loop-index-preserved
loop-index-preserved c =
    let g = c.args.context.now in
    let m = c.args.message.now in
    let step = c.in-Some.ensures.steps in
    let t = c.loop-index.text in
    let piece = oneof_missing g.messages g.fields m.number m.part (ap (λ (x : Given). x.messages) c.context.view_is) c.fields-fields.ensures.start c.fields-fields.ensures.end
    c.in-Some.index c.in-Some.part.now _ refl (ap (λ (x : Given). x.fields) c.context.view_is) _ c.has_members.ensures c.if-has_members.false in
    written_on _ _ t _ _ _ c.loop-index.invariant _ _ _ _ step.0 (step.2 ∙ add-one _)
    (sym (put-nothing t) ∙ ap (λ (x : Bytes). t ▻ x) piece ∙ ap (λ (k : ℕ). t ▻ oneof_row g.messages g.fields m.number m.part k c.in-Some.part.now) step.1)

pub returns : goal.returns
unfolding oneof_rows
returns c = written_all _ _ c.loop-index.text _ _ _ c.loop-index.invariant c.in-None.ensures.steps.0.0
