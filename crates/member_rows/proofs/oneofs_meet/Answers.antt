use Rattle.std.proofs.Common.{ap, ap₂, ◌∙◌, List, ℕ, true, length}
use Rattle.descriptor.specs.Decode.{entries, parts}
use Rattle.members.specs.Seen.{MessageSeen}
use Rattle.context.specs.Given.{Given}
use Rattle.text_tables.specs.Rows.{is_in}
use Rattle.member_rows.specs.MemberRows.{field_rows, rows_overlap}
use Rattle.member_rows.proofs.NameLaws.{members_in, oneofs_end, oneofs_hit, oneofs_on, oneofs_all}
use Rattle.member_rows.proofs.oneofs_meet.Goals as goal

pub returns-then-variants_meet : goal.returns-then-variants_meet
returns-then-variants_meet c =
    let g = c.args.context.now in
    let m = c.args.message.now in
    let is = c.variants_meet.ensures ∙ ap₂ (λ (r : ℕ) (ks : List ℕ). rows_overlap r (field_rows g.set g.fields true ks)) c.loop-index.invariant.1
    (members_in g.messages g.fields m.number m.part (ap (λ (x : Given). x.messages) c.context.view_is) c.fields-fields.ensures.start c.fields-fields.ensures.end (is_in c.loop-index.index)) in
    oneofs_hit _ _ _ _ _ _ _ _ c.loop-index-test.true _ is c.if-variants_meet.true ∙ c.loop-index.invariant.0 ∙ oneofs_all _ _ _ _ _ _ _ _ (c.count_parts-count.ensures ∙ ap (λ (x : MessageSeen). length (parts 8 (entries x.part))) c.message.view_is)

pub loop-index-preserved : goal.loop-index-preserved
loop-index-preserved c =
    let g = c.args.context.now in
    let m = c.args.message.now in
    let is = c.variants_meet.ensures ∙ ap₂ (λ (r : ℕ) (ks : List ℕ). rows_overlap r (field_rows g.set g.fields true ks)) c.loop-index.invariant.1
    (members_in g.messages g.fields m.number m.part (ap (λ (x : Given). x.messages) c.context.view_is) c.fields-fields.ensures.start c.fields-fields.ensures.end (is_in c.loop-index.index)) in
    (oneofs_on _ _ _ _ _ _ _ _ c.loop-index-test.true _ is c.if-variants_meet.false ∙ c.loop-index.invariant.0, c.variants_meet.auto.rows ∙ c.loop-index.invariant.1)

pub returns : goal.returns
returns c = oneofs_end _ _ _ _ _ _ _ _ c.loop-index-test.false ∙ c.loop-index.invariant.0 ∙ oneofs_all _ _ _ _ _ _ _ _ (c.count_parts-count.ensures ∙ ap (λ (x : MessageSeen). length (parts 8 (entries x.part))) c.message.view_is)
