use Rattle.std.proofs.Common.{ap, sym, ◌∙◌, map, false, true}
use Rattle.name_rules.specs.Accessors.{number}
use Rattle.members.specs.Members.{field_at, oneof_members}
use Rattle.oneof_fields.proofs.TagLaws.{tags_all, tags_on, tags_done, tags_none}
use Rattle.oneof_fields.proofs.tags.Goals.{in-Some, in_default}
use Rattle.oneof_fields.proofs.tags.Goals as goal

pub loop-k-init : goal.loop-k-init
loop-k-init c =
    let v = c.args in
    let g = v.context.now in
    let all = tags_all v.text.now (map (field_at g.set g.fields) (oneof_members g.fields v.oneof.now)) in
    rw c.into_iter-k-iterator.ensures.into_iter_gives
    (elim c.match-next.branch [
      | in-Some w ↦ tags_on (field_at g.set g.fields) _ _ false _ all _ _ _ _ (sym c.members-members.ensures ∙ w.in-Some.ensures.steps) (w.number.ensures ∙ ap number w.field_at.ensures) (w.text-is ∙ w.put_tag.ensures)
      | in_default w ↦ tags_none (field_at g.set g.fields) _ _ false _ all _ _ (sym c.members-members.ensures ∙ w.in_default.ensures.steps.0) w.in_default.ensures.steps.1 w.text-is
    ])

pub loop-k-preserved : goal.loop-k-preserved
loop-k-preserved c =
    let g = c.args.context.now in
    tags_on (field_at g.set g.fields) _ _ true _ c.loop-k.invariant _ _ _ _ c.in-Some-k.ensures.steps (c.number-in-loop-k.ensures ∙ ap number c.field_at-in-loop-k.ensures) c.put_tag-in-loop-k.ensures

pub returns : goal.returns
returns c =
    let g = c.args.context.now in
    tags_done (field_at g.set g.fields) _ _ true _ c.loop-k.invariant c.in-None.ensures.steps.0
