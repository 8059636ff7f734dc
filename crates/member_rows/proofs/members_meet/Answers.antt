use Rattle.std.proofs.Common.{refl, ap, ◌∙◌, arith, length}
use Rattle.descriptor.specs.Decode.{entries, parts}
use Rattle.context.specs.Given.{Given}
use Rattle.file_parts.specs.Numbered.{after_file}
use Rattle.file_parts.proofs.WalkLaws.{along_start, along_here, along_on, along_end}
use Rattle.member_rows.specs.MemberRows.{files_meet, set_meets}
use Rattle.member_rows.proofs.WalkLaws.{files_none, files_hit, files_miss}
use Rattle.member_rows.proofs.members_meet.Goals as goal

pub loop-first-init : goal.loop-first-init
unfolding set_meets
loop-first-init c =
    let g = c.args.context.now in
    (along_start (c.into_iter-first-iterator.ensures.into_iter_gives ∙ c.new-first-items.ensures) (ap (λ (x : Given). x.messages) c.context.view_is) (omega arith) (ap (λ (x : Given). files_meet g.options (length c.args.rows.now) g.set g.messages g.fields 0 (parts 1 (entries x.set))) c.context.view_is), refl)

pub returns-then-file_meets : goal.returns-then-file_meets
returns-then-file_meets c =
    let held = c.loop-first.invariant in
    files_hit _ _ _ _ _ _ _ _ _ held.1 _ c.file_meets.ensures c.if-file_meets.true ∙ along_here held.0 c.in-Some.ensures.steps.0 c.in-Some.ensures.steps.1

pub loop-first-preserved : goal.loop-first-preserved
loop-first-preserved c =
    let held = c.loop-first.invariant in
    (along_on held.0 after_file c.in-Some.ensures.steps (omega arith) (files_miss _ _ _ _ _ _ _ _ _ held.1 _ c.file_meets.ensures c.if-file_meets.false), c.file_meets.auto.rows ∙ held.1)

pub returns : goal.returns
returns c = files_none _ _ _ _ _ _ ∙ along_end c.loop-first.invariant.0 c.in-None.ensures.steps.0
