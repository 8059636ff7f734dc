use Rattle.std.proofs.Common.{refl, ap, ap₂, ◌∙◌, arith, ◌+◌, List, length}
use Rattle.descriptor.specs.Descriptor.{Bytes}
use Rattle.context.specs.Given.{Given}
use Rattle.extern_paths.specs.ExternPaths.{taken}
use Rattle.file_parts.specs.Numbered.{after_message}
use Rattle.file_parts.proofs.WalkLaws.{along_start, along_here, along_on, along_end}
use Rattle.member_rows.proofs.WalkLaws.{meets_entry, meets_taken, meets_own, meets_nested, ahead_all, ahead_none, ahead_hit, ahead_miss}
use Rattle.member_rows.specs.MemberRows as rows
use Rattle.member_rows.proofs.+message_meets_messages_meet.Goals as goal

pub message_meets-returns-then-is_entry : goal.message_meets-returns-then-is_entry
message_meets-returns-then-is_entry t c = meets_entry _ _ _ _ _ _ _ _ _ _ c.is_entry.ensures c.if-is_entry.true

pub message_meets-returns-then-takes : goal.message_meets-returns-then-takes
message_meets-returns-then-takes t c =
    let asked = c.takes.ensures ∙ ap (λ (x : Given). taken x.options c.as_bytes.result.now) c.context.view_is ∙ ap (taken c.args.context.now.options) (c.as_bytes.ensures ∙ c.new-full.ensures) in
    meets_taken _ _ _ _ _ _ _ _ _ _ c.is_entry.ensures c.if-is_entry.false _ c.name_of.ensures _ asked c.if-takes.true

pub message_meets-returns-then-own_meet : goal.message_meets-returns-then-own_meet
message_meets-returns-then-own_meet t c =
    let asked = c.takes.ensures ∙ ap (λ (x : Given). taken x.options c.as_bytes.result.now) c.context.view_is ∙ ap (taken c.args.context.now.options) (c.as_bytes.ensures ∙ c.new-full.ensures) in
    meets_own _ _ _ _ _ _ _ _ _ _ c.is_entry.ensures c.if-is_entry.false _ c.name_of.ensures _ asked c.if-takes.false _ c.own_meet.ensures c.if-own_meet.true

pub message_meets-returns-else-own_meet : goal.message_meets-returns-else-own_meet
message_meets-returns-else-own_meet t c =
    let g = c.args.context.now in
    let asked = c.takes.ensures ∙ ap (λ (x : Given). taken x.options c.as_bytes.result.now) c.context.view_is ∙ ap (taken g.options) (c.as_bytes.ensures ∙ c.new-full.ensures) in
    let nested = c.messages_meet.ensures
    ∙ ap₂ (λ (full : Bytes) (ps : List Bytes). rows.messages_meet g.options (length c.own_meet.new.rows) g.set g.messages g.fields c.args.left full (c.args.number + 1) ps) (c.as_bytes-else-own_meet.ensures ∙ c.new-full.ensures) c.new-nested.ensures.parts in
    meets_nested _ _ _ _ _ _ _ _ _ _ c.is_entry.ensures c.if-is_entry.false _ c.name_of.ensures _ asked c.if-takes.false _ c.own_meet.ensures c.if-own_meet.false _ c.own_meet.auto.rows _ nested

pub messages_meet-returns-then-left-eq0 : goal.messages_meet-returns-then-left-eq0
unfolding rows.messages_meet
messages_meet-returns-then-left-eq0 t c = rw c.if-left-eq0.true refl

pub messages_meet-loop-number-init : goal.messages_meet-loop-number-init
messages_meet-loop-number-init t c =
    (along_start (c.into_iter-number-iterator.ensures.into_iter_gives ∙ c.new-number-items.ensures) (ap (λ (x : Given). x.messages) c.context.view_is) c.requires.0 (ahead_all _ _ _ _ _ _ _ _ _ c.if-left-eq0.false), refl)

pub messages_meet-returns-then-message_meets : goal.messages_meet-returns-then-message_meets
messages_meet-returns-then-message_meets t c =
    let held = c.loop-number.invariant in
    ahead_hit _ _ _ _ _ _ _ _ _ _ _ held.1 _ c.message_meets.ensures c.if-message_meets.true ∙ along_here held.0 c.in-Some.ensures.steps.0 c.in-Some.ensures.steps.1

pub messages_meet-loop-number-preserved : goal.messages_meet-loop-number-preserved
messages_meet-loop-number-preserved t c =
    let held = c.loop-number.invariant in
    (along_on held.0 after_message c.in-Some.ensures.steps (omega arith) (ahead_miss _ _ _ _ _ _ _ _ _ _ _ held.1 _ c.message_meets.ensures c.if-message_meets.false), c.message_meets.auto.rows ∙ held.1)

pub messages_meet-returns : goal.messages_meet-returns
messages_meet-returns t c = ahead_none _ _ _ _ _ _ _ _ ∙ along_end c.loop-number.invariant.0 c.in-None.ensures.steps.0
