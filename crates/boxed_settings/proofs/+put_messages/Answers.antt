use Rattle.std.proofs.Common.{ap, sym, ◌∙◌, ◌-◌}
use Rattle.writer.specs.Writing.{◌▻◌}
use Rattle.writer.proofs.TextLaws.{appended}
use Rattle.walks.specs.Walked.{walked}
use Rattle.descriptor.specs.Descriptor.{Bytes}
use Rattle.descriptor.specs.Decode.{entries, parts}
use Rattle.boxed_settings.specs.Flags.{field_flags, message_flags, messages_flags, stay}
use Rattle.joined.specs.Joined.{◌⊙◌}
use Rattle.boxed_settings.proofs.FlagLaws.{walk_on, flags_are, flags_none}
use Rattle.boxed_settings.proofs.+put_messages.Goals as goal
use mathlib.Core.List.{List}

pub returns-then-left-eq0 : goal.returns-then-left-eq0
returns-then-left-eq0 t c = flags_none _ _ _ _ _ c.if-left-eq0.true

pub loop-message-init : goal.loop-message-init
loop-message-init t c =
    ap (λ (x : Bytes). c.args.text.now ▻ x)
    (ap (walked (message_flags (messages_flags (c.args.left - 1) c.args.options.now) c.args.options.now c.args.scope.now) stay 0) (c.into_iter-message-iterator.ensures.into_iter_gives ∙ c.new-message-items.ensures.parts) ∙ flags_are _ _ _ _ c.if-left-eq0.false)

pub loop-message-preserved : goal.loop-message-preserved
loop-message-preserved t c =
    let full = c.as_bytes-full.ensures ∙ c.new-path.ensures ∙ ap (λ (x : Bytes). c.args.scope.now ⊙ x) c.name_of.ensures in
    let p = c.in-Some.message.now in
    let own = c.put_fields.ensures ∙ ap (λ (x : Bytes). c.loop-message.text ▻ field_flags c.args.options.now x p) full in
    let nested = c.put_messages.ensures ∙ ap (λ (x : Bytes). c.put_fields.new.text ▻ messages_flags (c.args.left - 1) c.args.options.now x (parts 3 (entries p))) full in
    walk_on (message_flags (messages_flags (c.args.left - 1) c.args.options.now) c.args.options.now c.args.scope.now) _ _ _ _ (appended _ _ _ _ _ own nested)
    ∙ ap (λ (x : List Bytes). c.loop-message.text ▻ walked (message_flags (messages_flags (c.args.left - 1) c.args.options.now) c.args.options.now c.args.scope.now) stay 0 x) (sym c.in-Some.ensures.steps)
    ∙ c.loop-message.invariant
