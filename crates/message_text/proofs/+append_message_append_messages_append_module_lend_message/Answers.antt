use Rattle.std.proofs.Common.{rules, arith, ap, ◌∙◌, refl, List, ℕ, ◌-◌, not, eqb}
use Rattle.writer.specs.Writing.{◌▻◌, draft_of}
use Rattle.writer.proofs.TextLaws.{filled_from, lent}
use Rattle.descriptor.specs.Descriptor.{Bytes}
use Rattle.context.specs.Given.{Given}
use Rattle.extern_paths.specs.ExternPaths.{taken}
use Rattle.joined.specs.Joined.{◌⊙◌}
use Rattle.file_parts.specs.Numbered.{after_message}
use Rattle.file_parts.proofs.WalkLaws.{along_start, along_on, along_end}
use Rattle.walks.specs.Walked.{written_on, written_all}
use Rattle.message_text.proofs.TextLaws.{nothing_filled, written_too, written_alone, no_level, one_level, module_written, text_of_entry, text_of_taken, text_written}
use Rattle.message_text.proofs.+append_message_append_messages_append_module_lend_message.Goals as goal
use Rattle.message_text.proofs.+append_message_append_messages_append_module_lend_message.Goals.{append_message-then-module, append_message-else-module}

pub append_message-returns-then-is_entry : goal.append_message-returns-then-is_entry
append_message-returns-then-is_entry t c = nothing_filled _ (text_of_entry c.args.context.now _ _ _ _ _ _ _ c.is_entry.ensures c.if-is_entry.true)

pub append_message-returns-then-taken : goal.append_message-returns-then-taken
append_message-returns-then-taken t c =
    let full = c.as_bytes-full.ensures ∙ c.new-full.ensures ∙ ap (λ (x : Bytes). c.args.scope.now ⊙ x) c.name_of.ensures in
    let other = c.takes-taken.ensures ∙ ap (λ (x : Given). taken x.options c.as_bytes-full.result.now) c.context.view_is in
    nothing_filled _ (text_of_taken c.args.context.now _ _ _ _ _ _ _ c.is_entry.ensures c.if-is_entry.false full other c.if-taken.true)

pub append_message-returns : goal.append_message-returns
append_message-returns t c =
    let v = c.args in
    let full = c.as_bytes-full.ensures ∙ c.new-full.ensures ∙ ap (λ (x : Bytes). v.scope.now ⊙ x) c.name_of.ensures in
    let other = c.takes-taken.ensures ∙ ap (λ (x : Given). taken x.options c.as_bytes-full.result.now) c.context.view_is in
    let text = text_written v.context.now v.proto3 v.left (15 - v.left) v.scope.now (not (eqb v.left 0)) v.number v.part.now c.is_entry.ensures c.if-is_entry.false full other c.if-taken.false c.module_for-module.ensures in
    filled_from _ c.new-text.result c.if-module.text (search rules)
    (rw (← text) (elim c.if-module.branch [
      | append_message-then-module w ↦ w.text-is ∙ written_too _ _ _ _ _ w.if-module.true c.put_struct.ensures w.append_module.ensures
      | append_message-else-module w ↦ w.text-is ∙ written_alone _ _ _ _ w.if-module.false c.put_struct.ensures
    ]))
    (ap draft_of c.new-text.ensures)

pub append_messages-returns-then-left-eq0 : goal.append_messages-returns-then-left-eq0
append_messages-returns-then-left-eq0 t c = no_level c.args.context.now _ c.args.text.now _ _ _ _ _ c.if-left-eq0.true

pub append_messages-loop-number-init : goal.append_messages-loop-number-init
append_messages-loop-number-init t c =
    along_start (c.into_iter-number-iterator.ensures.into_iter_gives ∙ c.new-number-items.ensures) (ap (λ (x : Given). x.messages) c.context.view_is) (let b = c.requires.1 in omega arith)
    (ap (λ (p : List ℕ). c.args.text.now ▻ p) (one_level c.args.context.now _ _ _ _ _ c.if-left-eq0.false))

pub append_messages-loop-number-preserved : goal.append_messages-loop-number-preserved
append_messages-loop-number-preserved t c =
    along_on c.loop-number.invariant after_message c.in-Some.ensures.steps (omega arith) (written_on _ _ c.loop-number.text _ _ _ refl c.lend_message.new.text _ _ _ refl refl c.lend_message.ensures)

pub append_messages-returns : goal.append_messages-returns
append_messages-returns t c = written_all _ _ c.loop-number.text _ _ _ (along_end c.loop-number.invariant c.in-None.ensures.steps.0) refl

pub append_module-returns : goal.append_module-returns
append_module-returns t c =
    module_written c.args.context.now _ _ c.args.message.now c.args.text.now _ _ _ _ _ c.requires.0 c.context.view_is c.message.view_is c.name.ensures c.new-nested.ensures.parts
    c.push_mod.ensures c.append_messages.ensures c.append_enums.ensures c.append_oneofs.ensures c.end.ensures

pub lend_message-returns : goal.lend_message-returns
lend_message-returns t c = lent _ _ _ _ _ _ c.place-at.ensures c.append_message-length.ensures c.skip.ensures
