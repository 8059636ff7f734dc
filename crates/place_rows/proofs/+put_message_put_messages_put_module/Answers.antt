use Rattle.std.proofs.Common.{ap, ◌∙◌, sym, refl, arith, ◌+◌, not, eqb, List}
use Rattle.writer.specs.Writing.{◌▻◌}
use Rattle.writer.proofs.TextLaws.{put-nothing}
use Rattle.descriptor.specs.Descriptor.{Bytes}
use Rattle.descriptor.specs.Decode.{entries, parts}
use Rattle.context.specs.Given.{Given}
use Rattle.members.specs.Seen.{MessageSeen}
use Rattle.extern_paths.specs.ExternPaths.{taken}
use Rattle.walks.specs.Walked.{written_on, written_all}
use Rattle.file_parts.specs.Numbered.{after_message}
use Rattle.file_parts.proofs.WalkLaws.{along_start, along_on, along_end}
use Rattle.place_rows.specs.PlaceRows.{enum_rows, module_rows, messages_rows}
use Rattle.place_rows.proofs.RowLaws.{level, rows_of_module, rows_of_entry, rows_of_taken, rows_of_struct, rows_with_module}
use Rattle.place_rows.proofs.+put_message_put_messages_put_module.Goals as goal

pub put_message-returns-then-is_entry : goal.put_message-returns-then-is_entry
put_message-returns-then-is_entry t c = rows_of_entry _ _ _ _ _ _ _ _ _ _ c.is_entry.ensures c.if-is_entry.true

pub put_message-returns-then-takes : goal.put_message-returns-then-takes
put_message-returns-then-takes t c =
    let asked = c.takes.ensures ∙ ap (λ (x : Given). taken x.options c.as_bytes.result.now) c.context.view_is ∙ ap (taken c.args.context.now.options) (c.as_bytes.ensures ∙ c.new-full.ensures) in
    rows_of_taken _ _ _ _ _ _ _ _ _ _ c.is_entry.ensures c.if-is_entry.false _ c.name_of-name.ensures _ asked c.if-takes.true

pub put_message-returns-then-module_for : goal.put_message-returns-then-module_for
put_message-returns-then-module_for t c =
    let g = c.args.context.now in
    let asked = c.takes.ensures ∙ ap (λ (x : Given). taken x.options c.as_bytes.result.now) c.context.view_is ∙ ap (taken g.options) (c.as_bytes.ensures ∙ c.new-full.ensures) in
    let inner = c.put_module.ensures
    ∙ ap (λ (full : Bytes). c.put_row.new.text ▻ module_rows g.options g.messages g.fields (messages_rows g.options g.messages g.fields c.args.left) c.args.scope.now full (not (eqb c.args.left 0)) c.args.number c.args.part.now) (c.as_bytes-2.ensures ∙ c.new-full.ensures) in
    rows_with_module _ _ _ _ _ _ _ _ _ _ c.is_entry.ensures c.if-is_entry.false _ c.name_of-name.ensures _ asked c.if-takes.false _ c.put_row.ensures _ c.module_for.ensures c.if-module_for.true _ inner

pub put_message-returns-else-module_for : goal.put_message-returns-else-module_for
put_message-returns-else-module_for t c =
    let asked = c.takes.ensures ∙ ap (λ (x : Given). taken x.options c.as_bytes.result.now) c.context.view_is ∙ ap (taken c.args.context.now.options) (c.as_bytes.ensures ∙ c.new-full.ensures) in
    rows_of_struct _ _ _ _ _ _ _ _ _ _ c.is_entry.ensures c.if-is_entry.false _ c.name_of-name.ensures _ asked c.if-takes.false _ c.put_row.ensures _ c.module_for.ensures c.if-module_for.false

pub put_messages-returns-then-left-eq0 : goal.put_messages-returns-then-left-eq0
unfolding messages_rows
put_messages-returns-then-left-eq0 t c = rw c.if-left-eq0.true (sym (put-nothing c.args.text.now))

pub put_messages-loop-number-init : goal.put_messages-loop-number-init
put_messages-loop-number-init t c =
    along_start (c.into_iter-number-iterator.ensures.into_iter_gives ∙ c.new-number-items.ensures) (ap (λ (x : Given). x.messages) c.context.view_is) c.requires.1
    (ap (λ (l : Bytes). c.args.text.now ▻ l) (level _ _ _ _ _ _ _ c.if-left-eq0.false))

pub put_messages-loop-number-preserved : goal.put_messages-loop-number-preserved
put_messages-loop-number-preserved t c =
    along_on c.loop-number.invariant after_message c.in-Some.ensures.steps (omega arith) (written_on _ _ _ _ _ _ refl _ _ _ _ refl refl c.put_message.ensures)

pub put_messages-returns : goal.put_messages-returns
put_messages-returns t c = written_all _ _ _ _ _ _ (along_end c.loop-number.invariant c.in-None.ensures.steps.0) refl

pub put_module-returns : goal.put_module-returns
put_module-returns t c =
    let g = c.args.context.now in
    let left = c.args.left in
    let t₁ = c.put_row.new.text in
    let t₂ = c.put_messages.new.text in
    let nested = c.put_messages.ensures
    ∙ ap (λ (ps : List Bytes). t₁ ▻ messages_rows g.options g.messages g.fields left c.message.inside.full.now (c.message.inside.number + 1) ps) c.new.ensures.parts
    ∙ ap (λ (x : MessageSeen). t₁ ▻ messages_rows g.options g.messages g.fields left x.full (x.number + 1) (parts 3 (entries x.part))) c.message.view_is in
    let enums = c.put_enums.ensures
    ∙ ap (λ (ps : List Bytes). t₂ ▻ enum_rows c.context.inside.options c.message.inside.full.now ps) c.new-2.ensures.parts
    ∙ ap (λ (x : MessageSeen). t₂ ▻ enum_rows c.context.inside.options x.full (parts 4 (entries x.part))) c.message.view_is
    ∙ ap (λ (x : Given). t₂ ▻ enum_rows x.options c.args.message.now.full (parts 4 (entries c.args.message.now.part))) c.context.view_is in
    rows_of_module _ _ _ _ _ _ _ _ _ _ _ c.name.ensures t₁ t₂ c.put_enums.new.text _ c.put_row.ensures nested enums c.put_oneofs.ensures
