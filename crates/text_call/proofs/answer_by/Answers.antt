use Rattle.text_call.proofs.FileLaws.{text_short, overlaps, default_fails, fault_free}
use Rattle.text_call.proofs.answer_by.Goals as goal

pub returns-then-faults : goal.returns-then-faults
returns-then-faults c =
    let given = c.new-options.ensures in
    overlaps _ _ _ c.args.call.now.accepted _ _ _ _ c.requires (rw given at c.fill_tables.ensures.messages_after) (rw given at c.fill_tables.ensures.fields_after) _ _
    c.first_number-first.ensures c.file_part-part.ensures _ (rw given at c.file_faults-faults.ensures) _ c.if-faults.true

pub returns-then-faults-2 : goal.returns-then-faults-2
returns-then-faults-2 c =
    let given = c.new-options.ensures in
    default_fails _ _ _ c.args.call.now.accepted _ _ _ _ c.requires (rw given at c.fill_tables.ensures.messages_after) (rw given at c.fill_tables.ensures.fields_after) _ _
    c.first_number-first.ensures c.file_part-part.ensures _ (rw given at c.file_faults-faults.ensures) _ c.if-faults.false c.if-faults-2.true

pub put_whole-requires : goal.put_whole-requires
put_whole-requires c =
    let given = c.new-options.ensures in
    rw given
    (text_short _ _ _ c.args.call.now.accepted _ _ _ _ c.requires (rw given at c.fill_tables.ensures.messages_after) (rw given at c.fill_tables.ensures.fields_after) _ _
    c.first_number-first.ensures c.file_part-part.ensures)

pub returns : goal.returns
returns c =
    let given = c.new-options.ensures in
    fault_free _ _ _ c.args.call.now.accepted _ _ _ _ c.requires (rw given at c.fill_tables.ensures.messages_after) (rw given at c.fill_tables.ensures.fields_after) _ _
    c.first_number-first.ensures c.file_part-part.ensures _ (rw given at c.file_faults-faults.ensures) _ c.if-faults.false c.if-faults-2.false _ _
    (rw given at c.put_whole.ensures)
