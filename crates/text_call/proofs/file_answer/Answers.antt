use Rattle.text_call.proofs.FileLaws.{empty_file, few_fields, most_fields}
use Rattle.text_call.proofs.file_answer.Goals as goal

pub returns-then-declares_none : goal.returns-then-declares_none
returns-then-declares_none c = empty_file _ _ _ _ _ c.file_part.ensures (c.declares_none.ensures c.if-declares_none.true)

pub answer_within-requires-clause-fields_room : goal.answer_within-requires-clause-fields_room
answer_within-requires-clause-fields_room c = few_fields _ _ _ c.args.call.now.accepted c.if-call-le-SHORT.true

pub answer_within-requires-2-clause-fields_room : goal.answer_within-requires-2-clause-fields_room
answer_within-requires-2-clause-fields_room c = most_fields _ _ _ c.args.call.now.accepted
