use Rattle.text_call.proofs.FileLaws.{fresh}
use Rattle.text_call.proofs.answer_within.Goals as goal

pub answer_by-requires : goal.answer_by-requires
answer_by-requires g c = fresh _ _ _ _ _ c.args.call.now.accepted c.min-count.ensures c.requires.fields_room
