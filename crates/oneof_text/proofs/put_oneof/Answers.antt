use Rattle.code_generator.proofs.WritingLaws.{lent}
use Rattle.oneof_text.proofs.put_oneof.Goals as goal

pub returns : goal.returns
returns c = lent _ _ _ _ _ _ c.place-at.ensures c.append_oneof-length.ensures c.skip.ensures
