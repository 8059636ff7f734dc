use Rattle.writer.proofs.TextLaws.{lent}
use Rattle.message_text.proofs.put_struct.Goals as goal

pub returns : goal.returns
returns c = lent _ _ _ _ _ _ c.place-at.ensures c.append_struct-length.ensures c.skip.ensures
