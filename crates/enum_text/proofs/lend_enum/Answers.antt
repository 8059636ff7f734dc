use Rattle.writer.proofs.TextLaws.{lent}
use Rattle.enum_text.proofs.lend_enum.Goals as goal

pub returns : goal.returns
returns c = lent _ _ _ _ _ _ c.place-at.ensures c.append_enum-n.ensures c.skip.ensures
