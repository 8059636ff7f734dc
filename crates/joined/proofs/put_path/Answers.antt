use Rattle.writer.proofs.TextLaws.{appended}
use Rattle.joined.proofs.put_path.Goals as goal

pub returns : goal.returns
returns c = appended _ _ _ _ _ c.put.ensures (appended _ _ _ _ _ c.put_byte.ensures c.put-2.ensures)
