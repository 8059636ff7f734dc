use Rattle.writer.proofs.TextLaws.{appended}
use Rattle.name_rows.proofs.put_key.Goals as goal

pub returns : goal.returns
returns c = appended _ _ _ _ _ (appended _ _ _ _ _ c.put.ensures c.put_byte.ensures) c.put-2.ensures
