use Rattle.literal.specs.Escape.{unicode_escape}
use Rattle.writer.proofs.TextLaws.{appended}
use Rattle.literal.proofs.escape_unicode.Goals as goal

pub returns : goal.returns
unfolding unicode_escape
returns c = appended _ _ _ _ _ (appended _ _ _ _ _ c.put.ensures c.put_hex.ensures) c.put-2.ensures
