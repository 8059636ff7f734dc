use Rattle.std.proofs.Common.{sym}
use Rattle.literal.specs.Escape.{escape_char}
use Rattle.writer.proofs.TextLaws.{appended}
use Rattle.literal.proofs.EscapeLaws.{renamed}
use Rattle.literal.proofs.escape_char.Goals as goal

pub returns-in-Letter : goal.returns-in-Letter
unfolding escape_char
returns-in-Letter c = renamed _ _ _ _ (appended _ _ _ _ _ c.put_byte.ensures c.put_byte-in-Letter.ensures) (sym (c.in-Letter.ensures _))

pub returns-in-Plain : goal.returns-in-Plain
unfolding escape_char
returns-in-Plain c = renamed _ _ _ _ c.put_byte-in-Plain.ensures (sym (c.in-Plain.ensures _))

pub returns-in-Long : goal.returns-in-Long
unfolding escape_char
returns-in-Long c = renamed _ _ _ _ c.escape_unicode.ensures (sym (c.in-Long.ensures _))
