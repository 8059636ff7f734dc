use Rattle.map_entries.proofs.PassLaws.{no_message, message_noted}
use Rattle.map_entries.proofs.UseLaws.{not_message}
use Rattle.map_entries.proofs.note_row.Goals as goal

pub returns-in-Message : goal.returns-in-Message
returns-in-Message c = message_noted _ _ _ _ _ c.row-row.ensures _ _ c.in-Message.is _ c.bytes_of-message.ensures _ c.note_fields.ensures

pub returns-in_default : goal.returns-in_default
returns-in_default c = no_message _ _ _ _ _ c.row-row.ensures _ (not_message _ c.in_default.not-Message)
