use Rattle.set_tables.proofs.EntryLaws.{entries_below}
use Rattle.set_tables.proofs.FillLaws.{parts_long, message_rows_are, field_rows_are}
use Rattle.set_tables.proofs.fill_by.Goals as goal

pub fill_rows-requires : goal.fill_rows-requires
fill_rows-requires c = record { boxed_length = parts_long _ _ _ _ _ c.min-k.ensures c.requires.sized c.requires.boxes; entries_below = entries_below _ _ _ c.requires.placed c.requires.counted }

pub returns : goal.returns
returns c = record { messages_after = message_rows_are _ _ _ _ _ _ _ _ _ c.requires c.index_members-n.ensures _ c.min-k.ensures _ _ c.fill_rows.ensures.messages_after; fields_after = field_rows_are _ _ _ _ _ _ _ _ _ c.requires c.index_members-n.ensures _ c.min-k.ensures _ _ c.min-used.ensures _ c.fill_rows.ensures.fields_after }
