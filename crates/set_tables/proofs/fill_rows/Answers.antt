use Rattle.set_tables.proofs.FillLaws.{messages_filled, fields_filled}
use Rattle.set_tables.proofs.fill_rows.Goals as goal

pub returns-clause-messages_after : goal.returns-clause-messages_after
returns-clause-messages_after c = messages_filled _ _ _ _ _ _ c.fill_fields.ensures _ _ _ c.fill_rows.ensures.messages_after

pub returns-clause-fields_after : goal.returns-clause-fields_after
returns-clause-fields_after c = fields_filled _ _ _ _ _ _ c.fill_fields.ensures _ c.fill_entries.ensures _ _ c.requires.boxed_length _ c.fill_rows.ensures.fields_after
