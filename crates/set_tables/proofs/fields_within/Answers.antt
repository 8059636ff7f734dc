use Rattle.set_tables.proofs.FillLaws.{fresh_bytes}
use Rattle.set_tables.proofs.fields_within.Goals as goal

pub put_settings-requires : goal.put_settings-requires
put_settings-requires g c = fresh_bytes _ _ c.requires.most_fields
