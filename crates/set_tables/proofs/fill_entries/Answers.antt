use Rattle.set_tables.proofs.EntryLaws.{entries_filled}
use Rattle.set_tables.proofs.fill_entries.Goals as goal

pub returns : goal.returns
returns c = entries_filled _ _ _ _ _ _ c.requires.entries_value c.requires.entries_below c.min-n.ensures c.fill_entries.ensures
