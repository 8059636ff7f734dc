-- The rows of both tables by what they are made from. Assumes nothing.
use Rattle.std.specs.Prelude.{ℕ, Bool, List, Option}
use Rattle.message_graph.specs.Fields as graph
use Rattle.message_graph.specs.Rows.{fields_of, settings_of}
use Rattle.derives.specs.declared.Derive.{Derive}
use Rattle.text_tables.specs.declared.MessageRow.{MessageRow}
use Rattle.text_tables.specs.declared.Place.{Place}
use Rattle.text_tables.specs.declared.FieldRow.{FieldRow}
use Rattle.context_tables.specs.declared.Messages.{Messages}
use Rattle.context_tables.specs.declared.Fields.{Fields}
use Rattle.context_tables.specs.Rows.{message_row_of, field_can, names_entry, entry_place, field_row_of}

abbrev pub message_in : Messages → ℕ → MessageRow
message_in m = message_row_of m.rows.now m.first.now m.can.now.copy m.can.now.eq

module _ (f : Fields) where
  abbrev columns : graph.Fields
  columns = fields_of f.fields.now

  abbrev pub can_at : Derive → List Bool → ℕ → Bool
  can_at d can = field_can d columns.target columns.kind columns.label f.boxed.now (settings_of f.fields.now) can

  abbrev pub names_entry_at : ℕ → Bool
  names_entry_at = names_entry columns.target columns.kind columns.label f.entries.now

  abbrev pub entry_place_at : ℕ → Option Place
  entry_place_at = entry_place f.rows.now columns.target columns.kind columns.label f.entries.now

  abbrev pub field_in : ℕ → FieldRow
  field_in =
      field_row_of f.set.now f.rows.now f.places.now columns.target columns.kind columns.label f.boxed.now (settings_of f.fields.now) f.can.now.copy f.can.now.eq
      f.entries.now
