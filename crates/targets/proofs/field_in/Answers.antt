use Rattle.field_columns.specs.Columns.{Kind, Label}
use Rattle.context_tables.proofs.ReadLaws.{set_read}
use Rattle.targets.proofs.TypeLaws.{target_read, column_read, made}
use Rattle.targets.proofs.field_in.Goals as goal

pub returns : goal.returns
returns c =
    made _ _ _ _ _ _ c.owner_at.ensures
    (target_read _ _ _ _ c.row_of.ensures _ c.bytes_of-bytes.ensures _ c.new-field.ensures _ _ _ c.target_of.ensures)
    (column_read _ _ _ _ c.row_of.ensures _ c.bytes_of-bytes.ensures _ c.new-field.ensures Kind _ _ c.kind.ensures c.byte_of.ensures)
    (column_read _ _ _ _ c.row_of.ensures _ c.bytes_of-bytes.ensures _ c.new-field.ensures Label _ _ c.label.ensures c.byte_of-2.ensures)
    (set_read _ _ _ c.byte_at.ensures)
