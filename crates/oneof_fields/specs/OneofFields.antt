-- The fields of a struct for its message's oneofs as they are written: by the tables, with paths cut where the buffers end. Assumes nothing.
use Rattle.std.specs.Prelude.{ℕ, suc, Bool, List, [], map}
use Rattle.base.specs.Lists.{is_empty}
use Rattle.writer.specs.Text.{pick}
use Rattle.descriptor.specs.Descriptor.{Bytes}
use Rattle.descriptor.specs.Decode.{entries, parts}
use Rattle.options.specs.Settings.{Setting}
use Rattle.walks.specs.Walked.{walked}
use Rattle.joined.specs.Joined.{fits}
use Rattle.text_tables.specs.Rows.{is_in}
use Rattle.text_tables.specs.declared.MessageRow.{MessageRow}
use Rattle.text_tables.specs.declared.FieldRow.{FieldRow}
use Rattle.members.specs.Members.{name_in, field_at, members, conflict}
use Rattle.code_generator.specs.Piece.{Text, ◌⟫◌, when, flat}
use Rattle.code_generator.specs.Attributes.{line, append_field_attributes}
use Rattle.code_generator.specs.Oneofs.{OneofField, oneof_tag, oneof_line}

-- t: the table of fields
module _ (rs : List Setting) (set : List ℕ) (messages : List MessageRow) (t : List FieldRow) where
  -- a oneof by the numbers of its fields
  abbrev pub oneof_of_numbers : Bytes → Bool → List ℕ → OneofField
  oneof_of_numbers name has_conflict ks = record { name = name; fields = map (field_at set t) ks; has_type_name_conflict = has_conflict }

  -- append_oneof_field. full, message: the message's full name and its own
  unfoldable pub oneof_field_text : ℕ → Bytes → Bytes → Bytes → Bool → List ℕ → Text
  oneof_field_text d full message name has_conflict ks =
      line d "#[prost("
      ⟫ oneof_tag [] message (oneof_of_numbers name has_conflict ks)
      ⟫ when (fits full name) (append_field_attributes rs d full name)
      ⟫ oneof_line d [] message (oneof_of_numbers name has_conflict ks)

  -- the oneof with the index x, whose part q is, of message i, whose part p is: one left without fields is left out
  unfoldable pub oneof_field_part : ℕ → Bytes → Bool → ℕ → Bytes → ℕ → Bytes → Bytes
  oneof_field_part d full deeper i p x q =
      pick (is_empty (members (is_in x) messages t i p)) []
      (flat (oneof_field_text d full (name_in p) (name_in q) (conflict deeper p (name_in q)) (members (is_in x) messages t i p)))

  abbrev pub next_index : ℕ → Bytes → ℕ
  next_index x q = suc x

  unfoldable pub oneof_field_texts : ℕ → Bytes → Bool → ℕ → Bytes → Bytes
  oneof_field_texts d full deeper i p = walked (oneof_field_part d full deeper i p) next_index 0 (parts 8 (entries p))
