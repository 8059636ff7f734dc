-- A message's struct as it is written: by the tables, with paths cut where the buffers end. Assumes nothing.
use Rattle.std.specs.Prelude.{ℕ, suc, Bool, List, [], ◌++◌}
use Rattle.base.specs.Bytes.{b}
use Rattle.descriptor.specs.Descriptor.{Bytes}
use Rattle.options.specs.Settings.{Setting}
use Rattle.text_tables.specs.Rows.{message_row, is_plain}
use Rattle.text_tables.specs.declared.MessageRow.{MessageRow}
use Rattle.text_tables.specs.declared.FieldRow.{FieldRow}
use Rattle.members.specs.Members.{name_in, members}
use Rattle.struct_fields.specs.StructFields.{field_texts}
use Rattle.oneof_fields.specs.OneofFields.{oneof_field_texts}
use Rattle.code_generator.specs.Piece.{Text, ◌⟫◌, piece, decl_open, type, camel, flat, lit}
use Rattle.code_generator.specs.Attributes.{line, end, derive, append_type_attributes, append_message_attributes, append_prost_path_attribute, append_skip_debug}

-- up to the struct's fields
unfoldable pub struct_head : List Setting → List MessageRow → ℕ → Bytes → ℕ → Bytes → Text
struct_head rs messages d full i p =
    append_type_attributes rs d full
    ⟫ append_message_attributes rs d full
    ⟫ derive rs d (message_row messages i).copy (message_row messages i).eq (b "::Message)]\n")
    ⟫ append_prost_path_attribute rs
    ⟫ append_skip_debug rs d full
    ⟫ line d "pub struct "
    ⟫ piece (decl_open (type []) (camel (name_in p)))
    ⟫ lit " {\n"

-- t: the table of fields
module _ (rs : List Setting) (set : List ℕ) (messages : List MessageRow) (t : List FieldRow) (proto3 : Bool) where
  -- the struct of message i, whose part p is. scope: where it stands; full: its full name; deeper: are nested messages read?
  unfoldable pub struct_text : ℕ → Bytes → Bytes → Bool → ℕ → Bytes → Bytes
  struct_text d scope full deeper i p =
      flat (struct_head rs messages d full i p)
      ++ flat (field_texts rs set t proto3 (suc d) scope full (members is_plain messages t i p))
      ++ oneof_field_texts rs set messages t (suc d) full deeper i p
      ++ flat (end d)
