-- The enums of a message's oneofs as they are written: by the tables, with paths cut where the buffers end. Assumes nothing.
use Rattle.std.specs.Prelude.{ℕ, suc, Bool, List, []}
use Rattle.base.specs.Bytes.{b}
use Rattle.base.specs.Lists.{is_empty}
use Rattle.writer.specs.Text.{pick}
use Rattle.descriptor.specs.Descriptor.{Bytes}
use Rattle.descriptor.specs.Decode.{entries, parts}
use Rattle.options.specs.Settings.{Setting}
use Rattle.walks.specs.Walked.{walked}
use Rattle.joined.specs.Joined.{◌⊙◌}
use Rattle.text_tables.specs.Rows.{is_in}
use Rattle.text_tables.specs.declared.MessageRow.{MessageRow}
use Rattle.text_tables.specs.declared.FieldRow.{FieldRow}
use Rattle.members.specs.Members.{name_in, members, all_copy, all_eq, conflict}
use Rattle.variants.specs.Variants.{variant_texts}
use Rattle.code_generator.specs.Piece.{Text, ◌⟫◌, piece, decl_open, choice, oneof_type, flat, lit}
use Rattle.code_generator.specs.Attributes.{line, end, derive, append_type_attributes, append_enum_attributes, append_prost_path_attribute, append_skip_debug}

-- t: the table of fields
module _ (rs : List Setting) (set : List ℕ) (messages : List MessageRow) (t : List FieldRow) where
  -- append_oneof, up to the variants: ks are its fields. full: the message's full name
  abbrev pub oneof_front : ℕ → Bytes → Bytes → Bool → List ℕ → Text
  oneof_front d full name has_conflict ks =
      append_type_attributes rs d (full ⊙ name)
      ⟫ append_enum_attributes rs d (full ⊙ name)
      ⟫ derive rs d (all_copy t ks) (all_eq t ks) (b "::Oneof)]\n")
      ⟫ append_prost_path_attribute rs
      ⟫ append_skip_debug rs d full
      ⟫ line d "pub enum "
      ⟫ piece (decl_open (choice [] []) (oneof_type has_conflict name))
      ⟫ lit " {\n"

  unfoldable pub oneof_text : ℕ → Bytes → Bytes → Bool → List ℕ → Text
  oneof_text d full name has_conflict ks =
      oneof_front d full name has_conflict ks
      ⟫ variant_texts rs set t (suc d) full (full ⊙ name) ks
      ⟫ end d

  -- the oneof with the index x, whose part q is, of message i, whose part p is: one left without fields is left out
  unfoldable pub oneof_part : ℕ → Bytes → Bool → ℕ → Bytes → ℕ → Bytes → Bytes
  oneof_part d full deeper i p x q =
      pick (is_empty (members (is_in x) messages t i p)) []
      (flat (oneof_text d full (name_in q) (conflict deeper p (name_in q)) (members (is_in x) messages t i p)))

  abbrev pub next_index : ℕ → Bytes → ℕ
  next_index x q = suc x

  unfoldable pub oneof_texts : ℕ → Bytes → Bool → ℕ → Bytes → Bytes
  oneof_texts d full deeper i p = walked (oneof_part d full deeper i p) next_index 0 (parts 8 (entries p))
