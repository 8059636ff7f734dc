-- The fields of a struct as they are written: by the tables, with paths cut where the buffers end. Assumes nothing.
use Rattle.std.specs.Prelude.{ℕ, Bool, List, [], ◌∷◌}
use Rattle.std.proofs.Math.Option.{Option, some, none}
use Rattle.descriptor.specs.Descriptor.{Bytes}
use Rattle.options.specs.Settings.{Setting}
use Rattle.name_rules.specs.Accessors.{text}
use Rattle.context.specs.Context.{has}
use Rattle.joined.specs.Joined.{fits, ◌⊙◌}
use Rattle.text_tables.specs.declared.FieldRow.{FieldRow}
use Rattle.members.specs.Members.{field_at, map_entry_at, boxed_at}
use Rattle.code_generator.specs.Piece.{Text, nothing, ◌⟫◌, when}
use Rattle.code_generator.specs.Attributes.{line, append_deprecated, append_field_attributes}
use Rattle.code_generator.specs.Fields.{field_tag, field_line}
use Rattle.code_generator.specs.MapFields.{MapEntry, map_tag, map_line}

-- t: the table of fields. scope: where the struct stands; full: the message's full name
module _ (rs : List Setting) (set : List ℕ) (t : List FieldRow) (proto3 : Bool) where
  abbrev pub name_at : ℕ → Bytes
  name_at k = text (field_at set t k).name

  -- the attributes of field k
  unfoldable pub attributes_at : ℕ → Bytes → ℕ → Text
  attributes_at d full k = when (fits full (name_at k)) (append_field_attributes rs d full (name_at k))

  -- append_field
  unfoldable pub plain_text : ℕ → Bytes → Bytes → ℕ → Text
  plain_text d scope full k =
      append_deprecated d (field_at set t k)
      ⟫ line d "#[prost("
      ⟫ field_tag rs proto3 scope (field_at set t k) (boxed_at rs set t k full) (has rs 2 (full ⊙ name_at k))
      ⟫ attributes_at d full k
      ⟫ field_line rs proto3 d scope [] (field_at set t k) (boxed_at rs set t k full) (has rs 2 (full ⊙ name_at k))

  -- append_map_field
  unfoldable pub map_text : ℕ → Bytes → Bytes → ℕ → MapEntry → Text
  map_text d scope full k e =
      line d "#[prost("
      ⟫ map_tag rs scope (field_at set t k) e (has rs 3 (full ⊙ name_at k))
      ⟫ attributes_at d full k
      ⟫ map_line rs d scope [] (field_at set t k) e (has rs 3 (full ⊙ name_at k)) (has rs 2 (full ⊙ text e.key.name)) (has rs 2 (full ⊙ text e.value.name))

  abbrev pub field_or_map : ℕ → Bytes → Bytes → ℕ → Option MapEntry → Text
  field_or_map d scope full k none = plain_text d scope full k
  field_or_map d scope full k (some e) = map_text d scope full k e

  unfoldable pub field_text : ℕ → Bytes → Bytes → ℕ → Text
  field_text d scope full k = field_or_map d scope full k (map_entry_at set t k)

  unfoldable pub field_texts : ℕ → Bytes → Bytes → List ℕ → Text
  field_texts d scope full [] = nothing
  field_texts d scope full (k ∷ ks) = field_text d scope full k ⟫ field_texts d scope full ks
