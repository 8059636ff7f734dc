-- The variants of a oneof's enum as they are written: by the tables, with paths cut where the buffers end. Assumes nothing.
use Rattle.std.specs.Prelude.{ℕ, List, [], ◌∷◌}
use Rattle.descriptor.specs.Descriptor.{Bytes}
use Rattle.options.specs.Settings.{Setting}
use Rattle.name_rules.specs.Accessors.{text}
use Rattle.context.specs.Context.{has}
use Rattle.joined.specs.Joined.{fits, ◌⊙◌}
use Rattle.text_tables.specs.declared.FieldRow.{FieldRow}
use Rattle.members.specs.Members.{field_at, boxed_at}
use Rattle.code_generator.specs.Piece.{Text, nothing, ◌⟫◌, when}
use Rattle.code_generator.specs.Attributes.{line, append_deprecated, append_field_attributes}
use Rattle.code_generator.specs.Oneofs.{variant_tag, variant_line}

-- t: the table of fields. full: the message's full name; at: the oneof's
module _ (rs : List Setting) (set : List ℕ) (t : List FieldRow) where
  unfoldable pub variant_text : ℕ → Bytes → Bytes → ℕ → Text
  variant_text d full at k =
      append_deprecated d (field_at set t k)
      ⟫ line d "#[prost("
      ⟫ variant_tag rs full (field_at set t k)
      ⟫ when (fits at (text (field_at set t k).name)) (append_field_attributes rs d at (text (field_at set t k).name))
      ⟫ variant_line rs d full [] (field_at set t k) (boxed_at rs set t k at) (has rs 2 (full ⊙ text (field_at set t k).name))

  unfoldable pub variant_texts : ℕ → Bytes → Bytes → List ℕ → Text
  variant_texts d full at [] = nothing
  variant_texts d full at (k ∷ ks) = variant_text d full at k ⟫ variant_texts d full at ks
