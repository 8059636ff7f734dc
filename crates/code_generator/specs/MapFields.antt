-- code_generator.rs: map_types and append_map_field. Assumes nothing.
use Rattle.std.specs.Prelude.{ℕ, Bool, ◌&&◌, List, [], ◌∷◌}
use Rattle.std.proofs.Math.Option.{Option, some, none}
use Rattle.base.specs.Bytes.{same}
use Rattle.base.specs.Choose.{choose}
use Rattle.writer.specs.Decimal.{decimal}
use Rattle.descriptor.specs.Descriptor.{Bytes, Forest, done, node, FieldDescriptor, MessageDescriptor}
use Rattle.collections.specs.Collections.{map_type as map_type_of, map_annotation}
use Rattle.options.specs.Settings.{Setting}
use Rattle.name_rules.specs.Accessors.{text, number}
use Rattle.name_rules.specs.FullNames.{◌·◌}
use Rattle.context.specs.Context.{bytes_type, map_type}
use Rattle.code_generator.specs.Piece.{Text, piece, ◌⟫◌, either, ◌◃◌, raw, table, comma, wrap_open, wrap_close, lit}
use Rattle.code_generator.specs.Resolve.{prost, resolve_type, field_type_tag, map_value_type_tag}
use Rattle.code_generator.specs.Attributes.{line, append_field_attributes}
use Rattle.code_generator.specs.Fields.{field_name}

-- ---- map_types
-- the fields of a map entry
pub record MapEntry : Type 0 where
  pub key : FieldDescriptor
  pub value : FieldDescriptor

abbrev pub entry_of : List FieldDescriptor → Option MapEntry
entry_of [] = none
entry_of (k ∷ []) = none
entry_of (k ∷ (v ∷ fs)) = some (record { key = k; value = v })

-- map_types: the map entry that a type name names, among what is nested in the message with this full name
unfoldable pub map_entry_of : Bytes → Forest MessageDescriptor → Option Bytes → Option MapEntry
map_entry_of full done x = none
map_entry_of full (node e nested following) x =
    choose (e.map_entry && same (full · text e.name) (text x)) (entry_of e.fields) (map_entry_of full following x)

-- ---- append_map_field
module _ (rs : List Setting) where
  -- btree: is the map a BTreeMap?
  unfoldable pub map_tag : Bytes → FieldDescriptor → MapEntry → Bool → Text
  map_tag scope f e btree =
      piece (raw (map_annotation (map_type_of btree)))
      ⟫ lit " = \""
      ⟫ field_type_tag rs scope e.key
      ⟫ lit ", "
      ⟫ map_value_type_tag rs scope e.value
      ⟫ lit "\", tag = \""
      ⟫ piece (raw (decimal (number f)))
      ⟫ lit "\")]\n"

  unfoldable pub map_open : Bool → Text
  map_open btree =
      either btree (prost rs ⟫ lit "::alloc::collections::BTreeMap<") (lit "::std::collections::HashMap<") ◃ wrap_open table

  -- key_bytes, value_bytes: bytes_type of the entry's fields is `Bytes`
  unfoldable pub map_line : ℕ → Bytes → Bytes → FieldDescriptor → MapEntry → Bool → Bool → Bool → Text
  map_line d scope full f e btree key_bytes value_bytes =
      (line d "pub "
      ⟫ field_name full f
      ⟫ lit ": "
      ⟫ map_open btree
      ⟫ resolve_type rs scope key_bytes e.key
      ⟫ lit ", "
      ⟫ resolve_type rs scope value_bytes e.value
      ⟫ (lit ">" ◃ wrap_close)
      ⟫ lit ",\n")
      ◃ comma

  -- scope: where the struct stands; full: the message's full name
  unfoldable pub append_map_field : ℕ → Bytes → Bytes → FieldDescriptor → MapEntry → Text
  append_map_field d scope full f e =
      line d "#[prost("
      ⟫ map_tag scope f e (map_type rs full (text f.name))
      ⟫ append_field_attributes rs d full (text f.name)
      ⟫ map_line d scope full f e (map_type rs full (text f.name)) (bytes_type rs full (text e.key.name)) (bytes_type rs full (text e.value.name))
