-- The full name of a field's message marks the field's name in a line; the bytes are the same for any. Assumes nothing.
use Rattle.std.proofs.Common.{◌≡◌, ℕ, Bool, List, [], refl}
use Rattle.descriptor.specs.Descriptor.{Bytes, FieldDescriptor}
use Rattle.options.specs.Settings.{Setting}
use Rattle.code_generator.specs.Piece.{flat}
use Rattle.code_generator.specs.Fields.{field_line}
use Rattle.code_generator.specs.MapFields.{MapEntry, map_line}

module _ (rs : List Setting) (d : ℕ) (scope full : Bytes) (f : FieldDescriptor) where
  pub any_field_line : (proto3 boxed as_bytes : Bool) → flat (field_line rs proto3 d scope [] f boxed as_bytes) ≡ flat (field_line rs proto3 d scope full f boxed as_bytes)
  unfolding field_line
  any_field_line proto3 boxed as_bytes = refl

  pub any_map_line : (e : MapEntry) (btree key_bytes value_bytes : Bool) → flat (map_line rs d scope [] f e btree key_bytes value_bytes) ≡ flat (map_line rs d scope full f e btree key_bytes value_bytes)
  unfolding map_line
  any_map_line e btree key_bytes value_bytes = refl
