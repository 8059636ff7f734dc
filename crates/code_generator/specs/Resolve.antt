-- code_generator.rs: resolve_type, resolve_ident, field_type_tag, map_value_type_tag. Assumes nothing.
use Rattle.std.specs.Prelude.{Bool, ◌||◌, List, [], ◌∷◌, length, drop, ◌==◌}
use Rattle.base.specs.Bytes.{b, same}
use Rattle.base.specs.Choose.{choose}
use Rattle.field_types.specs.Types.{sort_of, tag_word, rust_word, text as string, bytes, group, message, enumerated}
use Rattle.descriptor.specs.Descriptor.{Bytes, FieldDescriptor}
use Rattle.options.specs.Settings.{Setting, first_of_kind, prost_path}
use Rattle.extern_paths.specs.Split.{split}
use Rattle.extern_paths.specs.ExternPaths.{taken, resolve_ident as extern_ident}
use Rattle.name_rules.specs.Accessors.{text, type as type_of}
use Rattle.code_generator.specs.Piece.{Text, piece, ◌⟫◌, either, ◌▹◌, ◌◃◌, raw, opaque, extern, path, Way, camel, type, vec, tag_open, tag_close, wrap_open, wrap_close, lit}

-- ---- resolve_ident
-- local_path: the scope `.a.b.M`, i.e. package and type_path, as names; none for the empty scope
unfoldable pub local_path : Bytes → List Bytes
local_path [] = []
local_path (c ∷ s) = split (b ".") s

-- the names before the last
abbrev pub front : List Bytes → List Bytes
front [] = []
front (x ∷ []) = []
front (x ∷ (y ∷ xs)) = x ∷ front (y ∷ xs)

-- next_back: the last name
abbrev pub last_name : List Bytes → Bytes
last_name [] = []
last_name (x ∷ []) = x
last_name (x ∷ (y ∷ xs)) = last_name (y ∷ xs)

-- ident_path and ident_type of `.a.b.T`: a, b and T
unfoldable pub ident_path : Bytes → List Bytes
ident_path ident = front (split (b ".") (drop 1 ident))

unfoldable pub ident_type : Bytes → Bytes
ident_type ident = last_name (split (b ".") (drop 1 ident))

-- path elements in common are skipped: what is left of both
unfoldable pub skip_common : List Bytes → List Bytes → (List Bytes × List Bytes)
skip_common [] ys = ([], ys)
skip_common (x ∷ xs) [] = (x ∷ xs, [])
skip_common (x ∷ xs) (y ∷ ys) = choose (same x y) (skip_common xs ys) (x ∷ xs, y ∷ ys)

-- from the scope to the identifier: `super` for each name left of the scope, the names left before the type, the type
unfoldable pub way : Bytes → Bytes → Way
way scope ident =
    record {
      supers = length (skip_common (local_path scope) (ident_path ident)).0;
      modules = (skip_common (local_path scope) (ident_path ident)).1;
      last = camel (ident_type ident);
    }

module _ (rs : List Setting) where
  -- prost_path; kind 10's value is one piece
  unfoldable pub prost : Text
  prost = either (first_of_kind 10 0 rs).found (piece (opaque (prost_path rs))) (lit "::prost")

  -- scope: where the path stands. What an extern path stands for is one piece
  unfoldable pub resolve_ident : Bytes → Bytes → Text
  resolve_ident scope ident = either (taken rs ident) (piece (extern (extern_ident rs ident))) (piece (path (type ident) (way scope ident)))

  -- ---- resolve_type
  -- Type::Bytes; as_bytes: its bytes_type is `Bytes`
  unfoldable pub resolve_bytes : Bool → Text
  resolve_bytes as_bytes =
      either as_bytes (prost ⟫ lit "::bytes::Bytes")
      (prost ⟫ (lit "::alloc::vec::Vec<" ◃ wrap_open vec) ⟫ (lit "u8>" ◃ wrap_close))

  -- the other types are one word
  unfoldable pub resolve_type : Bytes → Bool → FieldDescriptor → Text
  resolve_type scope as_bytes f =
      either (sort_of (type_of f) == string) (prost ⟫ lit "::alloc::string::String")
      (either (sort_of (type_of f) == bytes) (resolve_bytes as_bytes)
      (either (sort_of (type_of f) == group || sort_of (type_of f) == message) (resolve_ident scope (text f.type_name))
      (piece (raw (rust_word (type_of f))))))

  -- ---- tags
  -- the path in a tag, between the marks of a tag
  unfoldable pub tag_ident : Bytes → FieldDescriptor → Text
  tag_ident scope f = (tag_open ▹ resolve_ident scope (text f.type_name)) ◃ tag_close

  unfoldable pub field_type_tag : Bytes → FieldDescriptor → Text
  field_type_tag scope f =
      either (sort_of (type_of f) == enumerated) (lit "enumeration = \"" ⟫ tag_ident scope f ⟫ lit "\"") (piece (raw (tag_word (type_of f))))

  unfoldable pub map_value_type_tag : Bytes → FieldDescriptor → Text
  map_value_type_tag scope f =
      either (sort_of (type_of f) == enumerated) (lit "enumeration(" ⟫ tag_ident scope f ⟫ lit ")") (field_type_tag scope f)
