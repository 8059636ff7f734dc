-- extern_paths.rs: what a full name stands for that an extern path takes.
use Rattle.std.specs.Prelude.{Bool, List, [], ◌∷◌, ◌++◌, ℕ, ◌+◌, length, drop, get_or}
use Rattle.std.proofs.Math.Option.{Option, some, none}
use Rattle.base.specs.Choose.{choose}
use Rattle.base.specs.Bytes.{b, same}
use Rattle.options.specs.Settings.{Setting, value_of, prost_path}
use Rattle.options.specs.Found.{Found}
use Rattle.path.specs.Forms.{prefixes}
use Rattle.path.specs.PathMap.{find_best}
use Rattle.split.specs.Split.{split}
pub use Rattle.rust_paths.specs.Segments.{Segment, plain, snake, camel, written, rust_path, behind_prefix}
unfoldable pub use Rattle.rust_paths.specs.Segments.{first_segment, extern_text}

abbrev pub extern : List ℕ → List ℕ → Setting
extern path value = record { kind = 1; path = path; value = value }

-- ExternPaths::new: the eleven paths of prost types, whose own path is v; p is the prost path
unfoldable pub prost_types : List ℕ → List ℕ → List Setting
prost_types p v =
    extern (b ".google.protobuf") v
    ∷ extern (b ".google.protobuf.BoolValue") (b "bool")
    ∷ extern (b ".google.protobuf.BytesValue") (p ++ b "::alloc::vec::Vec<u8>")
    ∷ extern (b ".google.protobuf.DoubleValue") (b "f64")
    ∷ extern (b ".google.protobuf.Empty") (b "()")
    ∷ extern (b ".google.protobuf.FloatValue") (b "f32")
    ∷ extern (b ".google.protobuf.Int32Value") (b "i32")
    ∷ extern (b ".google.protobuf.Int64Value") (b "i64")
    ∷ extern (b ".google.protobuf.StringValue") (p ++ b "::alloc::string::String")
    ∷ extern (b ".google.protobuf.UInt32Value") (b "u32")
    ∷ extern (b ".google.protobuf.UInt64Value") (b "u64")
    ∷ []

abbrev pub if_given : List ℕ → Option (List ℕ) → List Setting
if_given p none = []
if_given p (some v) = prost_types p v

-- the rows, and those of prost types with a row of kind 12: extern paths are those of kind 1
unfoldable pub extern_paths : List Setting → List Setting
extern_paths rs = rs ++ if_given (prost_path rs) (value_of 12 rs)

-- the extern path that takes a full name: itself first, then the longest prefix
abbrev pub taker : List Setting → List ℕ → Found
taker rs ident = find_best 1 (ident ∷ prefixes ident) 0 (extern_paths rs)

-- is this full name taken by an extern path?
unfoldable pub taken : List Setting → List ℕ → Bool
taken rs ident = (taker rs ident).found

-- ---- what is written for it
-- resolve_ident: by the extern path e
unfoldable pub resolve_by : Setting → List ℕ → List Segment
resolve_by e ident =
    choose (same e.path ident) (plain e.value ∷ [])
    (rust_path (split (b "::") e.value) ++ behind_prefix (split (b ".") (drop (length e.path + 1) ident)))

unfoldable pub resolve_ident : List Setting → List ℕ → List Segment
resolve_ident rs ident = choose (taken rs ident) (resolve_by (get_or (extern_paths rs) (taker rs ident).number (extern [] [])) ident) []
