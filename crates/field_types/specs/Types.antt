-- The field types by their number in descriptor.proto, 1 to 18: one table. Place 0 is no type. Assumes nothing.
use Rattle.std.specs.Prelude.{ℕ, Bool, ◌||◌, List, [], ◌∷◌, eqb, get_or}
use Rattle.base.specs.Bytes.{b}

-- sorts of types, as letters: `f`, `i`, `b`, `t`, `g`, `m`, `y`, `e`
abbrev pub float : ℕ
float = 102

abbrev pub integer : ℕ
integer = 105

abbrev pub boolean : ℕ
boolean = 98

abbrev pub text : ℕ
text = 116

abbrev pub group : ℕ
group = 103

abbrev pub message : ℕ
message = 109

abbrev pub bytes : ℕ
bytes = 121

abbrev pub enumerated : ℕ
enumerated = 101

-- a type: its sort, the word of its tag (field_type_tag), and the Rust type (resolve_type) where that is one word
pub record FieldType : Type 0 where
  pub sort : ℕ
  pub tag : List ℕ
  pub rust : List ℕ

abbrev pub is : ℕ → List ℕ → List ℕ → FieldType
is s t r = record { sort = s; tag = t; rust = r }

abbrev pub no_type : FieldType
no_type = is 0 [] []

abbrev pub types : List FieldType
types =
    no_type
    ∷ is float (b "double") (b "f64")
    ∷ is float (b "float") (b "f32")
    ∷ is integer (b "int64") (b "i64")
    ∷ is integer (b "uint64") (b "u64")
    ∷ is integer (b "int32") (b "i32")
    ∷ is integer (b "fixed64") (b "u64")
    ∷ is integer (b "fixed32") (b "u32")
    ∷ is boolean (b "bool") (b "bool")
    ∷ is text (b "string") []
    ∷ is group (b "group") []
    ∷ is message (b "message") []
    ∷ is bytes (b "bytes") []
    ∷ is integer (b "uint32") (b "u32")
    ∷ is enumerated [] (b "i32")
    ∷ is integer (b "sfixed32") (b "i32")
    ∷ is integer (b "sfixed64") (b "i64")
    ∷ is integer (b "sint32") (b "i32")
    ∷ is integer (b "sint64") (b "i64")
    ∷ []

abbrev pub type_at : ℕ → FieldType
type_at k = get_or types k no_type

unfoldable pub sort_of : ℕ → ℕ
sort_of k = (type_at k).sort

unfoldable pub tag_word : ℕ → List ℕ
tag_word k = (type_at k).tag

unfoldable pub rust_word : ℕ → List ℕ
rust_word k = (type_at k).rust

-- can_pack: numbers, bool and enum
unfoldable pub can_pack : ℕ → Bool
can_pack k = eqb (sort_of k) float || (eqb (sort_of k) integer || (eqb (sort_of k) boolean || eqb (sort_of k) enumerated))

-- may what is no message be Eq? Integers, bool, enum, string and bytes
unfoldable pub type_eq : ℕ → Bool
type_eq k =
    eqb (sort_of k) integer || (eqb (sort_of k) boolean || (eqb (sort_of k) enumerated || (eqb (sort_of k) text || eqb (sort_of k) bytes)))
