-- The extern paths of prost types as words, and which is worth most for a name. Assumes nothing.
use Rattle.std.specs.Prelude.{List, [], ◌∷◌, ◌++◌, ℕ, ◌+◌, get_or}
use Rattle.base.specs.Choose.{choose}
use Rattle.base.specs.Bytes.{b, same}
use Rattle.options.specs.Settings.{Setting}
use Rattle.path.specs.Worth.{Form, worth_in, improve}
use Rattle.path.specs.declared.Best.{Best}
use Rattle.split.specs.Split.{begins, split}
use Rattle.extern_paths.specs.ExternPaths.{extern}

-- `best_of` over paths alone
unfoldable pub best_word : List Form → Best → ℕ → List (List ℕ) → Best
best_word fs m i [] = m
best_word fs m i (x ∷ xs) = best_word fs (improve m i (worth_in fs x)) (i + 1) xs

-- an extern path of prost types by two words: p is the prost path, v the value of kind 12
unfoldable pub prost_type : List ℕ → List ℕ → List ℕ → List ℕ → Setting
prost_type p v path value = extern path (choose (same value (b "-")) v (choose (begins (b "::") value) (p ++ value) value))

unfoldable pub path_words : List (List ℕ)
path_words = split (b " ") (b ".google.protobuf .google.protobuf.BoolValue .google.protobuf.BytesValue .google.protobuf.DoubleValue .google.protobuf.Empty .google.protobuf.FloatValue .google.protobuf.Int32Value .google.protobuf.Int64Value .google.protobuf.StringValue .google.protobuf.UInt32Value .google.protobuf.UInt64Value")

unfoldable pub value_words : List (List ℕ)
value_words = split (b " ") (b "- bool ::alloc::vec::Vec<u8> f64 () f32 i32 i64 ::alloc::string::String u32 u64")

unfoldable pub prost_type_number : List ℕ → List ℕ → ℕ → Setting
prost_type_number p v j = prost_type p v (get_or path_words j []) (get_or value_words j [])
