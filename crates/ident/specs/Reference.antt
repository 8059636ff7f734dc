-- The Rust Reference on identifiers and keywords, for ASCII: what may stand where a name is declared or used.
use Rattle.std.specs.Prelude.{Bool, ◌&&◌, ◌||◌, not, List, [], ◌∷◌, ◌++◌, ℕ, take, drop}
use Rattle.base.specs.Bytes.{b, same}
use Rattle.ident.specs.Name.{is_name}
use Rattle.ident.specs.Ident.{among}

-- the strict keywords of editions 2015 to 2024, and `_`
unfoldable pub strict_keywords : List (List ℕ)
strict_keywords =
    b "_" ∷ b "as" ∷ b "async" ∷ b "await" ∷ b "break" ∷ b "const" ∷ b "continue" ∷ b "crate" ∷ b "dyn" ∷ b "else" ∷ b "enum"
    ∷ b "extern" ∷ b "false" ∷ b "fn" ∷ b "for" ∷ b "if" ∷ b "impl" ∷ b "in" ∷ b "let" ∷ b "loop" ∷ b "match" ∷ b "mod"
    ∷ b "move" ∷ b "mut" ∷ b "pub" ∷ b "ref" ∷ b "return" ∷ b "self" ∷ b "Self" ∷ b "static" ∷ b "struct" ∷ b "super"
    ∷ b "trait" ∷ b "true" ∷ b "type" ∷ b "unsafe" ∷ b "use" ∷ b "where" ∷ b "while" ∷ []

-- the reserved ones
unfoldable pub reserved_keywords : List (List ℕ)
reserved_keywords =
    b "abstract" ∷ b "become" ∷ b "box" ∷ b "do" ∷ b "final" ∷ b "gen" ∷ b "macro" ∷ b "override" ∷ b "priv" ∷ b "try"
    ∷ b "typeof" ∷ b "unsized" ∷ b "virtual" ∷ b "yield" ∷ []

-- weak keywords (`macro_rules`, `raw`, `safe`, `union`, `'static`) may stand as identifiers
abbrev pub keywords : List (List ℕ)
keywords = strict_keywords ++ reserved_keywords

-- those that `r#` may not stand before
unfoldable pub never_raw : List (List ℕ)
never_raw = b "_" ∷ b "crate" ∷ b "self" ∷ b "Self" ∷ b "super" ∷ []

unfoldable pub non_keyword_identifier : List ℕ → Bool
non_keyword_identifier x = is_name x && not (among x keywords)

unfoldable pub raw_identifier : List ℕ → Bool
raw_identifier x = same (take 2 x) (b "r#") && (is_name (drop 2 x) && not (among (drop 2 x) never_raw))

unfoldable pub identifier : List ℕ → Bool
identifier x = non_keyword_identifier x || raw_identifier x

-- the names of the primitive types
unfoldable pub primitive_types : List (List ℕ)
primitive_types =
    b "bool" ∷ b "char" ∷ b "str" ∷ b "u8" ∷ b "u16" ∷ b "u32" ∷ b "u64" ∷ b "u128" ∷ b "usize" ∷ b "i8" ∷ b "i16" ∷ b "i32"
    ∷ b "i64" ∷ b "i128" ∷ b "isize" ∷ b "f32" ∷ b "f64" ∷ []
