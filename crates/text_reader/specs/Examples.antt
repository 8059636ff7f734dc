-- The reader on a text: words in strings, comments and defaults are none of its own, nor is a struct, field, variant or path called Box. Assumes nothing.
use Rattle.std.specs.Prelude.{refl, ◌≡◌, [], ◌∷◌, ◌++◌}
use Rattle.std.proofs.Math.Option.{none}
use Rattle.base.specs.Bytes.{b, same}
use Rattle.base.specs.Choose.{choose}
use Rattle.heck.specs.Case.{between}
use Rattle.ident.specs.Name.{name_start, name_part}
use Rattle.ident.specs.Ident.{among}
use Rattle.ident.specs.Reference.{primitive_types}
use Rattle.code_generator.specs.Piece.{opt, box, table}
use Rattle.sights.specs.Events.{open_module, open_declaration, open_block, close_block, open_field, close_field, open_tag, close_tag, open_wrap, close_wrap, meet_path}
use Rattle.text_reader.specs.Symbols.{chars, option_value}
use Rattle.text_reader.specs.Reader.{see}

-- a default's text is a string, whatever it says
pub default_text : see (chars (b "pub struct Box { #[prost(string, optional, tag = \"1\", default = \"\\\" enumeration(X) pub mod m { Box<\")] pub r#box: ::core::option::Option<i32>, }"))
    ≡ open_declaration none (b "Box")
    ∷ open_field none (b "r#box")
    ∷ open_wrap opt
    ∷ close_wrap
    ∷ close_field
    ∷ close_block
    ∷ []
unfolding choose same name_part name_start between among primitive_types
default_text = refl

-- a Box around a path called Box; tags; an option's value in front
pub boxes : see (option_value (b "#[pub mod x {") ∷ chars (b "pub enum E { #[prost(enumeration = \"super::m::Box\", tag = \"1\")] Box(") ++ (option_value (b "p") ∷ chars (b "::alloc::boxed::Box<super::Box>), }")))
    ≡ open_declaration none (b "E")
    ∷ open_tag
    ∷ meet_path none (record { supers = 1; modules = b "m" ∷ []; last = b "Box" })
    ∷ close_tag
    ∷ open_field none (b "Box")
    ∷ open_wrap box
    ∷ meet_path none (record { supers = 1; modules = []; last = b "Box" })
    ∷ close_wrap
    ∷ close_field
    ∷ close_block
    ∷ []
unfolding choose same name_part name_start between among primitive_types
boxes = refl

-- code: a block in a block; a comment
pub blocks : see (chars (b "impl E { /// a { \" comment\n pub fn f(&self) -> &'static str { match self { Self::A => \"pub struct {\", _ => Some(Self::B), } } } pub mod m { }"))
    ≡ open_block ∷ open_block ∷ open_block ∷ close_block ∷ close_block ∷ close_block ∷ open_module (b "m") ∷ close_block ∷ []
unfolding choose same name_part name_start between among primitive_types
blocks = refl

-- a map's tag holds a path in brackets; the map stands around its value's path
pub maps : see (chars (b "pub struct S { #[prost(btree_map = \"int32, enumeration(super::E)\", tag = \"1\")] pub m: ::prost::alloc::collections::BTreeMap<i32, super::Vec>, }"))
    ≡ open_declaration none (b "S")
    ∷ open_tag
    ∷ meet_path none (record { supers = 1; modules = []; last = b "E" })
    ∷ close_tag
    ∷ open_field none (b "m")
    ∷ open_wrap table
    ∷ meet_path none (record { supers = 1; modules = []; last = b "Vec" })
    ∷ close_wrap
    ∷ close_field
    ∷ close_block
    ∷ []
unfolding choose same name_part name_start between among primitive_types
maps = refl

-- no line ends are needed between blocks
pub one_line : see (chars (b "impl ") ++ (option_value (b "p") ∷ chars (b "::Name for S {const NAME: &'static str = \"S\";fn full_name() -> String { \"a.S\".into() }fn type_url() -> String { \"/a.S\".into() }}")))
    ≡ open_block ∷ open_block ∷ close_block ∷ open_block ∷ close_block ∷ close_block ∷ []
unfolding choose same name_part name_start between among primitive_types
one_line = refl
