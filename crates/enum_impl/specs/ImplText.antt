-- The line that an enum's impl begins with, and what stands behind it. Assumes nothing.
use Rattle.std.specs.Prelude.{ℕ, suc, List}
use Rattle.descriptor.specs.Descriptor.{Bytes, ValueDescriptor}
use Rattle.options.specs.Settings.{Setting}
use Rattle.code_generator.specs.Piece.{Text, piece, ◌⟫◌, ◌◃◌, name, camel, lit, block_open}
use Rattle.code_generator.specs.Attributes.{line, end}
use Rattle.code_generator.specs.Enums.{as_str_name, from_str_name}

unfoldable pub impl_line : ℕ → Bytes → Text
impl_line d enum = (line d "impl " ⟫ piece (name (camel enum)) ⟫ lit " {\n") ◃ block_open

unfoldable pub methods : List Setting → ℕ → Bytes → List ValueDescriptor → Text
methods rs d enum vs = as_str_name rs (suc d) enum vs ⟫ from_str_name rs (suc d) enum vs ⟫ end d
