-- One attribute on its line. Assumes nothing.
use Rattle.std.specs.Prelude.{ℕ}
use Rattle.descriptor.specs.Descriptor.{Bytes}
use Rattle.code_generator.specs.Piece.{Text, piece, ◌⟫◌, opaque, lit, push_indent}

unfoldable pub attribute : ℕ → Bytes → Text
attribute d v = push_indent d ⟫ piece (opaque v) ⟫ lit "\n"
