-- An impl at a depth where nothing is written behind its first line. Assumes nothing.
use Prim.Native.Nat.{ℕ, ◌^◌, ◌≤◌}
use mathlib.Core.Path.{◌≡◌, ap, ◌∙◌}
use mathlib.Core.List.{List}
use Rattle.writer.specs.declared.text.Text.{Text as Buffered}
use Rattle.descriptor.specs.Descriptor.{Bytes, ValueDescriptor}
use Rattle.options.specs.Settings.{Setting}
use Rattle.code_generator.specs.Piece.{piece, ◌⟫◌, name, camel, lit}
use Rattle.code_generator.specs.Writing.{◌⊳◌}
use Rattle.code_generator.specs.Enums.{enum_impl}
use Rattle.enum_arms.proofs.DeepLaws.{nothing_more}
use Rattle.enum_impl.specs.ImplText.{impl_line, methods}

pub deep_impl : (rs : List Setting) (t u : Buffered) (d : ℕ) (s own : Bytes) (vs : List ValueDescriptor) → 2 ^ 62 ≤ d → u ≡ t ⊳ impl_line d s → s ≡ own → u ≡ t ⊳ enum_impl rs d own vs
unfolding impl_line methods enum_impl
deep_impl rs t u d s own vs h e q =
    nothing_more t u d (lit "impl " ⟫ piece (name (camel s)) ⟫ lit " {\n") (methods rs d own vs) h e
    ∙ ap (λ (v : Buffered). v ⊳ methods rs d own vs) e
    ∙ ap (λ (r : Bytes). t ⊳ impl_line d r ⊳ methods rs d own vs) q
