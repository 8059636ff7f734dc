-- A line at a depth of 2 ^ 62 or more has so many bytes that nothing is written behind it. Assumes nothing.
use Prim.Native.Nat.{ℕ, zero, suc, ◌-◌, ◌*◌, ◌^◌, ◌≤◌}
use native.Mathlib.Omega.{arith}
use mathlib.Core.Path.{◌≡◌, refl, sym, ap, ◌∙◌}
use lib.ListN.{length}
use Rattle.std.proofs.Common.{length-append}
use Rattle.base.specs.Bytes.{b}
use Rattle.writer.specs.declared.text.Text.{Text as Buffered}
use Rattle.writer.specs.Text.{indent}
use Rattle.writer.specs.Draft.{Draft, most, extended}
use Rattle.writer.specs.Writing.{◌▻◌, draft_of, with_draft}
use Rattle.writer.proofs.TextLaws.{full}
use Rattle.code_generator.specs.Piece.{Text, flat}
use Rattle.code_generator.specs.Writing.{◌⊳◌}
use Rattle.code_generator.proofs.WritingLaws.{written-flat}

indent_length : (n : ℕ) → length (indent n) ≡ n * 4
unfolding indent
indent_length zero = refl
indent_length (suc n) = length-append (indent n) (b "    ") ∙ let e = indent_length n in omega arith

filled_up : (d : Draft) (n : ℕ) → 2 ^ 62 ≤ n → most ≤ (extended d (indent n)).length
unfolding extended
filled_up d n h = let e = indent_length n in omega arith

nothing_behind : (t : Buffered) (x : Text) → most ≤ t.length → t ⊳ x ≡ t
nothing_behind t x h = written-flat t x ∙ ap (with_draft t) (full (draft_of t) (flat x) h)

-- the text u has such a line, and what is behind it, x, in vain; y would be written in vain too
pub nothing_more : (t u : Buffered) (n : ℕ) (x y : Text) → 2 ^ 62 ≤ n → u ≡ t ▻ indent n ⊳ x → u ≡ u ⊳ y
nothing_more t u n x y h e =
    let is : u ≡ t ▻ indent n = e ∙ nothing_behind (t ▻ indent n) x (filled_up (draft_of t) n h) in
    sym (ap (λ (v : Buffered). v ⊳ y) is ∙ nothing_behind (t ▻ indent n) y (filled_up (draft_of t) n h) ∙ sym is)
