-- What stands a level below a line at the depth d, where depths go up to 2 ^ 64 - 1: behind a line so deep nothing is written. Assumes nothing.
use Rattle.std.proofs.Common.{◌≡◌, sym, ap, ◌∙◌, ℕ, zero, suc, ◌+◌, ◌-◌, ◌^◌, ◌≤◌, min, List, ◌++◌, length, arith, length-append}
use Rattle.std.proofs.Math.Decide.{dec_le}
use Rattle.base.specs.Bytes.{b}
use Rattle.writer.specs.declared.text.Text.{Text as Buffered}
use Rattle.writer.specs.Text.{indent}
use Rattle.writer.specs.Draft.{Draft, most, extended}
use Rattle.writer.specs.Writing.{◌▻◌, draft_of, with_draft}
use Rattle.writer.proofs.TextLaws.{full, put-append}
use Rattle.code_generator.specs.Piece.{Text, ◌⟫◌, flat}
use Rattle.code_generator.specs.Writing.{◌⊳◌}
use Rattle.code_generator.proofs.WritingLaws.{written-flat}

pub indent_deep : (d : ℕ) → d ≤ length (indent d)
unfolding indent
indent_deep zero = omega arith
indent_deep (suc d) = let e = indent_deep d in let h = length-append (indent d) (b "    ") in omega arith

long : (d : Draft) (p : List ℕ) → most ≤ length p → most ≤ (extended d p).length
unfolding extended
long d p h = omega arith

nothing_behind : (t : Buffered) (p q : List ℕ) → most ≤ length p → t ▻ (p ++ q) ≡ t ▻ p
nothing_behind t p q h = sym (put-append t p q) ∙ ap (with_draft (t ▻ p)) (full (draft_of (t ▻ p)) q (long (draft_of t) p h))

-- f gives what is written at a depth, behind p; n is the depth below d
module _ (t : Buffered) (d n : ℕ) (below : n ≡ min (d + 1) (2 ^ 64 - 1)) where
  pub bytes_below : (p : List ℕ) (f : ℕ → List ℕ) → d ≤ length p → t ▻ (p ++ f n) ≡ t ▻ (p ++ f (suc d))
  bytes_below p f h = on (dec_le (suc d) most)
    where
      on : Dec (suc d ≤ most) → t ▻ (p ++ f n) ≡ t ▻ (p ++ f (suc d))
      on (yes k) = let e : n ≡ suc d = omega arith in ap (λ (m : ℕ). t ▻ (p ++ f m)) e
      on (no k) = nothing_behind t p (f n) (omega arith) ∙ sym (nothing_behind t p (f (suc d)) (omega arith))

  pub tree_below : (x : Text) (f : ℕ → Text) → d ≤ length (flat x) → t ⊳ (x ⟫ f n) ≡ t ⊳ (x ⟫ f (suc d))
  tree_below x f h = written-flat t (x ⟫ f n) ∙ bytes_below (flat x) (λ (m : ℕ). flat (f m)) h ∙ sym (written-flat t (x ⟫ f (suc d)))
