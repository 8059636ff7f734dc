-- What is written of a tree is its bytes.
use Rattle.std.proofs.Common.{◌≡◌, ℕ, ◌-◌, ◌^◌, ◌<◌, min, max, true, false, List, length, refl, sym, ap, ◌∙◌}
use borrow.Rule.Slice.PartMut.{mid_of, put_mid}
use Rattle.writer.specs.declared.text.Text.{Text as Buffered}
use Rattle.writer.specs.Wrote.{Wrote}
use Rattle.writer.specs.Draft.{Draft, draft, extended, skipped, Filled}
use Rattle.writer.specs.Writing.{◌▻◌, draft_of, with_draft, IsPlace}
use Rattle.writer.proofs.TextLaws.{extended-nil, extended-append, lent as lent_bytes, placed as placed_bytes}
use Rattle.code_generator.specs.Piece.{Text, nothing, piece, ◌⟫◌, when, either, ◌▹◌, ◌◃◌, flat}
use Rattle.code_generator.specs.Writing.{continued, ◌⊳◌, Declares}

pub continued-flat : (d : Draft) (x : Text) → continued d x ≡ extended d (flat x)
continued-flat d nothing = extended-nil d
continued-flat d (piece p) = refl
continued-flat d (x ⟫ y) =
    continued-flat (continued d x) y ∙ ap (λ (u : Draft). extended u (flat y)) (continued-flat d x)
    ∙ extended-append d (flat x) (flat y)
continued-flat d (when true x) = continued-flat d x
continued-flat d (when false x) = extended-nil d
continued-flat d (either true x y) = continued-flat d x
continued-flat d (either false x y) = continued-flat d y
continued-flat d (m ▹ x) = continued-flat d x
continued-flat d (x ◃ m) = continued-flat d x

pub written-flat : (t : Buffered) (x : Text) → t ⊳ x ≡ t ▻ flat x
written-flat t x = ap (with_draft t) (continued-flat (draft_of t) x)

-- a declaration's bytes
pub filled : {old new : List ℕ} {n : ℕ} (x : Text) → Declares old x new n → Filled old (flat x) new n
filled {old} {new} {n} x w = record { is = w.is ∙ continued-flat (draft old 0) x }

-- a declaration that was lent the rest of the text's buffer
pub lent : (t u : Buffered) (x : Text) (s : List ℕ) (at n : ℕ) → IsPlace t at → Declares (mid_of at (length t.buffer.now - at) t.buffer.now) x s n → u ≡ with_draft t (skipped (draft (put_mid at (length t.buffer.now - at) t.buffer.now s) t.length) n) → u ≡ t ⊳ x
lent t u x s at n i w f = lent_bytes t u (flat x) s at n i (filled x w) f ∙ sym (written-flat t x)

-- a text that was begun at a place, as the writers over a place say it
pub placed : {t : Buffered} {t' : List ℕ} {r : ℕ} (x : Text) (u : Buffered) → length t.buffer.now < 2 ^ 63 → t' ≡ u.buffer.now → u ≡ t ⊳ x → r ≡ min u.length (max t.length (2 ^ 63)) → Wrote t.buffer.now t.length (flat x) t' r
placed {t} x u h k e f = placed_bytes u h k (e ∙ written-flat t x) f
