-- A `Text` as a draft in the buffer that it was lent. Assumes nothing.
use Rattle.std.specs.Prelude.{◌≡◌, ℕ, ◌<◌, ◌^◌, min, Bool, List, length}
use Rattle.std.specs.Borrow.{MutBor}
use Rattle.writer.specs.declared.text.Text.{Text}
use Rattle.writer.specs.Draft.{Draft, draft, extended, extended_if}

-- nothing is written yet
abbrev pub start : MutBor (List ℕ) → Text
start b = record { buffer = b; length = 0 }

abbrev pub draft_of : Text → Draft
draft_of t = draft t.buffer.now t.length

-- the text, in the same buffer, with this draft
abbrev pub with_draft : Text → Draft → Text
with_draft t d = record { buffer = record t.buffer { now = d.buffer }; length = d.length }

-- the text with the bytes p behind what is written
infixl 60 ◌▻◌
abbrev pub ◌▻◌ : Text → List ℕ → Text
t ▻ p = with_draft t (extended (draft_of t) p)

-- the same where the test holds, and else the text as it is
abbrev pub put_where : Bool → Text → List ℕ → Text
put_where c t p = with_draft t (extended_if c (draft_of t) p)

-- where the rest of the text's buffer begins
pub record IsPlace (t : Text) (at : ℕ) : Type 0 where
  pub place : at ≡ min t.length (length t.buffer.now)
  pub room : length t.buffer.now < 2 ^ 63
