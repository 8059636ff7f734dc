-- A text's tree written into a `Text`, piece by piece. Assumes nothing.
use Rattle.std.specs.Prelude.{◌≡◌, ℕ, if◌then◌else◌, List}
use Rattle.writer.specs.declared.text.Text.{Text as Buffered}
use Rattle.writer.specs.Draft.{Draft, draft, extended}
use Rattle.writer.specs.Writing.{draft_of, with_draft}
use Rattle.code_generator.specs.Piece.{Text, nothing, piece, ◌⟫◌, when, either, ◌▹◌, ◌◃◌, written}

-- the draft with a text behind what is written; marks write nothing
abbrev pub continued : Draft → Text → Draft
continued d nothing = d
continued d (piece p) = extended d (written p)
continued d (x ⟫ y) = continued (continued d x) y
continued d (when c x) = if c then continued d x else d
continued d (either c x y) = if c then continued d x else continued d y
continued d (m ▹ x) = continued d x
continued d (x ◃ m) = continued d x

-- the writer's text with a tree behind what is written
infixl 60 ◌⊳◌
abbrev pub ◌⊳◌ : Buffered → Text → Buffered
t ⊳ x = with_draft t (continued (draft_of t) x)

-- a declaration's text was written into a buffer from its start on, as far as it goes, and n is its length
pub record Declares (old : List ℕ) (x : Text) (new : List ℕ) (n : ℕ) : Type 0 where
  pub is : draft new n ≡ continued (draft old 0) x
