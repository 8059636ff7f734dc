-- The path of a oneof's type, written piece by piece. Assumes nothing.
use Rattle.std.proofs.Common.{◌≡◌, sym, ap, ◌∙◌, List, ℕ, [], ◌++◌, ◌∷◌, append-nil}
use Rattle.base.specs.Bytes.{b}
use Rattle.writer.specs.declared.text.Text.{Text}
use Rattle.writer.specs.Writing.{◌▻◌}
use Rattle.writer.proofs.TextLaws.{appended}
use Rattle.ident.specs.Ident.{to_snake}
use Rattle.code_generator.specs.Piece.{spelt, Spelling, way_text, through}

pub path_written : (t t₁ t₂ t₃ : Text) (message : List ℕ) (last : Spelling) → t₁ ≡ t ▻ to_snake message → t₂ ≡ t₁ ▻ b "::" → t₃ ≡ t₂ ▻ spelt last
    → t₃ ≡ t ▻ way_text (record { supers = 0; modules = message ∷ []; last = last })
unfolding way_text through
path_written t t₁ t₂ t₃ message last e f g = appended t t₂ t₃ (to_snake message ++ b "::") (spelt last) (appended t t₁ t₂ (to_snake message) (b "::") e f) g ∙ ap (λ (p : List ℕ). t ▻ (p ++ spelt last)) (sym (append-nil (to_snake message ++ b "::")))
