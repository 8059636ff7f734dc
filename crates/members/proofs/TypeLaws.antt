-- A name with a suffix where a test holds. Assumes nothing.
use Rattle.std.proofs.Common.{◌≡◌, Bool, List, ℕ, [], ◌++◌, ◌∙◌}
use Rattle.writer.specs.declared.text.Text.{Text}
use Rattle.writer.specs.Text.{pick}
use Rattle.writer.specs.Writing.{◌▻◌, put_where}
use Rattle.writer.proofs.TextLaws.{appended, put_where-pick}

pub type_named : (t t₁ t₂ : Text) (c : Bool) (p q : List ℕ) → t₁ ≡ t ▻ p → t₂ ≡ put_where c t₁ q → t₂ ≡ t ▻ (p ++ pick c q [])
type_named t t₁ t₂ c p q e f = appended t t₁ t₂ p (pick c q []) e (f ∙ put_where-pick c t₁ q)
