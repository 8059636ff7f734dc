-- The fields that pass a test, of those in a range from a number on, one field on. A loop that writes a text for each goes by these laws
-- and attributes' Onward. Assumes nothing.
use Rattle.std.proofs.Common.{◌≡◌, refl, ap, ◌∙◌, ℕ, suc, ◌+◌, ◌-◌, ◌<◌, ◌≤◌, Bool, true, false, List, [], ◌∷◌, length, arith, add-one}
use Rattle.base.specs.Choose.{choose}
use Rattle.descriptor.specs.Decode.{entries, parts}
use Rattle.text_tables.specs.Rows.{message_row, field_row}
use Rattle.text_tables.specs.declared.FieldRow.{FieldRow}
use Rattle.text_tables.specs.declared.MessageRow.{MessageRow}
use Rattle.members.specs.Members.{numbers_where, members}

module _ (t : List FieldRow) (last k : ℕ) where
  pub numbers_end : (test : FieldRow → Bool) → last ≤ k → numbers_where test t (last - k) k ≡ []
  unfolding numbers_where
  numbers_end test h = let e : last - k ≡ 0 = omega arith in rw e

  module _ (h : k < last) (row : FieldRow) (is : row ≡ field_row t k) (test : FieldRow → Bool) where
    left : last - k ≡ suc (last - (k + 1))
    left = omega arith

    numbers_at : numbers_where test t (last - k) k ≡ choose (test row) (k ∷ numbers_where test t (last - (k + 1)) (k + 1)) (numbers_where test t (last - (k + 1)) (k + 1))
    unfolding numbers_where
    numbers_at = rw (left, add-one, is)

    pub numbers_found : test row ≡ true → numbers_where test t (last - k) k ≡ k ∷ numbers_where test t (last - (k + 1)) (k + 1)
    unfolding choose
    numbers_found e = numbers_at ∙ rw e

    pub numbers_skip : test row ≡ false → numbers_where test t (last - k) k ≡ numbers_where test t (last - (k + 1)) (k + 1)
    unfolding choose
    numbers_skip e = numbers_at ∙ rw e

-- ---- the numbers that are left of a range, one number on
module _ (test : FieldRow → Bool) (t : List FieldRow) (first last first₁ last₁ : ℕ) (ends : last₁ ≡ last) where
  pub left_turn : 0 < last - first → (k : ℕ) → k ≡ first → first₁ ≡ first + 1
      → numbers_where test t (last - first) first ≡ choose (test (field_row t k)) (k ∷ numbers_where test t (last₁ - first₁) first₁) (numbers_where test t (last₁ - first₁) first₁)
  left_turn some k start next = rw (ends, next, start) (numbers_at t last first (omega (arith, some)) (field_row t first) refl test)

  module _ (none : last - first ≡ 0) (start : first₁ ≡ first) where
    pub left_none : numbers_where test t (last - first) first ≡ []
    left_none = numbers_end t last first test (omega (arith, none))

    pub left_none_behind : numbers_where test t (last₁ - first₁) first₁ ≡ []
    left_none_behind = rw (ends, start) left_none

-- by the range of a message's fields
pub members_are : (messages : List MessageRow) (t : List FieldRow) (part : List ℕ) (test : FieldRow → Bool) (i : ℕ) {first last : ℕ} → first ≡ (message_row messages i).first → last ≡ first + length (parts 2 (entries part))
    → numbers_where test t (last - first) first ≡ members test messages t i part
members_are messages t part test i {first} {last} e f =
    let n : last - first ≡ length (parts 2 (entries part)) = omega arith in
    ap (λ (k : ℕ). numbers_where test t k first) n ∙ ap (numbers_where test t (length (parts 2 (entries part)))) e
