-- The numbers of a oneof's fields, one field on. Assumes nothing.
use Rattle.std.specs.Prelude.{◌≡◌, ℕ, Bool, true, false, List, [], ◌∷◌, ◌++◌, map}
use mathlib.Core.Path.{refl, sym, ap, ◌∙◌}
use Rattle.base.specs.Bytes.{b}
use Rattle.writer.specs.declared.text.Text.{Text}
use Rattle.writer.specs.Text.{pick}
use Rattle.writer.specs.Writing.{◌▻◌, put_where}
use Rattle.writer.proofs.TextLaws.{appended, put_where-pick, put-append, put-nothing}
use Rattle.code_generator.specs.Writing.{◌⊳◌}
use Rattle.code_generator.proofs.WritingLaws.{written-flat}
use Rattle.writer.specs.Decimal.{decimal}
use Rattle.descriptor.specs.Descriptor.{Bytes, FieldDescriptor}
use Rattle.name_rules.specs.Accessors.{number}
use Rattle.code_generator.specs.Piece.{flat}
use Rattle.code_generator.specs.Oneofs.{tags, more_tags}

-- the numbers of fields, behind those of others or not
unfoldable pub numbers_of : Bool → List FieldDescriptor → Bytes
numbers_of false fs = flat (tags fs)
numbers_of true fs = flat (more_tags fs)

none_of : (more : Bool) → numbers_of more [] ≡ []
unfolding numbers_of tags more_tags
none_of true = refl
none_of false = refl

next_of : (more : Bool) (f : FieldDescriptor) (fs : List FieldDescriptor) → numbers_of more (f ∷ fs) ≡ (pick more (b ", ") [] ++ decimal (number f)) ++ numbers_of true fs
unfolding numbers_of tags more_tags
next_of true f fs = refl
next_of false f fs = refl

-- ---- written into a text
pub tag_written : (t t₁ t₂ : Text) (more : Bool) (p q : List ℕ) → t₁ ≡ put_where more t p → t₂ ≡ t₁ ▻ q → t₂ ≡ t ▻ (pick more p [] ++ q)
tag_written t t₁ t₂ more p q e f = appended t t₁ t₂ (pick more p []) q (e ∙ put_where-pick more t p) f

-- all of them
pub tags_all : (t : Text) (fs : List FieldDescriptor) → t ▻ numbers_of false fs ≡ t ⊳ tags fs
unfolding numbers_of
tags_all t fs = sym (written-flat t (tags fs))

module _ (field : ℕ → FieldDescriptor) (u goal : Text) (more : Bool) (ks : List ℕ) (h : u ▻ numbers_of more (map field ks) ≡ goal) where
  -- one field on
  pub tags_on : (k : ℕ) (rest : List ℕ) (n : ℕ) (u₁ : Text) → ks ≡ k ∷ rest → n ≡ number (field k) → u₁ ≡ u ▻ (pick more (b ", ") [] ++ decimal n) → u₁ ▻ numbers_of true (map field rest) ≡ goal
  tags_on k rest n u₁ first there w =
      ap (λ (v : Text). v ▻ numbers_of true (map field rest)) (w ∙ ap (λ (m : ℕ). u ▻ (pick more (b ", ") [] ++ decimal m)) there)
      ∙ put-append u (pick more (b ", ") [] ++ decimal (number (field k))) (numbers_of true (map field rest))
      ∙ ap (λ (p : Bytes). u ▻ p) (sym (next_of more (field k) (map field rest)))
      ∙ ap (λ (l : List ℕ). u ▻ numbers_of more (map field l)) (sym first)
      ∙ h

  pub tags_done : ks ≡ [] → u ≡ goal
  tags_done ends =
      sym (put-nothing u) ∙ ap (λ (p : Bytes). u ▻ p) (sym (none_of more)) ∙ ap (λ (l : List ℕ). u ▻ numbers_of more (map field l)) (sym ends) ∙ h

  -- none is left
  pub tags_none : (rest : List ℕ) (u₁ : Text) → ks ≡ [] → rest ≡ [] → u₁ ≡ u → u₁ ▻ numbers_of true (map field rest) ≡ goal
  tags_none rest u₁ ends none w =
      ap (λ (v : Text). v ▻ numbers_of true (map field rest)) w
      ∙ ap (λ (l : List ℕ). u ▻ numbers_of true (map field l)) none
      ∙ ap (λ (p : Bytes). u ▻ p) (none_of true ∙ sym (none_of more))
      ∙ ap (λ (l : List ℕ). u ▻ numbers_of more (map field l)) (sym ends)
      ∙ h
