-- A text that is written in one pass over the embedded messages of a message: a piece for each. Assumes nothing.
use Rattle.std.specs.Prelude.{◌≡◌, ℕ, ◌<◌, ◌^◌, length}
use Rattle.std.proofs.Common.{sym, ◌∙◌}
use Rattle.std.proofs.Math.Path.{ap}
use mathlib.Core.List.{List, [], ◌∷◌, ◌++◌, append_assoc, append-nil}
use Rattle.writer.specs.declared.text.Text.{Text}
use Rattle.writer.specs.Writing.{◌▻◌}
use Rattle.writer.proofs.TextLaws.{put-append, put-nothing}
use Rattle.writer.specs.Wrote.{Wrote, none, ◌►◌, named, kept}
use Rattle.wire.specs.Step.{Record, Step, End, Fault, Found, step_at}
use Rattle.wire.specs.Contents.{value_of}
use Rattle.descriptor.specs.Descriptor.{Bytes}
use Rattle.descriptor.specs.Decode.{entries, bytes_in, parts}
use Rattle.parts.proofs.PartLaws.{parts_from, parts_all, parts_end, parts_fault, parts_skip, parts_found}

-- what is written for each of the parts, where x is a number that counts on: the first's is x, and next gives the one behind a part
unfoldable pub walked : (ℕ → Bytes → Bytes) → (ℕ → Bytes → ℕ) → ℕ → List Bytes → Bytes
walked g next x [] = []
walked g next x (p ∷ ps) = g x p ++ walked g next (next x p) ps

module _ (g : ℕ → Bytes → Bytes) (next : ℕ → Bytes → ℕ) (x₀ n : ℕ) (s t₀ : List ℕ) (a₀ : ℕ) where
  -- the pass has come to position at of s: the buffer is t, the place in it a, the count x
  pub record Going (t : List ℕ) (at a x : ℕ) : Type 0 where
    pub so_far : List ℕ
    pub wrote : Wrote t₀ a₀ so_far t a
    pub rest : so_far ++ walked g next x (parts_from n s at) ≡ walked g next x₀ (parts n (entries s))

  pub going_start : length t₀ < 2 ^ 63 → Going t₀ 0 a₀ x₀
  going_start h = record { so_far = []; wrote = none h; rest = ap (walked g next x₀) (parts_all n s) }

  -- the buffer keeps its length
  pub going_kept : {t : List ℕ} {at a x : ℕ} → Going t at a x → length t ≡ length t₀
  going_kept h = kept h.wrote

  module _ {t : List ℕ} {at a x : ℕ} (h : Going t at a x) where
    done : parts_from n s at ≡ [] → Wrote t₀ a₀ (walked g next x₀ (parts n (entries s))) t a
    unfolding walked
    done e =
        named (sym (append-nil h.so_far) ∙ ap (λ (l : List Bytes). h.so_far ++ walked g next x l) (sym e) ∙ h.rest) h.wrote

    module _ (r : Step) (e : r ≡ step_at s at) where
      pub going_end : r ≡ End → Wrote t₀ a₀ (walked g next x₀ (parts n (entries s))) t a
      going_end is = done (parts_end n s at r e is)

      pub going_fault : (key : ℕ) → r ≡ Fault key → Wrote t₀ a₀ (walked g next x₀ (parts n (entries s))) t a
      going_fault key is = done (parts_fault n s at r e key is)

      module _ (f : Record) (is : r ≡ Found f) where
        pub going_skip : (f.number ≡ n → ⊥) → Going t f.next a x
        going_skip ne =
            record {
              so_far = h.so_far;
              wrote = h.wrote;
              rest = ap (λ (l : List Bytes). h.so_far ++ walked g next x l) (sym (parts_skip n s at r e f is ne)) ∙ h.rest;
            }

        pub going_found : f.number ≡ n → {p t' : List ℕ} {a' : ℕ} → p ≡ bytes_in (value_of s f) → Wrote t a (g x p) t' a' → (x' : ℕ) → x' ≡ next x p
            → Going t' f.next a' x'
        unfolding walked
        going_found q {p} {t'} {a'} there w x' e' =
            record {
              so_far = h.so_far ++ g x p;
              wrote = h.wrote ► w;
              rest =
                  append_assoc h.so_far (g x p) (walked g next x' (parts_from n s f.next))
                  ∙ ap (λ (k : ℕ). h.so_far ++ (g x p ++ walked g next k (parts_from n s f.next))) e'
                  ∙ ap (λ (l : List ℕ). h.so_far ++ walked g next x (l ∷ parts_from n s f.next)) there
                  ∙ ap (λ (l : List Bytes). h.so_far ++ walked g next x l) (sym (parts_found n s at r e f is q))
                  ∙ h.rest;
            }

-- ---- the same in a text
module _ (g : ℕ → Bytes → Bytes) (next : ℕ → Bytes → ℕ) (t : Text) (x : ℕ) (ps : List Bytes) (goal : Text) (h : t ▻ walked g next x ps ≡ goal) where
  -- one part on
  pub written_on : (t₁ : Text) (p : Bytes) (rest : List Bytes) (x₁ : ℕ) → ps ≡ p ∷ rest → x₁ ≡ next x p → t₁ ≡ t ▻ g x p → t₁ ▻ walked g next x₁ rest ≡ goal
  unfolding walked
  written_on t₁ p rest x₁ first e w =
      ap (λ (u : Text). u ▻ walked g next x₁ rest) w ∙ put-append t (g x p) (walked g next x₁ rest)
      ∙ ap (λ (k : ℕ). t ▻ (g x p ++ walked g next k rest)) e
      ∙ ap (λ (l : List Bytes). t ▻ walked g next x l) (sym first)
      ∙ h

  pub written_all : ps ≡ [] → t ≡ goal
  unfolding walked
  written_all ends = sym (put-nothing t) ∙ ap (λ (l : List Bytes). t ▻ walked g next x l) (sym ends) ∙ h
