-- A text that is written item by item: what is done, and what is left. Assumes nothing.
use Rattle.std.specs.Prelude.{◌≡◌, ℕ, ◌^◌, ◌<◌, List, [], ◌++◌, length, refl}
use Rattle.std.proofs.Common.{sym, ◌∙◌, append_assoc, append-nil}
use Rattle.base.specs.Each.{each}
use Rattle.base.specs.Steps.{Run, ended, broken, ◌then◌, items}
use Rattle.writer.specs.Wrote.{Wrote, ◌►◌, named, none}

-- of the text w, written into t₀ from `at` and come to t and a, what is left are the texts of r's items
pub record Left (f : ℕ → List ℕ) (t₀ : List ℕ) (at : ℕ) (w : List ℕ) (r : Run) (t : List ℕ) (a : ℕ) : Type 0 where
  pub done : List ℕ
  pub wrote : Wrote t₀ at done t a
  pub whole : done ++ each f (items r) ≡ w

pub left_all : (f : ℕ → List ℕ) {t : List ℕ} {at : ℕ} (r : Run) → length t < 2 ^ 63 → Left f t at (each f (items r)) r t at
left_all f r h = record { done = []; wrote = none h; whole = refl }

module _ (f : ℕ → List ℕ) {t₀ : List ℕ} {at : ℕ} {w t : List ℕ} {a : ℕ} (r : Run) (l : Left f t₀ at w r t a) where
  pub left_more : (x : ℕ) (q : Run) {t' : List ℕ} {a' : ℕ} → r ≡ x then q → Wrote t a (f x) t' a' → Left f t₀ at w q t' a'
  left_more x q e v =
      record {
        done = l.done ++ f x;
        wrote = l.wrote ► v;
        whole = append_assoc l.done (f x) (each f (items q)) ∙ (rw e at l.whole);
      }

  pub left_end : r ≡ ended → Wrote t₀ at w t a
  left_end e = named (sym (append-nil l.done) ∙ (rw e at l.whole)) l.wrote

  pub left_broken : r ≡ broken → Wrote t₀ at w t a
  left_broken e = named (sym (append-nil l.done) ∙ (rw e at l.whole)) l.wrote
