-- A table that holds what a function gives at each place, and its laws. Assumes nothing.
use Rattle.std.specs.Prelude.{◌≡◌, length, set, drop}
use Rattle.std.proofs.Math.Path.{refl, sym, ap}
use Rattle.std.proofs.Common.{◌∙◌, le_antisymm, not-suc-le-zero, le_of_suc-le-suc, eq-or-lt_of_le, arith, length-set, drop_of_length-le}
use Rattle.std.proofs.Math.Logic.{⊎_elim}
use mathlib.Core.List.{List, [], ◌∷◌, ◌++◌, append-nil}
use Prim.Native.Nat.{ℕ, zero, suc, ◌+◌, ◌≤◌, ◌<◌, zero-le}
use Rattle.std.proofs.Math.Numerals.{add-one}
use Rattle.std.proofs.Math.ListN.{get_or, length-append, get_or-append}
use Rattle.std.proofs.Math.Seq.{drop-cons, append_snoc, get_or_at}
use Rattle.std.proofs.lemmas.List.{set_at}

-- f at each place below n
unfoldable pub tab {ℓ} : {A : Type ℓ} → ℕ → (ℕ → A) → List A
tab zero f = []
tab (suc n) f = tab n f ++ (f n ∷ [])

module _ {ℓ} {A : Type ℓ} where
  pub length_tab : (n : ℕ) (f : ℕ → A) → length (tab n f) ≡ n
  unfolding tab
  length_tab zero f = refl
  length_tab (suc n) f = length-append (tab n f) (f n ∷ []) ∙ ap (λ (k : ℕ). k + 1) (length_tab n f) ∙ add-one n

  pub tab_at : (n : ℕ) (f : ℕ → A) (d : A) (i : ℕ) → i < n → get_or (tab n f) i d ≡ f i
  unfolding tab
  tab_at zero f d i h = absurd (not-suc-le-zero h)
  tab_at (suc n) f d i h =
      ⊎_elim
      (λ e. ap (λ (k : ℕ). get_or (tab n f ++ (f n ∷ [])) k d) e ∙ get_or_at (tab n f) (f n) [] d n (length_tab n f) ∙ ap f (sym e))
      (λ l. get_or-append (tab n f) (f n ∷ []) d i (omega (arith, length_tab n f)) ∙ tab_at n f d i l)
      (eq-or-lt_of_le (le_of_suc-le-suc h))

  tab_more : (i : ℕ) (f : ℕ → A) (old : List A) (d : A) → i < length old → set (tab i f ++ drop i old) i (f i) ≡ tab (i + 1) f ++ drop (i + 1) old
  unfolding tab
  tab_more i f old d h =
      rw (add-one, drop-cons old i d h) (set_at (tab i f) (get_or old i d) (drop (suc i) old) (f i) i (length_tab i f) ∙ sym (append_snoc (tab i f) (f i) (drop (suc i) old)))

-- the first i places of a table are filled
pub record Filled {ℓ} {A : Type ℓ} (f : ℕ → A) (old out : List A) (i : ℕ) : Type ℓ where
  pub within : i ≤ length old
  pub size : length out ≡ length old
  pub is : out ≡ tab i f ++ drop i old

module _ {ℓ} {A : Type ℓ} {f : ℕ → A} {old : List A} where
  pub filled_none : Filled f old old 0
  unfolding tab
  filled_none = record { within = zero-le; size = refl; is = refl }

  pub filled_more : {out : List A} {i : ℕ} → Filled f old out i → i < length old → (r : A) → r ≡ f i → Filled f old (set out i r) (i + 1)
  filled_more {out} {i} p lt r e = record {
    within = omega arith;
    size = length-set out i r ∙ p.size;
    is = ap (λ (x : A). set out i x) e ∙ ap (λ (l : List A). set l i (f i)) p.is ∙ tab_more i f old r lt;
  }

  pub filled_all : {out : List A} {i : ℕ} → Filled f old out i → (n : ℕ) → length old ≡ n → n ≤ i → out ≡ tab n f
  filled_all {out} {i} p n e h =
      let w = p.within in
      p.is ∙ ap (λ (k : ℕ). tab k f ++ drop k old) (le_antisymm (omega arith) h)
      ∙ ap (λ (l : List A). tab n f ++ l) (drop_of_length-le old {i = n} (omega arith))
      ∙ append-nil (tab n f)

-- a table's own length says how far it goes
pub tab_whole {ℓ} : {A : Type ℓ} (n : ℕ) (f : ℕ → A) (l : List A) → l ≡ tab n f → l ≡ tab (length l) f
tab_whole n f l e = e ∙ ap (λ (k : ℕ). tab k f) (sym (length_tab n f) ∙ ap length (sym e))
