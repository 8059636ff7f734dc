-- What a path finds, row by row.
use Rattle.std.proofs.Common.{◌≡◌, refl, sym, ◌∙◌, ℕ, ◌^◌, ◌<◌, true, false, eqb, ltb, List, [], ◌∷◌, length, eq-eqb, ne_eqb}
use Rattle.base.specs.Choose.{choose, choose_case}
use Rattle.options.specs.Settings.{Setting}
use Rattle.path.specs.PathMap.{get, get_in, get_first}
use Rattle.path.specs.Worth.{weighed, worth_in, worth_of, improve, best_of, none_yet, found_of}
use Rattle.path.specs.declared.Best.{Best}
use Rattle.path.proofs.BestLaws.{all_forms, found_best, weighed_below, get_step}

-- ---- a single look-up
pub improved_few : (b c : Best) (i w n : ℕ) → c ≡ improve b i w → b.number < n → i < n → c.number < n
unfolding improve
improved_few b c i w n e h l = rw e (choose_case (λ (a : Best). a.number < n) (ltb b.worth w) (λ _. l) (λ _. h))

pub first_found : (kind : ℕ) (path : List ℕ) (rs : List Setting) (best : Best) → best ≡ best_of (weighed true path) kind none_yet 0 rs → length path < 2 ^ 63 → get_first kind path rs ≡ found_of best
first_found kind path rs best e h = rw (e, ← all_forms path) (sym (found_best (2 ^ 64) (weighed true path) kind 0 rs (weighed_below true path h)))

-- ---- all of them
pub get_none : (kind : ℕ) (path : List ℕ) → get kind path [] ≡ []
unfolding get_in
get_none kind path = refl

module _ (kind : ℕ) (path : List ℕ) (r : Setting) (rs : List Setting) where
  module _ (w : ℕ) (h : length path < 2 ^ 63) where
    found_worth : eqb r.kind kind ≡ true → w ≡ worth_in (weighed true path) r.path → w ≡ worth_of (weighed true path) kind r
    unfolding worth_of choose
    found_worth k e = rw k e

    pub get_hit : eqb r.kind kind ≡ true → w ≡ worth_in (weighed true path) r.path → (w ≡ 0 → ⊥) → get kind path (r ∷ rs) ≡ r.value ∷ get kind path rs
    unfolding choose
    get_hit k e n = get_step kind path r rs w h (found_worth k e) ∙ rw (ne_eqb w 0 n) refl

    pub get_miss : eqb r.kind kind ≡ true → w ≡ worth_in (weighed true path) r.path → w ≡ 0 → get kind path (r ∷ rs) ≡ get kind path rs
    unfolding choose
    get_miss k e z = get_step kind path r rs w h (found_worth k e) ∙ rw (eq-eqb w 0 z) refl

  pub get_other : eqb r.kind kind ≡ false → get kind path (r ∷ rs) ≡ get kind path rs
  unfolding get_in choose
  get_other k = rw k refl
