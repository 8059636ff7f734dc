-- One pass over the rows finds the best form. Assumes nothing.
use mathlib.Core.Path.{◌≡◌, refl, sym, ap, ◌∙◌}
use mathlib.Core.Bool.{Bool, true, false, ◌&&◌, ◌||◌, not}
use mathlib.Core.List.{List, [], ◌∷◌, ◌++◌, map, append-nil}
use Prim.Native.Nat.{ℕ, suc, ◌+◌, ◌-◌, ◌^◌, ◌≤◌, ◌<◌}
use native.Mathlib.Omega.{arith}
use lib.Dec.{eqb, ltb}
use lib.ListN.{length}
use borrow.Author.Tests.{le-ltb, lt-ltb, ne_eqb}
use Rattle.base.specs.Choose.{choose, choose_case, then_is, else_is}
use Rattle.base.specs.Tests.{both_ways, and_left, and_right, by_test}
use Rattle.base.specs.Bytes.{b, same, same_sound}
use Rattle.base.proofs.BytesLaws.{same_bytes}
use Rattle.options.specs.Settings.{Setting, found_at}
use Rattle.options.specs.Found.{Found}
use Rattle.path.specs.Forms.{filled, behind_dots, before_dots, suffixes, prefixes, sub_path_iter, among}
use Rattle.path.specs.PathMap.{get, get_in, first_with, find_best}
use Rattle.path.specs.Worth.{Form, weigh, global, weighed, worth_in, worth_of, improve, best_of, none_yet, found_of}
use Rattle.path.specs.declared.Best.{Best}
use Rattle.std.specs.Str.{bytes_eq}
use Rattle.path.proofs.FormLaws.{Falls, behind_falls, before_falls}

-- ---- worths fall, from below w on, and stay above 0
abbrev pub Below : ℕ → List Form → Type 0
Below w [] = 0 < w
Below w (f ∷ fs) = (f.worth < w) × Below f.worth fs

below_more : (v w : ℕ) (fs : List Form) → v ≤ w → Below v fs → Below w fs
below_more v w [] h d = omega arith
below_more v w (f ∷ fs) h d = (let l = d.0 in omega arith, d.1)

below_zero : (w : ℕ) (fs : List Form) → Below w fs → 0 < w
below_zero w [] d = d
below_zero w (f ∷ fs) d = let l = d.0 in omega arith

worth_below : (w : ℕ) (fs : List Form) (x : List ℕ) → Below w fs → worth_in fs x < w
unfolding worth_in
worth_below w [] x d = d
worth_below w (f ∷ fs) x d =
    choose_case (λ (v : ℕ). v < w) (same x f.form) (λ _. d.0)
    (λ _. let l = d.0 in let m : worth_in fs x < f.worth = worth_below f.worth fs x d.1 in omega arith)

of_below : (w : ℕ) (fs : List Form) (kind : ℕ) (r : Setting) → Below w fs → worth_of fs kind r < w
unfolding worth_of
of_below w fs kind r d = choose_case (λ (v : ℕ). v < w) (eqb r.kind kind) (λ _. worth_below w fs r.path d) (λ _. below_zero w fs d)

-- ---- the forms of a path
weigh_below : (k n w : ℕ) (xs : List (List ℕ)) (rest : List Form) → Falls n xs → k + n ≤ w → k + 1 ≤ w → Below (k + 1) rest → Below w (weigh k (filled xs) ++ rest)
unfolding filled
weigh_below k n w [] rest f h l d = below_more (k + 1) w rest l d
weigh_below k n w ([] ∷ xs) rest f h l d = weigh_below k 0 w xs rest f.1 (omega arith) l d
weigh_below k n w ((c ∷ x) ∷ xs) rest f h l d =
    let m = f.0 in
    (omega arith, weigh_below k (length (c ∷ x)) (k + length (c ∷ x)) xs rest f.1 (omega arith) (omega arith) d)

pub weighed_below : (all : Bool) (path : List ℕ) → length path < 2 ^ 63 → Below (2 ^ 64) (weighed all path)
unfolding weighed choose suffixes prefixes
weighed_below true path h = (
  omega arith,
  weigh_below (length path + 1) (length path) (2 ^ 64 - 1) (behind_dots path) (weigh 1 (filled (before_dots path)) ++ (global ∷ [])) (behind_falls path) (omega arith) (omega arith)
      (weigh_below 1 (length path) (length path + 1 + 1) (before_dots path) (global ∷ []) (before_falls path) (omega arith) (omega arith) (omega arith, omega arith)),
)
weighed_below false path h = (
  omega arith,
  weigh_below 1 (length path) (2 ^ 64 - 1) (before_dots path) [] (before_falls path) (omega arith) (omega arith) (omega arith),
)

abbrev pub forms_in : List Form → List (List ℕ)
forms_in fs = map (λ (f : Form). f.form) fs

forms_weigh : (k : ℕ) (xs : List (List ℕ)) (rest : List Form) → forms_in (weigh k xs ++ rest) ≡ xs ++ forms_in rest
forms_weigh k [] rest = refl
forms_weigh k (x ∷ xs) rest = ap (λ (l : List (List ℕ)). x ∷ l) (forms_weigh k xs rest)

-- with all forms they are those of `sub_path_iter`
pub all_forms : (path : List ℕ) → forms_in (weighed true path) ≡ sub_path_iter path
unfolding weighed sub_path_iter choose
all_forms path =
    ap (λ (l : List (List ℕ)). path ∷ l)
    (forms_weigh (length path + 1) (suffixes path) (weigh 1 (prefixes path) ++ (global ∷ []))
    ∙ ap (λ (l : List (List ℕ)). suffixes path ++ l) (forms_weigh 1 (prefixes path) (global ∷ [])))

pub few_forms : (path : List ℕ) → forms_in (weighed false path) ≡ path ∷ prefixes path
unfolding weighed choose
few_forms path = ap (λ (l : List (List ℕ)). path ∷ l) (forms_weigh 1 (prefixes path) [] ∙ append-nil (prefixes path))

-- ---- what a byte string is worth
pub weigh_worth : (k : ℕ) (fs : List (List ℕ)) (rest : List Form) (x : List ℕ) → worth_in (weigh k fs ++ rest) x ≡ choose (among x fs) (k + length x) (worth_in rest x)
unfolding worth_in among choose
weigh_worth k [] rest x = refl
weigh_worth k (f ∷ fs) rest x = by_test (λ (t : Bool). choose t (k + length f) (worth_in (weigh k fs ++ rest) x) ≡ choose (t || among x fs) (k + length x) (worth_in rest x)) (same x f) (λ q. ap (λ (l : List ℕ). k + length l) (sym (same_sound x f q))) (λ q. weigh_worth k fs rest x)

pub worth_is : (all : Bool) (path x : List ℕ) → worth_in (weighed all path) x ≡ choose (same x path) (2 ^ 64 - 1) (choose (among x (choose all (suffixes path) [])) (length path + 1 + length x) (choose (among x (prefixes path)) (1 + length x) (worth_in (choose all (global ∷ []) []) x)))
unfolding weighed worth_in
worth_is all path x =
    rw (weigh_worth (length path + 1) (choose all (suffixes path) []) (weigh 1 (prefixes path) ++ choose all (global ∷ []) []) x, weigh_worth 1 (prefixes path) (choose all (global ∷ []) []) x) refl

module _ (path x : List ℕ) where
  pub worth_itself : (all : Bool) → bytes_eq x path ≡ true → worth_in (weighed all path) x ≡ 2 ^ 64 - 1
  unfolding choose
  worth_itself all e = rw (worth_is all path x, ← same_bytes x path, e) refl

  module _ (e : bytes_eq x path ≡ false) where
    pub worth_few : worth_in (weighed false path) x ≡ choose (among x (prefixes path)) (1 + length x) 0
    unfolding choose worth_in among
    worth_few = rw (worth_is false path x, ← same_bytes x path, e) refl

    pub worth_all : worth_in (weighed true path) x ≡ choose (among x (suffixes path)) (length path + 1 + length x) (choose (among x (prefixes path)) (1 + length x) (choose (bytes_eq x (46 ∷ [])) 1 0))
    unfolding choose worth_in
    worth_all = rw (worth_is true path x, ← same_bytes x path, e, same_bytes x (46 ∷ [])) refl

pub ruleset worths = (worth_itself, worth_few, worth_all)

-- it is worth something if it is one of the forms
pub worth_among : (w : ℕ) (fs : List Form) (x : List ℕ) → Below w fs → not (eqb (worth_in fs x) 0) ≡ among x (forms_in fs)
unfolding worth_in among choose
worth_among w [] x d = refl
worth_among w (f ∷ fs) x d =
    by_test (λ (t : Bool). not (eqb (choose t f.worth (worth_in fs x)) 0) ≡ (t || among x (forms_in fs))) (same x f.form)
    (λ q. let z : 0 < f.worth = below_zero f.worth fs d.1 in rw (ne_eqb f.worth 0 (λ e. omega arith)) refl)
    (λ q. worth_among f.worth fs x d.1)

pub row_among : (w : ℕ) (fs : List Form) (kind : ℕ) (r : Setting) → Below w fs → not (eqb (worth_of fs kind r) 0) ≡ (eqb r.kind kind && among r.path (forms_in fs))
unfolding worth_of choose
row_among w fs kind r d =
    elim (eqb r.kind kind) as (λ t. not (eqb (choose t (worth_in fs r.path) 0) 0) ≡ (t && among r.path (forms_in fs)))
    [ true ↦ worth_among w fs r.path d | false ↦ refl ]

-- ---- one pass
improve_not : (b : Best) (i w : ℕ) → w ≤ b.worth → improve b i w ≡ b
unfolding improve choose
improve_not b i w h = rw (le-ltb b.worth w h) refl

improve_is : (b : Best) (i w : ℕ) → b.worth < w → improve b i w ≡ record { worth = w; number = i }
unfolding improve choose
improve_is b i w h = rw (lt-ltb b.worth w h) refl

improve_below : (b : Best) (i w v : ℕ) → b.worth < v → w < v → (improve b i w).worth < v
unfolding improve
improve_below b i w v h l = choose_case (λ (a : Best). a.worth < v) (ltb b.worth w) (λ _. l) (λ _. h)

best_step : (fs : List Form) (kind : ℕ) (b : Best) (i : ℕ) (r : Setting) (rs : List Setting) → best_of fs kind b i (r ∷ rs) ≡ best_of fs kind (improve b i (worth_of fs kind r)) (i + 1) rs
unfolding best_of
best_step fs kind b i r rs = refl

-- what no row betters is kept
kept : (fs : List Form) (kind : ℕ) (b : Best) → ((r : Setting) → worth_of fs kind r ≤ b.worth) → (i : ℕ) (rs : List Setting) → best_of fs kind b i rs ≡ b
unfolding best_of
kept fs kind b h i [] = refl
kept fs kind b h i (r ∷ rs) = rw (improve_not b i (worth_of fs kind r) (h r)) (kept fs kind b h (i + 1) rs)

abbrev has_form : ℕ → List ℕ → Setting → Bool
has_form kind form r = eqb r.kind kind && same r.path form

first_none : (kind : ℕ) (form : List ℕ) (i : ℕ) → (first_with kind form i []).found ≡ false
unfolding first_with
first_none kind form i = refl

first_hit : (kind : ℕ) (form : List ℕ) (i : ℕ) (r : Setting) (rs : List Setting) → has_form kind form r ≡ true → first_with kind form i (r ∷ rs) ≡ found_at i
unfolding first_with choose
first_hit kind form i r rs q = rw q refl

first_miss : (kind : ℕ) (form : List ℕ) (i : ℕ) (r : Setting) (rs : List Setting) → has_form kind form r ≡ false → first_with kind form i (r ∷ rs) ≡ first_with kind form (i + 1) rs
unfolding first_with choose
first_miss kind form i r rs q = rw q refl

worth_hit : (f : Form) (fs : List Form) (kind : ℕ) (r : Setting) → has_form kind f.form r ≡ true → worth_of (f ∷ fs) kind r ≡ f.worth
unfolding worth_of worth_in choose
worth_hit f fs kind r q =
    rw (and_left (eqb r.kind kind) (same r.path f.form) q, and_right (eqb r.kind kind) (same r.path f.form) q) refl

worth_miss : (f : Form) (fs : List Form) (kind : ℕ) (r : Setting) → has_form kind f.form r ≡ false → worth_of (f ∷ fs) kind r ≡ worth_of fs kind r
unfolding worth_of worth_in choose
worth_miss f fs kind r q =
    elim (eqb r.kind kind) as (λ t. (t && same r.path f.form) ≡ false → choose t (choose (same r.path f.form) f.worth (worth_in fs r.path)) 0 ≡ choose t (worth_in fs r.path) 0)
    [ true ↦ (λ p. rw p refl) | false ↦ (λ p. refl) ] q

-- a row with the best form, the first of them, is found
hit : (f : Form) (fs : List Form) (kind : ℕ) → Below f.worth fs → (b : Best) (i : ℕ) (rs : List Setting) → b.worth < f.worth → (first_with kind f.form i rs).found ≡ true → best_of (f ∷ fs) kind b i rs ≡ record { worth = f.worth; number = (first_with kind f.form i rs).number }
hit f fs kind d b i [] l e = both_ways e (first_none kind f.form i)
hit f fs kind d b i (r ∷ rs) l e =
    rw (best_step (f ∷ fs) kind b i r rs)
    (by_test (λ _. best_of (f ∷ fs) kind (improve b i (worth_of (f ∷ fs) kind r)) (i + 1) rs ≡ record { worth = f.worth; number = (first_with kind f.form i (r ∷ rs)).number })
    (has_form kind f.form r)
    (λ q.
    rw (worth_hit f fs kind r q, improve_is b i f.worth l, first_hit kind f.form i r rs q)
    (kept (f ∷ fs) kind (record { worth = f.worth; number = i }) (λ p. let m : worth_of (f ∷ fs) kind p < suc f.worth = of_below (suc f.worth) (f ∷ fs) kind p (omega arith, d) in omega arith) (i + 1) rs))
    (λ q.
    rw (worth_miss f fs kind r q, first_miss kind f.form i r rs q)
    (hit f fs kind d (improve b i (worth_of fs kind r)) (i + 1) rs
    (improve_below b i (worth_of fs kind r) f.worth l (of_below f.worth fs kind r d))
    (rw (first_miss kind f.form i r rs q) at e))))

-- where no row has the best form, the others tell
pass_by : (f : Form) (fs : List Form) (kind : ℕ) (b : Best) (i : ℕ) (rs : List Setting) → (first_with kind f.form i rs).found ≡ false → best_of (f ∷ fs) kind b i rs ≡ best_of fs kind b i rs
unfolding best_of
pass_by f fs kind b i [] e = refl
pass_by f fs kind b i (r ∷ rs) e =
    by_test (λ _. best_of (f ∷ fs) kind (improve b i (worth_of (f ∷ fs) kind r)) (i + 1) rs ≡ best_of fs kind (improve b i (worth_of fs kind r)) (i + 1) rs)
    (has_form kind f.form r)
    (λ q. both_ways (ap (λ (w : Found). w.found) (first_hit kind f.form i r rs q)) e)
    (λ q. rw (worth_miss f fs kind r q) (pass_by f fs kind (improve b i (worth_of fs kind r)) (i + 1) rs (rw (first_miss kind f.form i r rs q) at e)))

found_is : (w : Found) → w.found ≡ true → record { found = true; number = w.number } ≡ w
found_is w e = ap (λ (t : Bool). record { found = t; number = w.number }) (sym e)

-- the pass finds what `find_best` finds
pub found_best : (w : ℕ) (fs : List Form) (kind i : ℕ) (rs : List Setting) → Below w fs → found_of (best_of fs kind none_yet i rs) ≡ find_best kind (forms_in fs) i rs
unfolding find_best
found_best w [] kind i rs d = ap found_of (kept [] kind none_yet (λ r. let m : worth_of [] kind r < 1 = of_below 1 [] kind r (omega arith) in omega arith) i rs)
found_best w (f ∷ fs) kind i rs d =
    let first = first_with kind f.form i rs in
    let others = find_best kind (forms_in fs) i rs in
    by_test (λ _. found_of (best_of (f ∷ fs) kind none_yet i rs) ≡ choose first.found first others) first.found
    (λ q.
    let z : 0 < f.worth = below_zero f.worth fs d.1 in
    rw (hit f fs kind d.1 none_yet i rs z q, ne_eqb f.worth 0 (λ e. omega arith))
    (then_is first others (record { found = true; number = first.number }) first.found q (found_is first q)))
    (λ q.
    rw (pass_by f fs kind none_yet i rs q)
    (else_is first others (found_of (best_of fs kind none_yet i rs)) first.found q (found_best f.worth fs kind i rs d.1)))

-- ---- one row more
pub get_step : (kind : ℕ) (path : List ℕ) (r : Setting) (rs : List Setting) (w : ℕ) → length path < 2 ^ 63 → w ≡ worth_of (weighed true path) kind r → get kind path (r ∷ rs) ≡ choose (not (eqb w 0)) (r.value ∷ get kind path rs) (get kind path rs)
unfolding get_in
get_step kind path r rs w l e = rw (e, row_among (2 ^ 64) (weighed true path) kind r (weighed_below true path l), all_forms path) refl
