-- Reading step by step what was written item by item gives the items again. Assumes nothing.
use Rattle.std.specs.Prelude.{◌≡◌, refl, true, List, [], ◌∷◌, ◌++◌, ℕ, ◌+◌, ◌-◌, ◌<◌, length, get_or, drop}
use Rattle.std.proofs.Common.{sym, ap, ◌∙◌, append-nil, append_assoc, add-zero, arith, length-append, length-drop, get_or-drop}
use Rattle.std.proofs.Math.Seq.{drop-append_seam}
use Rattle.base.specs.Each.{each, All}
use Rattle.base.specs.Steps.{Step, item, Run, ended, ◌then◌, run, whole, items, Forward, run_end, run_item}

-- ---- the bytes of s where p stands in it
module _ (s : List ℕ) (at : ℕ) (p : List ℕ) (here : drop at s ≡ p) where
  pub byte_there : (k : ℕ) → get_or s (at + k) 0 ≡ get_or p k 0
  byte_there k = sym (get_or-drop at s k 0) ∙ ap (λ (l : List ℕ). get_or l k 0) here

  pub first_there : get_or s at 0 ≡ get_or p 0 0
  first_there = ap (λ (k : ℕ). get_or s k 0) (sym (add-zero at)) ∙ byte_there 0

  pub starts : 0 < length p → at < length s
  starts h = let e : length s - at ≡ length p = sym (length-drop at s) ∙ ap length here in omega arith

-- ---- a run of items that ends well
abbrev pub run_of : List ℕ → Run
run_of [] = ended
run_of (x ∷ xs) = x then run_of xs

pub whole_run : (xs : List ℕ) → whole (run_of xs) ≡ true
whole_run [] = refl
whole_run (x ∷ xs) = whole_run xs

pub items_run : (xs : List ℕ) → items (run_of xs) ≡ xs
items_run [] = refl
items_run (x ∷ xs) = ap (λ (l : List ℕ). x ∷ l) (items_run xs)

-- ---- f is the step over a list, g x the text of the item x, for items that P allows
module _ (f : List ℕ → ℕ → Step) (g : ℕ → List ℕ) (P : ℕ → Type 0) (forward : (s : List ℕ) → Forward (f s)) (there : (s : List ℕ) (at x : ℕ) (q : List ℕ) → P x → drop at s ≡ g x ++ q → f s at ≡ item x (at + length (g x))) where
  behind : (p xs : List ℕ) → All P xs → run (f (p ++ each g xs)) (length (p ++ each g xs)) (length p) ≡ run_of xs
  behind p [] h = run_end (f (p ++ [])) (length (p ++ [])) (length p) (rw append-nil (omega arith))
  behind p (x ∷ xs) h =
      let s : List ℕ = p ++ (g x ++ each g xs) in
      let next : ℕ = length p + length (g x) in
      let e : f s (length p) ≡ item x next = there s (length p) x (each g xs) h.0 (drop-append_seam p (g x ++ each g xs)) in
      let l : length p < next = forward s (length p) x next e in
      let w : length p < length s = omega (arith, length-append p (g x ++ each g xs), length-append (g x) (each g xs)) in
      run_item (f s) (length s) (forward s) (length p) x next w e
      ∙ ap (λ (r : Run). x then r)
      (ap (λ (k : ℕ). run (f s) (length s) k) (sym (length-append p (g x)))
      ∙ ap (λ (l : List ℕ). run (f l) (length l) (length (p ++ g x))) (sym (append_assoc p (g x) (each g xs)))
      ∙ behind (p ++ g x) xs h.1)

  pub written_back : (xs : List ℕ) → All P xs → run (f (each g xs)) (length (each g xs)) 0 ≡ run_of xs
  written_back xs h = behind [] xs h
