-- The lines of a list, one after the other. Assumes nothing.
use Rattle.std.proofs.Common.{◌≡◌, refl, ap, sym, ◌∙◌, ℕ, suc, ◌+◌, ◌-◌, ◌≤◌, ◌<◌, List, [], ◌∷◌, take, drop, length, Bool, true, false, not, cond, arith, Option, Some, None, Bor, MatchOption, unwrap_or, slice_range, ◌⊎◌, inl, inr}
use Rattle.std.proofs.Math.Dec.{eqb, ltb}
use Rattle.std.specs.List.{position_or_len}
use Rattle.std.proofs.lemmas.List.Sums.{prefix_len-le-length}
use lib.Seq.{take-length}
use lib.ListN.{length-drop, drop_of_length-le}
use native.Mathlib.Decide.{dec_lt}
use borrow.Author.Tests.{lt-ltb, le-ltb}
use Rattle.cases.specs.Lines.{push, lines}

push_length : (c : ℕ) (xs : List (List ℕ)) (n : ℕ) → length xs ≤ n → length (push c xs) ≤ n + 1
push_length c [] n h = omega arith
push_length c (x ∷ xs) n h = omega arith

-- each line takes a byte at least
pub no_more_lines : (s : List ℕ) → length (lines s) ≤ length s
unfolding lines
no_more_lines [] = omega arith
no_more_lines (c ∷ s) = on (eqb c 10) (no_more_lines s)
  where
    on : (t : Bool) → length (lines s) ≤ length s → length (cond t ([] ∷ lines s) (push c (lines s))) ≤ suc (length s)
    on true h = omega arith
    on false h = let k = push_length c (lines s) (length s) h in omega arith

pub no_line : (s : List ℕ) → length s ≡ 0 → lines s ≡ []
unfolding lines
no_line [] h = refl
no_line (c ∷ s) h = absurd (omega arith)

-- where the first line of some bytes ends
abbrev pub line_end : List ℕ → ℕ
line_end s = position_or_len (λ c. eqb c 10) s

-- one byte more in the first line
grown : (c : ℕ) (s : List ℕ) (n : ℕ) → lines s ≡ take n s ∷ lines (drop (n + 1) s) → push c (lines s) ≡ take (1 + n) (c ∷ s) ∷ lines (drop (1 + n + 1) (c ∷ s))
grown c s n h =
    let a : 1 + n ≡ suc n = omega arith in
    let b : 1 + n + 1 ≡ suc (n + 1) = omega arith in
    rw (b, a) (ap (push c) h)

-- the first line, and what is left behind it
first_line : (c : ℕ) (s : List ℕ) → lines (c ∷ s) ≡ take (line_end (c ∷ s)) (c ∷ s) ∷ lines (drop (line_end (c ∷ s) + 1) (c ∷ s))
unfolding lines
first_line c [] = on (eqb c 10)
  where
    on : (t : Bool) → cond t ([] ∷ []) ((c ∷ []) ∷ []) ≡ take (cond (not t) 1 0) (c ∷ []) ∷ lines (drop (cond (not t) 1 0 + 1) (c ∷ []))
    on true = refl
    on false = refl
first_line c (d ∷ u) = on (eqb c 10) (first_line d u)
  where
    on : (t : Bool) → lines (d ∷ u) ≡ take (line_end (d ∷ u)) (d ∷ u) ∷ lines (drop (line_end (d ∷ u) + 1) (d ∷ u)) → cond t ([] ∷ lines (d ∷ u)) (push c (lines (d ∷ u))) ≡ take (cond (not t) (1 + line_end (d ∷ u)) 0) (c ∷ (d ∷ u)) ∷ lines (drop (cond (not t) (1 + line_end (d ∷ u)) 0 + 1) (c ∷ (d ∷ u)))
    on true h = refl
    on false h = grown c (d ∷ u) (line_end (d ∷ u)) h

-- as the code looks for it
pub end_found : (s : List ℕ) (r : Option ℕ) → r ≡ cond (ltb (line_end s) (length s)) (Some (line_end s)) None → unwrap_or r (length s) ≡ line_end s
end_found s r q = rw q (on (line_end s) (dec_lt (line_end s) (length s)) (prefix_len-le-length _ s))
  where
    on : (p : ℕ) → Dec (p < length s) → p ≤ length s → unwrap_or (cond (ltb p (length s)) (Some p) None) (length s) ≡ p
    on p (yes h) m = rw (lt-ltb p (length s) h) refl
    on p (no h) m = rw (le-ltb p (length s) (omega arith)) (omega arith)

-- the next line, where it ends at e and x is left behind it
pub next_line : (s : List ℕ) → 0 < length s → (e : ℕ) → e ≡ line_end s → (x : List ℕ) → x ≡ drop (e + 1) s → lines s ≡ take e s ∷ lines x
next_line [] h e p x q = absurd (omega arith)
next_line (c ∷ s) h e p x q = rw (q, p) (first_line c s)

-- what `get` gives behind the line's end
pub rest_behind : (s : List ℕ) (n : ℕ) (d : Bor (List ℕ)) → d.now ≡ [] → (o : Option (Bor (List ℕ))) → MatchOption o ((length s < n) ⊎ (length s < length s)) (λ x. (n ≤ length s) × (length s ≤ length s) × (x.now ≡ slice_range s n (length s)) × (length x.now + n ≡ length s)) → (unwrap_or o d).now ≡ drop n s
rest_behind s n d z None (inl h) = z ∙ sym (drop_of_length-le s {i = n} (omega arith))
rest_behind s n d z None (inr h) = absurd (omega arith)
rest_behind s n d z (Some x) m =
    let k : length s - n ≡ length (drop n s) = sym (length-drop n s) in
    m.2 ∙ rw k (take-length (drop n s))
