-- Where a text that a `::` follows is cut. Assumes nothing.
use mathlib.Core.Path.{◌≡◌, refl, sym, ap, ◌∙◌}
use mathlib.Core.Bool.{Bool, true, false, ◌&&◌, and-false}
use mathlib.Core.List.{List, [], ◌∷◌, ◌++◌}
use Prim.Native.Nat.{ℕ, zero, suc, ◌+◌, ◌-◌, ◌≤◌, ◌<◌}
use native.Mathlib.Omega.{arith}
use lib.Dec.{eqb}
use lib.ListN.{length, take, drop, length-drop, drop_of_length-le}
use lib.Seq.{take_all, drop-drop, drop-append-add}
use Rattle.base.specs.Choose.{choose, choose_case}
use Rattle.base.specs.Tests.{both_ways, and_left, and_right, by_test}
use borrow.Author.Tests.{eqb-true}
use Rattle.std.specs.Str.{bytes_eq}
use Rattle.base.specs.Bytes.{b, same, same_sound}
use Rattle.base.proofs.BytesLaws.{same_bytes}
use Rattle.split.specs.Split.{begins, push, split_behind, split}
use Rattle.rust_paths.specs.Parts.{cut, is_tail}
use Rattle.split.proofs.SplitLaws.{begins_starts, split_is}

-- all of p, or all but its last byte
pub record Cut (p : List ℕ) (n : ℕ) : Type 0 where
  pub most : length p ≤ n + 1
  pub all : n ≤ length p

cut_within : (p : List ℕ) → Cut p (cut p)
unfolding cut
cut_within [] = record { most = omega arith; all = omega arith }
cut_within (c ∷ []) = choose_case (Cut (c ∷ [])) (eqb c 58) (λ _. record { most = omega arith; all = omega arith }) (λ _. record { most = omega arith; all = omega arith })
cut_within (c ∷ (d ∷ s)) =
    let h : Cut s (cut s) = cut_within s in
    let k : Cut (d ∷ s) (cut (d ∷ s)) = cut_within (d ∷ s) in
    choose_case (Cut (c ∷ (d ∷ s))) (begins (b "::") (c ∷ (d ∷ s)))
    (λ _. let l = h.most in let m = h.all in record { most = omega arith; all = omega arith })
    (λ _. let l = k.most in let m = k.all in record { most = omega arith; all = omega arith })

pub cut_is : (p : List ℕ) (n : ℕ) → n ≡ cut p → Cut p n
cut_is p n e = rw e (cut_within p)

cut_pair : (c d : ℕ) (s : List ℕ) → begins (b "::") (c ∷ (d ∷ s)) ≡ true → cut (c ∷ (d ∷ s)) ≡ suc (suc (cut s))
unfolding cut choose
cut_pair c d s h = rw h refl

cut_one : (c d : ℕ) (s : List ℕ) → begins (b "::") (c ∷ (d ∷ s)) ≡ false → cut (c ∷ (d ∷ s)) ≡ suc (cut (d ∷ s))
unfolding cut choose
cut_one c d s h = rw h refl

-- ---- byte by byte
cut_alone : (s : List ℕ) → same s (b ":") ≡ true → cut s ≡ 0
unfolding cut choose
cut_alone s h = rw (same_sound s (b ":") h) refl

no_room : (c : ℕ) → begins (b "::") (c ∷ []) ≡ false
unfolding begins
no_room c = and-false (eqb c 58)

last_step : (c : ℕ) → same (c ∷ []) (b ":") ≡ false → cut (c ∷ []) ≡ 1 + cut []
unfolding cut same choose
last_step c h = by_test (λ (t : Bool). (t && true) ≡ false → ◌≡◌ {A = ℕ} (choose t 0 1) 1) (eqb c 58) (λ _. λ r. both_ways refl r) (λ _. λ _. refl) h

cut_step : (s : List ℕ) → 0 < length s → same s (b ":") ≡ false → cut s ≡ choose (begins (b "::") s) 2 1 + cut (drop (choose (begins (b "::") s) 2 1) s)
unfolding choose
cut_step [] l h = absurd (omega arith)
cut_step (c ∷ []) l h = rw (no_room c) (last_step c h)
cut_step (c ∷ (d ∷ s)) l h =
    by_test (λ (t : Bool). begins (b "::") (c ∷ (d ∷ s)) ≡ t → cut (c ∷ (d ∷ s)) ≡ choose t 2 1 + cut (drop (choose t 2 1) (c ∷ (d ∷ s)))) (begins (b "::") (c ∷ (d ∷ s)))
    (λ _. λ q. cut_pair c d s q ∙ omega arith) (λ _. λ q. cut_one c d s q ∙ omega arith) refl

module _ (p : List ℕ) (i : ℕ) where
  pub cut_end : length p ≤ i → i + cut (drop i p) ≡ i
  unfolding cut
  cut_end h = rw (drop_of_length-le p {i = i} h) (omega arith)

  module _ (h : i < length p) (a : Bool) (q : a ≡ same (take (length p - i) (drop i p)) (b ":")) where
    whole : take (length p - i) (drop i p) ≡ drop i p
    whole = take_all (length p - i) (drop i p) (rw length-drop (omega arith))

    stops : a ≡ true → i + cut (drop i p) ≡ i
    stops t = rw (cut_alone (drop i p) (sym (rw whole at q) ∙ t)) (omega arith)

    goes : a ≡ false → (r : Bool) → r ≡ begins (b "::") (drop i p) → (n : ℕ) → n ≡ choose r 2 1 → i + n + cut (drop (i + n) p) ≡ i + cut (drop i p)
    goes t r e n k =
        let l : length (drop i p) ≡ length p - i = length-drop i p in
        let s : cut (drop i p) ≡ n + cut (drop n (drop i p)) = rw (k, e) (cut_step (drop i p) (omega arith) (sym (rw whole at q) ∙ t)) in
        rw (← drop-drop) (omega arith)

  -- as the code tests what is left
  module _ (h : i < length p) where
    pub cut_stops : bytes_eq (take (length p - i) (drop i p)) (58 ∷ []) ≡ true → i + cut (drop i p) ≡ i
    cut_stops e = stops h _ (same_bytes (take (length p - i) (drop i p)) (58 ∷ [])) e

    module _ (f : bytes_eq (take (length p - i) (drop i p)) (58 ∷ []) ≡ false) where
      here : bytes_eq (58 ∷ 58 ∷ []) (take 2 (take (length p - i) (drop i p))) ≡ begins (b "::") (drop i p)
      here = rw (take_all (length p - i) (drop i p) (rw length-drop (omega arith))) (sym (begins_starts (58 ∷ 58 ∷ []) (drop i p)))

      pub cut_past_two : bytes_eq (58 ∷ 58 ∷ []) (take 2 (take (length p - i) (drop i p))) ≡ true → i + 2 + cut (drop (i + 2) p) ≡ i + cut (drop i p)
      unfolding choose
      cut_past_two e = goes h _ (same_bytes (take (length p - i) (drop i p)) (58 ∷ [])) f true (sym e ∙ here) 2 refl

      pub cut_past_one : bytes_eq (58 ∷ 58 ∷ []) (take 2 (take (length p - i) (drop i p))) ≡ false → i + 1 + cut (drop (i + 1) p) ≡ i + cut (drop i p)
      unfolding choose
      cut_past_one e = goes h _ (same_bytes (take (length p - i) (drop i p)) (58 ∷ [])) f false (sym e ∙ here) 1 refl

pub ruleset cuts_on = (cut_end, cut_stops, cut_past_two, cut_past_one)

-- ---- the parts on both sides
push_append : (c : ℕ) (s : List ℕ) (ys : List (List ℕ)) → push c (split (b "::") s ++ ys) ≡ push c (split (b "::") s) ++ ys
push_append c s ys = rw (split_is (b "::") s (omega arith)) refl

step_pair : (s : List ℕ) → split (b "::") (58 ∷ (58 ∷ s)) ≡ [] ∷ split (b "::") s
unfolding split split_behind begins choose
step_pair s = refl

step_one : (c : ℕ) (s : List ℕ) → begins (b "::") (c ∷ s) ≡ false → split (b "::") (c ∷ s) ≡ push c (split (b "::") s)
unfolding split split_behind choose
step_one c s h = rw h refl

-- the bytes of p before a place in it begin with a separator only where p does
front_one : (c d : ℕ) (s : List ℕ) (k : ℕ) → begins (b "::") (c ∷ (d ∷ s)) ≡ false → begins (b "::") (c ∷ take k (d ∷ s)) ≡ false
unfolding begins
front_one c d s zero h = and-false (eqb c 58)
front_one c d s (suc k) h = h

-- the front of p, and what follows the separator
unfoldable cuts : List ℕ → List ℕ → List (List ℕ)
cuts p w = split (b "::") (take (cut p) p) ++ split (b "::") (drop (suc (suc (cut p))) (p ++ (58 ∷ (58 ∷ w))))

cuts_nil : (w : List ℕ) → split (b "::") (58 ∷ (58 ∷ w)) ≡ cuts [] w
unfolding cuts cut split split_behind begins choose
cuts_nil w = refl

cuts_one : (c : ℕ) (w : List ℕ) → split (b "::") (c ∷ (58 ∷ (58 ∷ w))) ≡ cuts (c ∷ []) w
unfolding cuts cut split split_behind begins choose
cuts_one c w = by_test (λ (t : Bool). choose (t && true) ([] ∷ split (b "::") (58 ∷ w)) (push c (split (b "::") (58 ∷ (58 ∷ w)))) ≡ split (b "::") (take (choose t 0 1) (c ∷ [])) ++ split (b "::") (drop (suc (suc (choose t 0 1))) (c ∷ (58 ∷ (58 ∷ w))))) (eqb c 58) (λ _. refl) (λ q. rw (and-false (eqb c 58)) refl)

cuts_pair : (s w : List ℕ) → split (b "::") (s ++ (58 ∷ (58 ∷ w))) ≡ cuts s w → split (b "::") (58 ∷ (58 ∷ (s ++ (58 ∷ (58 ∷ w))))) ≡ cuts (58 ∷ (58 ∷ s)) w
unfolding cuts cut begins choose
cuts_pair s w e = rw (step_pair (s ++ (58 ∷ (58 ∷ w))), step_pair (take (cut s) s), e) refl

pair_is : (c d : ℕ) (s : List ℕ) → begins (b "::") (c ∷ (d ∷ s)) ≡ true → (58 ≡ c) × (58 ≡ d)
unfolding begins
pair_is c d s h = (sym (eqb-true c 58 (and_left (eqb c 58) (eqb d 58 && true) h)), sym (eqb-true d 58 (and_left (eqb d 58) true (and_right (eqb c 58) (eqb d 58 && true) h))))

no_pair : (c d : ℕ) (s t : List ℕ) → begins (b "::") (c ∷ (d ∷ s)) ≡ false → begins (b "::") (c ∷ (d ∷ t)) ≡ false
unfolding begins
no_pair c d s t h = h

cuts_other : (c d : ℕ) (s w : List ℕ) → begins (b "::") (c ∷ (d ∷ s)) ≡ false → split (b "::") (d ∷ (s ++ (58 ∷ (58 ∷ w)))) ≡ cuts (d ∷ s) w → split (b "::") (c ∷ (d ∷ (s ++ (58 ∷ (58 ∷ w))))) ≡ cuts (c ∷ (d ∷ s)) w
unfolding cuts
cuts_other c d s w h e =
    rw (cut_one c d s h, step_one c (take (cut (d ∷ s)) (d ∷ s)) (front_one c d s (cut (d ∷ s)) h), step_one c (d ∷ (s ++ (58 ∷ (58 ∷ w)))) (no_pair c d s (s ++ (58 ∷ (58 ∷ w))) h), e)
    (push_append c (take (cut (d ∷ s)) (d ∷ s)) (split (b "::") (drop (suc (suc (cut (d ∷ s)))) (d ∷ (s ++ (58 ∷ (58 ∷ w)))))))

cuts_are : (p w : List ℕ) → split (b "::") (p ++ (58 ∷ (58 ∷ w))) ≡ cuts p w
cuts_are [] w = cuts_nil w
cuts_are (c ∷ []) w = cuts_one c w
cuts_are (c ∷ (d ∷ s)) w =
    by_test (λ _. split (b "::") (c ∷ (d ∷ (s ++ (58 ∷ (58 ∷ w))))) ≡ cuts (c ∷ (d ∷ s)) w) (begins (b "::") (c ∷ (d ∷ s)))
    (λ h. rw (← (pair_is c d s h).0, ← (pair_is c d s h).1) (cuts_pair s w (cuts_are s w)))
    (λ h. cuts_other c d s w h (cuts_are (d ∷ s) w))

-- q begins with a `::`: where the parts of p and q are cut, for n bytes of p before the separator
tail_is : (q : List ℕ) → is_tail q ≡ true → (length q ≡ 0 → ⊥) → q ≡ 58 ∷ (58 ∷ drop 2 q)
unfolding is_tail
tail_is [] h n = absurd (n refl)
tail_is (c ∷ []) h n = both_ways h (no_room c)
tail_is (c ∷ (d ∷ q)) h n = rw (← (pair_is c d q h).0, ← (pair_is c d q h).1) refl

module _ (p q : List ℕ) (n : ℕ) (e : n ≡ cut p) (h : is_tail q ≡ true) (f : length q ≡ 0 → ⊥) where
  pub two_bytes : 2 ≤ length q
  two_bytes = let l : length q ≡ length (58 ∷ (58 ∷ drop 2 q)) = ap length (tail_is q h f) in omega arith

  behind : drop (suc (suc n)) (p ++ q) ≡ drop (2 - (length p - n)) q
  behind =
      let k : Cut p n = cut_is p n e in
      let m = k.most in
      let a = k.all in
      let l : suc (suc n) ≡ length p + (2 - (length p - n)) = omega arith in
      rw l (drop-append-add p q (2 - (length p - n)))

  pub cut_split : split (b "::") (p ++ q) ≡ split (b "::") (take n p) ++ split (b "::") (drop (2 - (length p - n)) q)
  unfolding cuts
  cut_split =
      rw (← behind, e) (rw (tail_is q h f) (cuts_are p (drop 2 q)))
