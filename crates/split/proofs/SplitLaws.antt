-- Laws of `split`: its first part, and what is left behind the separator. Assumes nothing.
use mathlib.Core.Path.{◌≡◌, refl, sym, ap, ◌∙◌}
use mathlib.Core.Bool.{Bool, true, false, ◌&&◌}
use mathlib.Core.List.{List, [], ◌∷◌}
use Prim.Native.Nat.{ℕ, zero, suc, ◌+◌, ◌-◌, ◌≤◌, ◌<◌}
use native.Mathlib.Omega.{arith}
use native.Mathlib.Numerals.{add-one}
use native.Mathlib.Decide.{dec_lt}
use borrow.Author.Tests.{lt-ltb, le-ltb}
use lib.Dec.{eqb, ltb}
use lib.ListN.{length, take, drop, get_or, length-drop, drop_of_length-le}
use lib.Seq.{drop-cons, drop-drop, take-length}
use Rattle.base.specs.Choose.{choose, choose_case}
use Rattle.base.specs.Tests.{both_ways, and_right, by_test}
use Rattle.base.proofs.BytesLaws.{same_bytes, eqb_turned}
use Rattle.std.specs.Str.{bytes_eq}
use Rattle.std.specs.List.{list_any}
use Rattle.path.specs.Forms.{among}
use Rattle.split.specs.Split.{begins, push, split_behind, split, first_part, parts_left}
use Rattle.std.proofs.Common.{Option, Some, None, Bor, inl, inr, ◌⊎◌, cond, unwrap_or}
use Rattle.std.proofs.lemmas.List.Recursion.{is_position_or_len}
use Rattle.std.proofs.lemmas.List.Sums.{prefix_len-le-length}
use Rattle.std.specs.Option.{MatchOption, option_copied}
use Rattle.std.specs.List.{slice_range, position_or_len}

-- ---- does the separator stand here?
pub begins_starts : (sep s : List ℕ) → begins sep s ≡ bytes_eq sep (take (length sep) s)
unfolding begins
begins_starts [] s = refl
begins_starts (x ∷ sep) [] = refl
begins_starts (x ∷ sep) (c ∷ s) = rw (eqb_turned c x) (ap (λ (t : Bool). eqb x c && t) (begins_starts sep s))

begins_room : (sep s : List ℕ) → begins sep s ≡ true → length sep ≤ length s
unfolding begins
begins_room [] s h = omega arith
begins_room (x ∷ sep) [] h = both_ways h refl
begins_room (x ∷ sep) (c ∷ s) h = let l : length sep ≤ length s = begins_room sep s (and_right (eqb c x) (begins sep s) h) in omega arith

-- ---- the first part
module _ (s sep : List ℕ) (i : ℕ) where
  pub part_stops : i < length s → begins sep (drop i s) ≡ true → i + first_part sep (drop i s) ≡ i
  unfolding first_part choose
  part_stops h e = rw (drop-cons s i 0 h) (rw (rw (drop-cons s i 0 h) at e) (omega arith))

  pub part_goes : i < length s → begins sep (drop i s) ≡ false → i + first_part sep (drop i s) ≡ i + 1 + first_part sep (drop (i + 1) s)
  unfolding first_part choose
  part_goes h e = rw (drop-cons s i 0 h) (rw (rw (drop-cons s i 0 h) at e, add-one) (omega arith))

  pub part_ends : length s ≤ i → i + first_part sep (drop i s) ≡ i
  unfolding first_part
  part_ends h = rw (drop_of_length-le s {i = i} h) (omega arith)

-- ---- the parts, one by one
skipped : (sep : List ℕ) (n : ℕ) (s : List ℕ) → split_behind sep n s ≡ split sep (drop n s)
unfolding split split_behind
skipped sep zero s = refl
skipped sep (suc n) [] = refl
skipped sep (suc n) (c ∷ s) = skipped sep n s

ltb_suc : (m n : ℕ) → ltb m n ≡ ltb (suc m) (suc n)
ltb_suc m n = on (dec_lt m n)
  where
    on : Dec (m < n) → ltb m n ≡ ltb (suc m) (suc n)
    on (yes h) = lt-ltb m n h ∙ sym (lt-ltb (suc m) (suc n) (omega arith))
    on (no h) = le-ltb m n (omega arith) ∙ sym (le-ltb (suc m) (suc n) (omega arith))

-- what follows a first part of n bytes
unfoldable pub parts_behind : List ℕ → ℕ → List ℕ → List (List ℕ)
parts_behind sep n s = choose (ltb n (length s)) (split sep (drop (n + length sep) s)) []

behind_cons : (sep : List ℕ) (n c : ℕ) (s : List ℕ) → parts_behind sep n s ≡ parts_behind sep (suc n) (c ∷ s)
unfolding parts_behind
behind_cons sep n c s =
    let e : suc n + length sep ≡ suc (n + length sep) = omega arith in
    rw (e, ← ltb_suc n (length s)) refl

behind_none : (sep : List ℕ) (c : ℕ) (s : List ℕ) → 0 < length sep → parts_behind sep 0 (c ∷ s) ≡ split sep (drop (length sep - 1) s)
unfolding parts_behind choose
behind_none sep c s h =
    let e : 0 + length sep ≡ suc (length sep - 1) = omega arith in
    rw (e, lt-ltb 0 (suc (length s)) (omega arith)) refl

split_cons : (sep : List ℕ) (c : ℕ) (s : List ℕ) → split sep (c ∷ s) ≡ choose (begins sep (c ∷ s)) ([] ∷ split sep (drop (length sep - 1) s)) (push c (split sep s))
unfolding split split_behind
split_cons sep c s = rw (skipped sep (length sep - 1) s) refl

split_nil : (sep : List ℕ) → split sep [] ≡ take (first_part sep []) [] ∷ parts_behind sep (first_part sep []) []
unfolding split split_behind first_part parts_behind choose
split_nil sep = refl

first_cons : (sep : List ℕ) (c : ℕ) (s : List ℕ) → first_part sep (c ∷ s) ≡ choose (begins sep (c ∷ s)) 0 (suc (first_part sep s))
unfolding first_part
first_cons sep c s = refl

pub split_is : (sep s : List ℕ) → 0 < length sep → split sep s ≡ take (first_part sep s) s ∷ parts_behind sep (first_part sep s) s
unfolding choose
split_is sep [] h = split_nil sep
split_is sep (c ∷ s) h =
    rw (split_cons sep c s, first_cons sep c s)
    (by_test (λ (t : Bool). choose t ([] ∷ split sep (drop (length sep - 1) s)) (push c (split sep s)) ≡ take (choose t 0 (suc (first_part sep s))) (c ∷ s) ∷ parts_behind sep (choose t 0 (suc (first_part sep s))) (c ∷ s))
    (begins sep (c ∷ s))
    (λ _. ap (λ (l : List (List ℕ)). [] ∷ l) (sym (behind_none sep c s h)))
    (λ _. rw (split_is sep s h) (ap (λ (l : List (List ℕ)). (c ∷ take (first_part sep s) s) ∷ l) (behind_cons sep (first_part sep s) c s))))

-- ---- where a part ends, as the code has it: e is the place behind the part that starts at `from`
part_within : (sep s : List ℕ) → first_part sep s ≤ length s
unfolding first_part
part_within sep [] = omega arith
part_within sep (c ∷ s) = choose_case (λ (n : ℕ). n ≤ suc (length s)) (begins sep (c ∷ s)) (λ _. omega arith) (λ _. let l : first_part sep s ≤ length s = part_within sep s in omega arith)

sep_fits : (sep s : List ℕ) → first_part sep s < length s → first_part sep s + length sep ≤ length s
unfolding first_part choose
sep_fits sep [] h = absurd (omega arith)
sep_fits sep (c ∷ s) h =
    by_test (λ (t : Bool). choose t 0 (suc (first_part sep s)) < suc (length s) → choose t 0 (suc (first_part sep s)) + length sep ≤ suc (length s)) (begins sep (c ∷ s))
    (λ q. λ _. let l : length sep ≤ suc (length s) = begins_room sep (c ∷ s) q in omega arith)
    (λ _. λ l. let m : first_part sep s + length sep ≤ length s = sep_fits sep s (omega arith) in omega arith) h

-- the part that starts at `from` ends at e
pub record Parted (sep s : List ℕ) (from e : ℕ) : Type 0 where
  pub starts : from ≤ length s
  pub ends : e ≡ from + first_part sep (drop from s)

pub record Spans (s : List ℕ) (from e : ℕ) : Type 0 where
  pub order : from ≤ e
  pub within : e ≤ length s

module _ (sep s : List ℕ) (from e : ℕ) (z : 0 < length sep) (d : Parted sep s from e) where
  pub spans : Spans s from e
  spans =
      let l : first_part sep (drop from s) ≤ length (drop from s) = part_within sep (drop from s) in
      let m : length (drop from s) ≡ length s - from = length-drop from s in
      record { order = omega arith; within = omega arith }

  -- the separator behind the part
  pub sep_within : e < length s → e + length sep ≤ length s
  sep_within l =
      let m : length (drop from s) ≡ length s - from = length-drop from s in
      let k : first_part sep (drop from s) + length sep ≤ length (drop from s) = sep_fits sep (drop from s) (omega arith) in
      omega arith

  -- the next part
  pub parted_next : e < length s → (e' : ℕ) → e' ≡ e + length sep + first_part sep (drop (e + length sep) s) → Parted sep s (e + length sep) e'
  parted_next l e' q = record { starts = sep_within l; ends = q }

  front : take (first_part sep (drop from s)) (drop from s) ≡ take (e - from) (drop from s)
  front = let r : e - from ≡ first_part sep (drop from s) = omega arith in rw r refl

  pub parts_last : length s ≤ e → split sep (drop from s) ≡ take (e - from) (drop from s) ∷ []
  unfolding parts_behind choose
  parts_last l =
      let m : length (drop from s) ≡ length s - from = length-drop from s in
      split_is sep (drop from s) z ∙ rw (front, le-ltb (first_part sep (drop from s)) (length (drop from s)) (omega arith)) refl

  pub parts_more : e < length s → split sep (drop from s) ≡ take (e - from) (drop from s) ∷ split sep (drop (e + length sep) s)
  unfolding parts_behind choose
  parts_more l =
      let m : length (drop from s) ≡ length s - from = length-drop from s in
      let k : from + (first_part sep (drop from s) + length sep) ≡ e + length sep = omega arith in
      split_is sep (drop from s) z ∙ rw (front, lt-ltb (first_part sep (drop from s)) (length (drop from s)) (omega arith), drop-drop, k) refl

-- ---- the iterator
module _ (s sep : List ℕ) (i : ℕ) where
  starts_here : bytes_eq sep (take (length sep) (take (length s - i) (drop i s))) ≡ begins sep (drop i s)
  starts_here = let k : length s - i ≡ length (drop i s) = sym (length-drop i s) in rw (k, take-length (drop i s)) (sym (begins_starts sep (drop i s)))

  pub stops_here : i < length s → bytes_eq sep (take (length sep) (take (length s - i) (drop i s))) ≡ true → i + first_part sep (drop i s) ≡ i
  stops_here h e = part_stops s sep i h (sym starts_here ∙ e)

  pub goes_on : i < length s → bytes_eq sep (take (length sep) (take (length s - i) (drop i s))) ≡ false → i + first_part sep (drop i s) ≡ i + 1 + first_part sep (drop (i + 1) s)
  goes_on h e = part_goes s sep i h (sym starts_here ∙ e)

-- a separator of one byte
pub byte_end : (x : ℕ) (s : List ℕ) → first_part (x ∷ []) s ≡ position_or_len (λ c. eqb c x) s
unfolding first_part begins choose
byte_end x = is_position_or_len (first_part (x ∷ [])) (λ c. eqb c x) refl (λ c s. here (eqb c x) (first_part (x ∷ []) s))
  where
    here : (t : Bool) (n : ℕ) → choose (t && true) 0 (suc n) ≡ cond t 0 (1 + n)
    here true n = refl
    here false n = omega arith

-- as the code looks for it
pub byte_found : (sep s : List ℕ) → 1 ≤ length sep → length sep < 2 → (r : Option ℕ) → r ≡ cond (ltb (position_or_len (λ c. eqb c (get_or sep 0 0)) s) (length s)) (Some (position_or_len (λ c. eqb c (get_or sep 0 0)) s)) None → (n : ℕ) → n ≡ unwrap_or r (length s) → n ≡ first_part sep s
byte_found [] s h l r e n q = absurd (omega arith)
byte_found (x ∷ (y ∷ sep)) s h l r e n q = absurd (omega arith)
byte_found (x ∷ []) s h l r e n q =
    let p = position_or_len (λ c. eqb c x) s in
    q ∙ rw e (on p (dec_lt p (length s)) (prefix_len-le-length _ s)) ∙ sym (byte_end x s)
  where
    on : (p : ℕ) → Dec (p < length s) → p ≤ length s → unwrap_or (cond (ltb p (length s)) (Some p) None) (length s) ≡ p
    on p (yes h) m = rw (lt-ltb p (length s) h) refl
    on p (no h) m = rw (le-ltb p (length s) (omega arith)) (omega arith)

pub ruleset part_ends_here = (stops_here, goes_on, part_ends)

push_length : (c : ℕ) (xs : List (List ℕ)) (n : ℕ) → length xs ≤ n + 1 → length (push c xs) ≤ n + 1
push_length c [] n h = omega arith
push_length c (x ∷ xs) n h = h

behind_length : (sep : List ℕ) (n : ℕ) (s : List ℕ) → length (split_behind sep n s) ≤ length s + 1
unfolding split_behind
behind_length sep n [] = omega arith
behind_length sep (suc n) (c ∷ s) = let l = behind_length sep n s in omega arith
behind_length sep zero (c ∷ s) =
    choose_case (λ (xs : List (List ℕ)). length xs ≤ suc (length s) + 1) (begins sep (c ∷ s))
    (λ _. let l = behind_length sep (length sep - 1) s in omega arith)
    (λ _. let l = push_length c (split_behind sep zero s) (length s) (behind_length sep zero s) in omega arith)

pub split_length : (sep s : List ℕ) → length (split sep s) ≤ length s + 1
unfolding split
split_length sep s = behind_length sep zero s

module _ (sep s : List ℕ) (h : 0 < length sep) (e : ℕ) (is : e ≡ first_part sep s) where
  pub end_inside : e ≤ length s
  end_inside = let l : first_part sep s ≤ length s = part_within sep s in let k = is in omega arith

  pub more_parts : e + length sep ≤ length s → split sep s ≡ take e s ∷ split sep (drop (e + length sep) s)
  unfolding parts_behind choose
  more_parts l = rw is (split_is sep s h ∙ rw (lt-ltb (first_part sep s) (length s) (let k = is in omega arith)) refl)

  pub last_part : length s < e + length sep → split sep s ≡ take e s ∷ []
  unfolding parts_behind choose
  last_part l =
      let k = is in
      let m : length s ≤ first_part sep s = go (dec_lt (first_part sep s) (length s)) in
      rw k (split_is sep s h ∙ rw (le-ltb (first_part sep s) (length s) m) refl)
    where
      go : Dec (first_part sep s < length s) → length s ≤ first_part sep s
      go (yes p) = let k = is in let q : first_part sep s + length sep ≤ length s = sep_fits sep s p in absurd (omega arith)
      go (no p) = omega arith

  -- what `get` gives behind the separator
  pub next_parts : (o : Option (Bor (List ℕ))) → MatchOption o ((length s < e + length sep) ⊎ (length s < length s)) (λ x. (e + length sep ≤ length s) × (length s ≤ length s) × (x.now ≡ slice_range s (e + length sep) (length s)) × (length x.now + (e + length sep) ≡ length s)) → split sep s ≡ take e s ∷ parts_left sep (option_copied o)
  next_parts None m = last_part (elim m [ inl l ↦ l | inr l ↦ omega arith ])
  next_parts (Some x) m =
      let k : length s - (e + length sep) ≡ length (drop (e + length sep) s) = sym (length-drop (e + length sep) s) in
      let all : x.now ≡ drop (e + length sep) s = m.2 ∙ rw k (take-length (drop (e + length sep) s)) in
      rw all (more_parts m.0)

pub among_any : (x : List ℕ) (xs : List (List ℕ)) → among x xs ≡ list_any (bytes_eq x) xs
unfolding among
among_any x [] = refl
among_any x (y ∷ ys) = rw (among_any x ys, ← same_bytes x y) refl
