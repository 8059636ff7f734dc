-- One step of each loop: a byte of a string, a number of a table. Assumes nothing.
use Prim.Native.Nat.{ℕ, suc, ◌+◌, ◌-◌, ◌*◌, ◌%◌, ◌^◌, ◌<◌, ◌≤◌}
use mathlib.Core.Path.{◌≡◌, refl, sym, ap, ◌∙◌}
use mathlib.Core.Bool.{Bool}
use mathlib.Core.List.{List, [], ◌∷◌}
use Rattle.std.specs.List.{list_any, enumerate_from}
use native.Mathlib.Numerals.{add-one}
use native.Mathlib.Omega.{arith}
use lib.ListN.{length, set, get_or, take, drop, length-drop, drop_of_length-le}
use lib.Seq.{set_out, drop-cons, drop-drop, take_all}
use lib.Dec.{eqb, ltb}
use Rattle.std.proofs.Common.{length-set, length-take-le, take-suc-set, le-leb}
use Rattle.std.proofs.Math.Decide.{dec_le}
use Rattle.std.proofs.lemmas.Bool.{lt-leb}
use borrow.Author.Tests.{lt-ltb, le-ltb}
use Rattle.base.specs.Choose.{choose}
use Rattle.std.specs.Prelude.{Some}
use Rattle.base.proofs.BytesLaws.{eqb_turned}
use Rattle.checksums.specs.Sums.{sum_from, holds, repeats, Put}
use Rattle.checksums.specs.Lists.{first, pushed, may}

pub sum_more : (s : List ℕ) (h i x : ℕ) → i < length s → x ≡ get_or s i 0 → sum_from ((h * 1000003 + x) % 2 ^ 32) (drop (i + 1) s) ≡ sum_from h (drop i s)
unfolding sum_from
sum_more s h i x l e = rw (drop-cons s i 0 l, add-one, e)

pub sum_end : (s : List ℕ) (h i : ℕ) → length s ≤ i → sum_from h (drop i s) ≡ h
unfolding sum_from
sum_end s h i l = rw (drop_of_length-le s {i = i} l)

pub holds_is : (x : ℕ) (ys : List ℕ) → list_any (λ (y : ℕ). eqb y x) ys ≡ holds x ys
unfolding holds
holds_is x [] = refl
holds_is x (y ∷ ys) = rw (eqb_turned y x, holds_is x ys)

-- from number n on, each number beside those behind it
pub repeats_from : (t : List ℕ) (n : ℕ) (xs : List ℕ) → drop n t ≡ xs
    → list_any (λ (p : ℕ × ℕ). holds p.1 (take (length t - (p.0 + 1)) (drop (p.0 + 1) t))) (enumerate_from n xs) ≡ repeats xs
unfolding repeats
repeats_from t n [] e = refl
repeats_from t n (x ∷ xs) e =
    let next : drop (n + 1) t ≡ xs = sym (drop-drop 1 n t) ∙ ap (drop 1) e in
    let behind : take (length t - (n + 1)) (drop (n + 1) t) ≡ xs = take_all (length t - (n + 1)) (drop (n + 1) t) (rw length-drop (omega arith)) ∙ next in
    rw (behind, repeats_from t (n + 1) xs next)

pub put_there : (t : List ℕ) (n x : ℕ) → n < length t → Put t n x (set t n x) (n + 1)
unfolding choose
put_there t n x l = record { table = refl; count = rw (lt-ltb n (length t) l) }

pub put_nowhere : (t : List ℕ) (n x : ℕ) → length t ≤ n → Put t n x t (length t + 1)
unfolding choose
put_nowhere t n x l = record { table = sym (set_out t n x l); count = rw (le-ltb n (length t) l) }

-- ---- a table that has room for n of a list's numbers
pub none_first : (t : List ℕ) → first 0 t ≡ Some []
unfolding first choose
none_first t = rw (le-leb 0 (length t) (omega arith)) refl

module _ (n : ℕ) (t : List ℕ) (m : ℕ) (size : length t ≡ n) where
  pub first_pushed : {x : ℕ} {t' : List ℕ} {r : ℕ} → Put t m x t' r → first r t' ≡ pushed n (first m t) x
  unfolding first pushed choose
  first_pushed {x} {t'} {r} put =
      let same : length t' ≡ length t = ap length put.table ∙ length-set t m x in
      by same (dec_le (suc m) (length t)) (dec_le m (length t))
    where
      by : length t' ≡ length t → Dec (suc m ≤ length t) → Dec (m ≤ length t) → first r t' ≡ pushed n (first m t) x
      by same (yes h) _ =
          let count : r ≡ m + 1 = put.count ∙ rw (lt-ltb m (length t) h) in
          let fits : length (take m t) ≡ m = length-take-le m t (omega arith) in
          rw (le-leb m (length t) (omega arith), count, le-leb (m + 1) (length t') (omega arith), fits, le-leb (m + 1) n (omega arith), put.table, add-one)
          (ap Some (take-suc-set t m x h))
      by same (no h) (yes k) =
          let count : r ≡ length t + 1 = put.count ∙ rw (le-ltb m (length t) (omega arith)) in
          let fits : length (take m t) ≡ m = length-take-le m t k in
          rw (le-leb m (length t) k, count, lt-leb (length t + 1) (length t') (omega arith), fits, lt-leb (m + 1) n (omega arith)) refl
      by same (no h) (no k) =
          let count : r ≡ length t + 1 = put.count ∙ rw (le-ltb m (length t) (omega arith)) in
          rw (lt-leb m (length t) (omega arith), count, lt-leb (length t + 1) (length t') (omega arith)) refl

  module _ (test : List ℕ → Bool) where
    pub full_may : n < m → ltb n m ≡ may test (first m t)
    unfolding first may choose
    full_may h = rw (lt-leb m (length t) (omega arith), lt-ltb n m h) refl

    pub held_may : {r : Bool} → m ≤ n → r ≡ test (take m t) → r ≡ may test (first m t)
    unfolding first may choose
    held_may h e = rw (le-leb m (length t) (omega arith)) e
