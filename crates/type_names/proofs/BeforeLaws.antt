-- The search of `declared_before`. Assumes nothing.
use mathlib.Core.Path.{◌≡◌, refl, sym, ap, ◌∙◌}
use mathlib.Core.Bool.{Bool, true, false}
use mathlib.Core.List.{List}
use Prim.Native.Nat.{ℕ, zero, suc, ◌+◌, ◌%◌, ◌≤◌, ◌<◌}
use native.Mathlib.Decide.{dec_le}
use native.Mathlib.Numerals.{add-one}
use native.Mathlib.Omega.{arith}
use lib.ListN.{length, get_or}
use lib.Dec.{eqb}
use borrow.Author.Tests.{le-ltb, lt-ltb}
use Rattle.base.specs.Bytes.{same}
use Rattle.base.specs.Choose.{choose, choose_case}
use Rattle.declarations.specs.Rows.{row_at, kind_number}
use Rattle.declarations.specs.Listed.{full}
use Rattle.declarations.specs.declared.Declaration.{Declaration as Row}
use Rattle.type_names.specs.LookUp.{same_row, before_by, declared_before, row_sum, row_sums}
use Rattle.type_names.specs.RowSums.{Apart}
use Rattle.type_names.proofs.RowSumLaws.{full_apart, full_other}
use Rattle.type_names.proofs.WalkLaws.{Skips}

module _ (bytes : List ℕ) (t : List Row) (i : ℕ) where
  pub past : 65535 < i → false ≡ declared_before bytes t i
  unfolding declared_before choose
  past h = rw (lt-ltb 65535 i h)

  not_same : (j : ℕ) → same (full bytes t (j + 1)) (full bytes t (i + 1)) ≡ false → false ≡ same_row bytes t i j
  unfolding same_row
  not_same j e = rw e (choose_case (λ (r : Bool). false ≡ r) (eqb (kind_number (row_at t j).kind) 0) (λ _. refl) (λ _. refl))

  skipped : (k j : ℕ) → k ≤ j → ((m : ℕ) → k ≤ m → m < j → false ≡ same_row bytes t i m) → before_by bytes t i k ≡ before_by bytes t i j
  unfolding before_by choose
  skipped k zero l none = ap (before_by bytes t i) (let e : k ≡ 0 = omega arith in e)
  skipped k (suc j) l none = by (dec_le k j) (λ a. skipped k j a (λ m b h. none m b (omega arith)))
    where
      by : Dec (k ≤ j) → (k ≤ j → before_by bytes t i k ≡ before_by bytes t i j) → before_by bytes t i k ≡ before_by bytes t i (suc j)
      by (yes a) rest = rest a ∙ rw (← none j a (omega arith))
      by (no a) rest = ap (before_by bytes t i) (let e : k ≡ suc j = omega arith in e)

  pub record Left (j : ℕ) : Type 0 where
    pub few : i ≤ 65535
    pub inside : j ≤ i
    pub is : before_by bytes t i j ≡ declared_before bytes t i

  pub left_start : i ≤ 65535 → Left i
  unfolding declared_before choose
  left_start few = record { few = few; inside = omega arith; is = rw (le-ltb 65535 i few) }

  pub left_skips : Skips bytes t (row_sum bytes t i) Left
  left_skips = record {
    over = λ j k left l others.
        let few = left.few in
        let inside = left.inside in
        record {
          few = few;
          inside = omega arith;
          is = skipped k j l (λ m a h. not_same m (full_other bytes t (row_sum bytes t i) k j others m a h i few (omega arith) refl)) ∙ left.is;
        };
  }

  pub left_end : Left 0 → false ≡ declared_before bytes t i
  unfolding before_by
  left_end left = left.is

  module _ (j : ℕ) (left : Left (j + 1)) where
    module _ (r : Bool) (r_is : r ≡ same_row bytes t i j) where
      opened : choose r true (before_by bytes t i j) ≡ declared_before bytes t i
      unfolding before_by
      opened = rw r_is (sym (ap (before_by bytes t i) (add-one j)) ∙ left.is)

      pub left_found : r ≡ true → true ≡ declared_before bytes t i
      unfolding choose
      left_found e = rw e at opened

      pub left_more : r ≡ false → Left j
      unfolding choose
      left_more e = let k = left.inside in record { few = left.few; inside = omega arith; is = rw e at opened }

    -- the rows' full names have other checksums
    pub left_apart : (sums : List ℕ) → sums ≡ row_sums bytes t (length sums) → (i < length sums) × Apart sums j (get_or sums i 0 % 4294967296) → Left j
    left_apart sums are apart =
        let few = left.few in
        let inside = left.inside in
        left_more false (not_same j (full_apart bytes t sums are i j few (omega arith) apart.0 apart.1)) refl
