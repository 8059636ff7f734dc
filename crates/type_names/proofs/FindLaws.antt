-- The search of `find_row`. Assumes nothing.
use Rattle.std.specs.Prelude.{Option, None, Some, IfSome}
use Rattle.std.specs.Option.{unwrap_or, is_some, option_map}
use mathlib.Core.Path.{◌≡◌, refl, sym, ap, ◌∙◌}
use mathlib.Core.Bool.{Bool, true, false}
use mathlib.Core.List.{List}
use Prim.Native.Nat.{ℕ, zero, suc, ◌+◌, ◌-◌, ◌≤◌, ◌<◌}
use native.Mathlib.Omega.{arith}
use lib.Dec.{ltb}
use borrow.Author.Tests.{lt-ltb, le-ltb}
use Rattle.base.specs.Choose.{choose, choose_case}
use Rattle.declarations.specs.Rows.{row_at, kind_number}
use Rattle.declarations.specs.declared.Declaration.{Declaration as Row}
use Rattle.checksums.specs.Sums.{sum_of}
use Rattle.type_names.specs.LookUp.{named, wanted, fits, find_from, find_row, found_row}
use Rattle.type_names.specs.declared.Sort.{Sort}
use Rattle.type_names.proofs.RowSumLaws.{name_other}
use Rattle.type_names.proofs.WalkLaws.{Skips}

module _ (bytes : List ℕ) (t : List Row) (name : List ℕ) (sort : Sort) where
  pub fits_named : (i kind : ℕ) (w r : Bool) → kind ≡ kind_number (row_at t i).kind → w ≡ wanted sort kind → w ≡ true → r ≡ named bytes t name i → r ≡ fits bytes t name sort i
  unfolding fits choose
  fits_named i kind w r k e is h = rw (← k, ← e, is) h

  pub fits_not : (i kind : ℕ) (w : Bool) → kind ≡ kind_number (row_at t i).kind → w ≡ wanted sort kind → w ≡ false → false ≡ fits bytes t name sort i
  unfolding fits choose
  fits_not i kind w k e is = rw (← k, ← e, is)

  pub fits_none : (i : ℕ) → false ≡ named bytes t name i → false ≡ fits bytes t name sort i
  unfolding fits
  fits_none i e = choose_case (λ (r : Bool). false ≡ r) (wanted sort (kind_number (row_at t i).kind)) (λ _. e) (λ _. refl)

  module _ (count : ℕ) where
    abbrev from : ℕ → ℕ
    from i = find_from bytes t name sort (count - i) i

    opened : (i : ℕ) → i < count → (r : Bool) → r ≡ fits bytes t name sort i → from i ≡ choose r i (from (i + 1))
    unfolding find_from
    opened i h r r_is = let z : count - i ≡ suc (count - (i + 1)) = omega arith in rw (r_is, z)

    skipped : (d i : ℕ) → i + d ≤ count → ((j : ℕ) → i ≤ j → j < i + d → false ≡ fits bytes t name sort j) → from i ≡ from (i + d)
    unfolding choose
    skipped zero i l none = ap from (let e : i ≡ i + 0 = omega arith in e)
    skipped (suc d) i l none =
        opened i (omega arith) false (none i (omega arith) (omega arith))
        ∙ skipped d (i + 1) (omega arith) (λ j a h. none j (omega arith) (omega arith))
        ∙ ap from (let e : i + 1 + d ≡ i + suc d = omega arith in e)

    -- the first of the rows from row i on
    pub record Going (first : Option ℕ) (i : ℕ) : Type 0 where
      pub inside : i ≤ count
      pub is : unwrap_or first count ≡ from i
      pub below : IfSome first (λ k. k < count)

    pub going_start : Going None count
    unfolding find_from
    going_start = record { inside = omega arith; is = let z : count - count ≡ 0 = omega arith in rw z; below = tt }

    pub going_skips : (sum : ℕ) → sum ≡ sum_of name → (first : Option ℕ) → Skips bytes t sum (Going first)
    going_skips sum sum_is first = record {
      over = λ i k going l others.
          let within = going.inside in
          let e : k + (i - k) ≡ i = omega arith in
          record {
            inside = omega arith;
            below = going.below;
            is = going.is ∙ sym (skipped (i - k) k (omega arith) (λ j a h. fits_none j (name_other bytes t sum k i others j a (omega arith) name sum_is)) ∙ ap from e);
          };
    }

    pub going_end : (first : Option ℕ) → Going first 0 → first ≡ found_row bytes t name sort count
    unfolding found_row find_row choose
    going_end first going = by first whole going.below
      where
        whole : unwrap_or first count ≡ find_from bytes t name sort count 0
        whole = let e : count - 0 ≡ count = omega arith in going.is ∙ rw e

        by : (r : Option ℕ) → unwrap_or r count ≡ find_from bytes t name sort count 0 → IfSome r (λ k. k < count) → r ≡ found_row bytes t name sort count
        by None e b = rw (← e, le-ltb count count (omega arith))
        by (Some k) e b = rw (← e, lt-ltb k count b)

    module _ (first : Option ℕ) (row : ℕ) (going : Going first (row + 1)) (r : Bool) (r_is : r ≡ fits bytes t name sort row) where
      one : from row ≡ choose r row (from (row + 1))
      one = let k = going.inside in opened row (omega arith) r r_is

      pub going_found : r ≡ true → Going (Some row) row
      unfolding choose
      going_found e = let k = going.inside in record { inside = omega arith; below = (let l : row < count = omega arith in l); is = sym (one ∙ rw e) }

      pub going_more : r ≡ false → Going first row
      unfolding choose
      going_more e = let k = going.inside in record { inside = omega arith; below = going.below; is = going.is ∙ sym (one ∙ rw e) }

pub found_some : (bytes : List ℕ) (t : List Row) (name : List ℕ) (sort : Sort) (count : ℕ) → is_some (found_row bytes t name sort count) ≡ ltb (find_row bytes t name sort count) count
unfolding found_row choose
found_some bytes t name sort count = by (ltb (find_row bytes t name sort count) count)
  where
    by : (b : Bool) → is_some (choose b (Some (find_row bytes t name sort count)) None) ≡ b
    by true = refl
    by false = refl

-- where the row that is found is asked for what follows from it
pub found_gives : {A : Type 0} (bytes : List ℕ) (t : List Row) (name : List ℕ) (sort : Sort) (count : ℕ) (f : ℕ → A) (d : A) (r : Option ℕ) → r ≡ found_row bytes t name sort count
    → unwrap_or (option_map f r) d ≡ choose (ltb (find_row bytes t name sort count) count) (f (find_row bytes t name sort count)) d
unfolding found_row choose
found_gives bytes t name sort count f d r e = rw e (by (ltb (find_row bytes t name sort count) count))
  where
    by : (b : Bool) → unwrap_or (option_map f (choose b (Some (find_row bytes t name sort count)) None)) d ≡ choose b (f (find_row bytes t name sort count)) d
    by true = refl
    by false = refl
