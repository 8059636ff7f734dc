-- Checksums of the full names of rows, and names that they tell apart. Assumes nothing.
use Rattle.std.specs.Prelude.{Option, None, Some, min}
use Rattle.std.specs.Option.{unwrap_or, option_map}
use mathlib.Core.Path.{◌≡◌, refl, sym, ap, ◌∙◌}
use mathlib.Core.Bool.{false}
use mathlib.Core.List.{List, [], ◌∷◌, ◌++◌, append_assoc}
use Prim.Native.Nat.{ℕ, ◌+◌, ◌/◌, ◌%◌, ◌^◌, ◌≤◌, ◌<◌}
use native.Mathlib.Decide.{dec_le}
use native.Mathlib.Numerals.{add-one}
use native.Mathlib.Omega.{arith}
use lib.Dec.{ltb}
use lib.ListN.{length, get_or, drop, get_or-append}
use borrow.Author.Tests.{le-ltb, lt-ltb}
use Rattle.base.specs.Bytes.{same}
use Rattle.base.specs.Choose.{choose, choose_case}
use Rattle.message_graph.specs.Tab.{tab, length_tab, tab_at, Filled}
use Rattle.checksums.specs.Sums.{sum_from, sum_of}
use Rattle.checksums.specs.SumLaws.{sum_small, sum_on, unlike}
use Rattle.name_rules.specs.FullNames.{◌·◌}
use Rattle.declarations.specs.Rows.{row_at}
use Rattle.declarations.specs.Listed.{above, full, name_of}
use Rattle.declarations.proofs.FullLaws.{full_none, above_before, full_step}
use Rattle.declarations.specs.declared.Declaration.{Declaration as Row}
use Rattle.type_names.specs.Fronts.{code_of}
use Rattle.type_names.specs.Chains.{chained, cells, Chained}
use Rattle.type_names.specs.LookUp.{named, row_sum, row_sums}
use Rattle.type_names.specs.RowSums.{Summed, Apart, Others, Seeks}
use Rattle.type_names.proofs.ChainLaws.{sum_cell, behind_last, behind_before}
use Rattle.type_names.proofs.NamedLaws.{named_past, named_is}

module _ (bytes : List ℕ) (t : List Row) where
  pub sum_past : (i : ℕ) → 65535 < i → 0 ≡ row_sum bytes t i
  unfolding row_sum choose
  sum_past i h = rw (lt-ltb 65535 i h)

  sum_is : (i : ℕ) → i ≤ 65535 → row_sum bytes t i ≡ sum_of (full bytes t (i + 1))
  unfolding row_sum choose
  sum_is i h = rw (le-ltb 65535 i h)

  -- the loop of `fill_sums`
  pub filled_summed : (old sums : List ℕ) (i : ℕ) → Filled (row_sum bytes t) old sums i → Summed bytes t sums i
  filled_summed old sums i p = record {
    is = λ k h.
        ap (λ (l : List ℕ). get_or l k 0) p.is
        ∙ get_or-append (tab i (row_sum bytes t)) (drop i old) 0 k (omega (arith, length_tab i (row_sum bytes t)))
        ∙ tab_at i (row_sum bytes t) 0 k h;
  }

  row_small : (i : ℕ) → row_sum bytes t i < 4294967296
  unfolding row_sum
  row_small i = choose_case (λ (r : ℕ). r < 4294967296) (ltb 65535 i) (λ _. omega arith) (λ _. sum_small 0 (full bytes t (i + 1)) (omega arith))

  -- the two steps of `fill_sums`
  pub rows_chained : (n : ℕ) (sums out : List ℕ) → sums ≡ tab n (row_sum bytes t) → Chained sums out → out ≡ row_sums bytes t n
  unfolding row_sums
  rows_chained n sums out is chained =
      let e : length sums ≡ n = ap length is ∙ length_tab n (row_sum bytes t) in
      chained.is (row_sum bytes t) row_small (rw e is) ∙ ap (cells (row_sum bytes t)) e

  module _ (sums : List ℕ) (i : ℕ) (summed : Summed bytes t sums i) (few : i ≤ 65535) (row : Row) (row_is : row ≡ row_at t i) (up : Option ℕ) (around : ℕ) (up_is : code_of up ≡ above i row)
      (around_is : around ≡ unwrap_or (option_map (λ (k : ℕ). get_or sums k 0) up) 0) where
    sum_around : around ≡ sum_of (full bytes t (code_of up))
    unfolding sum_from
    sum_around = by up up_is around_is
      where
        by : (o : Option ℕ) → code_of o ≡ above i row → around ≡ unwrap_or (option_map (λ (k : ℕ). get_or sums k 0) o) 0 → around ≡ sum_of (full bytes t (code_of o))
        by None e a = a ∙ rw (full_none bytes t)
        by (Some k) e a =
            let l = above_before i row in
            a ∙ summed.is k (omega arith) ∙ sum_is k (omega arith) ∙ ap (λ (n : ℕ). sum_of (full bytes t n)) (add-one k)

    -- what it stands in, a dot, and its own name
    pub sum_whole : (dotted r : ℕ) (own : List ℕ) → dotted ≡ sum_from (around % 2 ^ 32) (46 ∷ []) → own ≡ name_of bytes row
        → r ≡ sum_from (dotted % 2 ^ 32) own → r ≡ row_sum bytes t i
    sum_whole dotted r own dotted_is own_is r_is =
        let name : full bytes t (i + 1) ≡ full bytes t (code_of up) · own = ap (full bytes t) (add-one i) ∙ full_step bytes t i ∙ rw (own_is, up_is, row_is) in
        r_is ∙ rw (dotted_is, sum_around, sum_on 0 (full bytes t (code_of up)) (46 ∷ []) (omega arith), sum_on 0 (full bytes t (code_of up) ++ (46 ∷ [])) own (omega arith), append_assoc (full bytes t (code_of up)) (46 ∷ []) own)
        (ap sum_of (sym name) ∙ sym (sum_is i few))

  -- rows with other checksums
  module _ (sum from to : ℕ) (others : Others bytes t sum from to) (j : ℕ) (l : from ≤ j) (h : j < to) where
    pub name_other : (name : List ℕ) → sum ≡ sum_of name → false ≡ named bytes t name j
    name_other name is = by (dec_le j 65535)
      where
        by : Dec (j ≤ 65535) → false ≡ named bytes t name j
        by (yes few) = named_is bytes t name j few false (sym (unlike (full bytes t (j + 1)) name (λ e. others.other j l h (sum_is j few ∙ ap sum_of e ∙ sym is))))
        by (no past) = named_past bytes t name j (omega arith)

    pub full_other : (i : ℕ) → i ≤ 65535 → j ≤ 65535 → sum ≡ row_sum bytes t i → same (full bytes t (j + 1)) (full bytes t (i + 1)) ≡ false
    full_other i few_i few_j is = unlike (full bytes t (j + 1)) (full bytes t (i + 1)) (λ e. others.other j l h (sum_is j few_j ∙ ap sum_of e ∙ sym (sum_is i few_i) ∙ sym is))

  module _ (sums : List ℕ) (sums_are : sums ≡ row_sums bytes t (length sums)) where
    cells_are : sums ≡ cells (row_sum bytes t) (length sums)
    unfolding row_sums
    cells_are = sums_are

    pub others_last : (n b r sum count : ℕ) → n ≡ chained (length sums) → b ≡ sum % n → b < n → r ≡ get_or sums b 0 / 281474976710656 → count ≡ n → Others bytes t sum (min count r) count
    others_last n b r sum count n_is b_is b_less r_is e = record { other = λ j l h. behind_last (row_sum bytes t) row_small sums cells_are n b r sum j n_is b_is b_less r_is (omega arith) (omega arith) }

    pub others_before : (n k b own r sum : ℕ) → n ≡ chained (length sums) → k < n → own ≡ get_or sums k 0 % 4294967296 % n → b ≡ sum % n → own ≡ b → r ≡ get_or sums k 0 / 4294967296 % 65536 → Others bytes t sum (min k r) k
    others_before n k b own r sum n_is k_less own_is b_is alike r_is = record { other = λ j l h. behind_before (row_sum bytes t) row_small sums cells_are n k b own r sum j n_is k_less own_is b_is alike r_is (omega arith) h }

    pub sum_row : (k : ℕ) → k < length sums → get_or sums k 0 % 4294967296 ≡ row_sum bytes t k
    sum_row = sum_cell (row_sum bytes t) row_small sums cells_are

    sum_at : (k : ℕ) → k < length sums → k ≤ 65535 → get_or sums k 0 % 4294967296 ≡ sum_of (full bytes t (k + 1))
    sum_at k h few = sum_row k h ∙ sum_is k few

    pub name_apart : (name : List ℕ) (sum i : ℕ) → sum ≡ sum_of name → Apart sums i sum → false ≡ named bytes t name i
    name_apart name sum i sum_is_it apart = by (dec_le i 65535)
      where
        by : Dec (i ≤ 65535) → false ≡ named bytes t name i
        by (yes few) = named_is bytes t name i few false (sym (unlike (full bytes t (i + 1)) name (λ e. apart.other (sum_at i apart.inside few ∙ ap sum_of e ∙ sym sum_is_it))))
        by (no past) = named_past bytes t name i (omega arith)

    pub full_apart : (i j : ℕ) → i ≤ 65535 → j ≤ 65535 → i < length sums → Apart sums j (get_or sums i 0 % 4294967296) → same (full bytes t (j + 1)) (full bytes t (i + 1)) ≡ false
    full_apart i j few_i few_j inside apart =
        unlike (full bytes t (j + 1)) (full bytes t (i + 1)) (λ e. apart.other (sum_at j apart.inside few_j ∙ ap sum_of e ∙ sym (sum_at i inside few_i)))

pub seeks_some : (bytes : List ℕ) (t : List Row) (sum row left : ℕ) → left ≤ row → Others bytes t sum left row → Seeks bytes t (Some sum) row (record { set = bytes; rows = t; sum = Some sum; left = left })
seeks_some bytes t sum row left l others = record { set = refl; rows = refl; given_sum = refl; fewer = l; others = λ x is. rw is others }
