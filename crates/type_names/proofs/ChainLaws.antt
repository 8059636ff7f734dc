-- Chains of rows by their checksums. Assumes nothing.
use mathlib.Core.Path.{◌≡◌, refl, sym, ap, ◌∙◌}
use mathlib.Core.Bool.{Bool, true, false}
use mathlib.Core.List.{List, [], ◌∷◌}
use Prim.Native.Nat.{ℕ, zero, suc, ◌+◌, ◌*◌, ◌/◌, ◌%◌, ◌≤◌, ◌<◌}
use native.Mathlib.Numerals.{add-one}
use native.Mathlib.Omega.{arith}
use lib.Dec.{eqb, ltb}
use lib.ListN.{length, get_or, set, length-set}
use lib.Seq.{get_or-set_same, get_or-set_other}
use borrow.Author.Tests.{eq-eqb, ne_eqb, eqb-true, eqb-false, ltb-true, ltb-false, lt-ltb, le-ltb}
use Rattle.base.specs.Choose.{choose, choose_case}
use Rattle.message_graph.specs.Tab.{tab, length_tab, tab_at}
use Rattle.type_names.specs.Chains.{last_in, packed, cell_by, chained, cells, Staged, Linked, Chained}

-- ---- a cell's parts
module _ (sum before last : ℕ) (sum_small : sum < 4294967296) (before_small : before < 65536) where
  sum_part : packed sum before last % 4294967296 ≡ sum
  unfolding packed
  sum_part = omega arith

  before_part : packed sum before last / 4294967296 % 65536 ≡ before
  unfolding packed
  before_part = omega arith

  last_part : packed sum before last / 281474976710656 ≡ last
  unfolding packed
  last_part = omega arith

chained_le : (n : ℕ) → chained n ≤ n
unfolding chained
chained_le n = choose_case (λ (r : ℕ). r ≤ n) (ltb 65535 n) (λ e. let l = ltb-true 65535 n e in omega arith) (λ _. omega arith)

chained_few : (n : ℕ) → chained n ≤ 65535
unfolding chained
chained_few n = choose_case (λ (r : ℕ). r ≤ 65535) (ltb 65535 n) (λ _. omega arith) (λ e. let l = ltb-false 65535 n e in omega arith)

pub chained_within : (n many : ℕ) → n ≡ chained many → (n ≤ many) × (n < 65536)
chained_within n many e = let a = chained_le many in let b = chained_few many in (omega arith, omega arith)

-- ---- the last row of a bucket
module _ (s : ℕ → ℕ) (n : ℕ) where
  last_le : (b k : ℕ) → last_in s n b k ≤ k
  unfolding last_in
  last_le b zero = omega arith
  last_le b (suc k) = let l = last_le b k in choose_case (λ (r : ℕ). r ≤ suc k) (eqb (s k % n) b) (λ _. omega arith) (λ _. omega arith)

  -- the rows behind it are in other buckets
  last_behind : (b k j : ℕ) → last_in s n b k ≤ j → j < k → s j % n ≡ b → ⊥
  unfolding last_in choose
  last_behind b zero j l h e = omega arith
  last_behind b (suc k) j l h e = by (eqb (s k % n) b) refl l (λ m g. last_behind b k j m g e)
    where
      by : (t : Bool) → eqb (s k % n) b ≡ t → choose t (suc k) (last_in s n b k) ≤ j → (last_in s n b k ≤ j → j < k → ⊥) → ⊥
      by true q m rest = omega arith
      by false q m rest = at (eqb j k) refl
        where
          at : (t : Bool) → eqb j k ≡ t → ⊥
          at true p = eqb-false (s k % n) b q (ap (λ (i : ℕ). s i % n) (sym (eqb-true j k p)) ∙ e)
          at false p = let d = eqb-false j k p in rest m (omega arith)

  last_own : (k : ℕ) → last_in s n (s k % n) (k + 1) ≡ k + 1
  unfolding last_in choose
  last_own k = rw (add-one, eq-eqb (s k % n) (s k % n) refl)

  last_other : (b k : ℕ) → (s k % n ≡ b → ⊥) → last_in s n b (k + 1) ≡ last_in s n b k
  unfolding last_in choose
  last_other b k d = rw (add-one, ne_eqb (s k % n) b d)

  -- the row before row i in its bucket, where the first k rows are in the chains
  abbrev before_at : ℕ → ℕ → ℕ
  before_at k i = choose (ltb i k) (last_in s n (s i % n) i) 0

  before_few : (k i : ℕ) → k ≤ 65535 → before_at k i < 65536
  before_few k i few =
      choose_case (λ (r : ℕ). r < 65536) (ltb i k) (λ e. let l = last_le (s i % n) i in let m = ltb-true i k e in omega arith) (λ _. omega arith)

  module _ (small : (i : ℕ) → s i < 4294967296) (k i x : ℕ) (few : k ≤ 65535) (x_is : x ≡ cell_by s n k i) where
    cell_sum : x % 4294967296 ≡ s i
    unfolding cell_by
    cell_sum = rw x_is (sum_part (s i) (before_at k i) (last_in s n i k) (small i) (before_few k i few))

    cell_before : x / 4294967296 % 65536 ≡ before_at k i
    unfolding cell_by
    cell_before = rw x_is (before_part (s i) (before_at k i) (last_in s n i k) (small i) (before_few k i few))

    cell_last : x / 281474976710656 ≡ last_in s n i k
    unfolding cell_by
    cell_last = rw x_is (last_part (s i) (before_at k i) (last_in s n i k) (small i) (before_few k i few))

-- ---- one row more
module _ (s : ℕ → ℕ) (n k : ℕ) (l : List ℕ) (inside : k < length l) (staged : Staged s n k l) where
  -- row k leads to the one before, and is not yet the last one of its bucket
  mid : ℕ → ℕ
  mid i = packed (s i) (before_at s n (k + 1) i) (last_in s n i k)

  before_more : (i : ℕ) → (i ≡ k → ⊥) → before_at s n (k + 1) i ≡ before_at s n k i
  before_more i d = ap (λ (t : Bool). choose t (last_in s n (s i % n) i) 0) (by (ltb i k) refl)
    where
      by : (t : Bool) → ltb i k ≡ t → ltb i (k + 1) ≡ t
      by true e = let h = ltb-true i k e in lt-ltb i (k + 1) (omega arith)
      by false e = let h = ltb-false i k e in le-ltb i (k + 1) (omega arith)

  before_own : before_at s n (k + 1) k ≡ last_in s n (s k % n) k
  unfolding choose
  before_own = rw (lt-ltb k (k + 1) (omega arith))

  module _ (b : ℕ) (b_is : b ≡ s k % n) (b_inside : b < length l) (x : ℕ) (x_is : x ≡ packed (s k) (last_in s n b k) (last_in s n k k)) where
    mid_at : (i : ℕ) → i < length l → get_or (set l k x) i 0 ≡ mid i
    unfolding mid cell_by
    mid_at i h = by (eqb i k) refl
      where
        by : (t : Bool) → eqb i k ≡ t → get_or (set l k x) i 0 ≡ mid i
        by true e =
            let q = eqb-true i k e in
            rw q (get_or-set_same l k x 0 inside ∙ x_is ∙ rw (b_is, before_own))
        by false e = let d = eqb-false i k e in get_or-set_other l k i x 0 d ∙ staged.at i h ∙ rw (before_more i d)

    module _ (y : ℕ) (y_is : y ≡ packed (s b) (before_at s n (k + 1) b) (k + 1)) where
      more_at : (i : ℕ) → i < length l → get_or (set (set l k x) b y) i 0 ≡ cell_by s n (k + 1) i
      unfolding mid cell_by
      more_at i h = by (eqb i b) refl
        where
          size : length (set l k x) ≡ length l
          size = length-set l k x

          by : (t : Bool) → eqb i b ≡ t → get_or (set (set l k x) b y) i 0 ≡ cell_by s n (k + 1) i
          by true e =
              let q = eqb-true i b e in
              rw q (get_or-set_same (set l k x) b y 0 (omega (arith, size)) ∙ y_is ∙ ap (packed (s b) (before_at s n (k + 1) b)) (sym (last_own s n k) ∙ ap (λ (c : ℕ). last_in s n c (k + 1)) (sym b_is)))
          by false e =
              let d = eqb-false i b e in
              get_or-set_other (set l k x) b i y 0 d ∙ mid_at i h ∙ ap (packed (s i) (before_at s n (k + 1) i)) (sym (last_other s n i k (λ q. d (sym q ∙ sym b_is))))

-- the cells that `link` reads and writes
module _ (l : List ℕ) (n k : ℕ) (pre : (k < n) × (n < 65536) × (n ≤ length l)) (sum b before own x : ℕ) (sum_is : sum ≡ get_or l k 0 % 4294967296) (b_is : b ≡ sum % n) (b_less : b < n)
    (before_is : before ≡ get_or l b 0 / 281474976710656) (own_is : own ≡ get_or l k 0 / 281474976710656) (x_is : x ≡ packed sum before own)
    (first_sum first_before y : ℕ) (first_sum_is : first_sum ≡ get_or (set l k x) b 0 % 4294967296) (first_before_is : first_before ≡ get_or (set l k x) b 0 / 4294967296 % 65536)
    (y_is : y ≡ packed first_sum first_before (k + 1)) where
  module _ (s : ℕ → ℕ) (small : (i : ℕ) → s i < 4294967296) (staged : Staged s n k l) where
    here : get_or l k 0 ≡ cell_by s n k k
    here = staged.at k (omega (arith, pre.0, pre.2))

    bucket_is : b ≡ s k % n
    bucket_is = b_is ∙ ap (λ (v : ℕ). v % n) (sum_is ∙ cell_sum s n small k k (get_or l k 0) (omega (arith, pre.0, pre.1)) here)

    x_packed : x ≡ packed (s k) (last_in s n b k) (last_in s n k k)
    x_packed =
        let few : k ≤ 65535 = omega (arith, pre.0, pre.1) in
        x_is ∙ rw (sum_is, before_is, own_is, cell_sum s n small k k (get_or l k 0) few here, cell_last s n small k k (get_or l k 0) few here, cell_last s n small k b (get_or l b 0) few (staged.at b (omega (arith, pre.2))))

    y_packed : y ≡ packed (s b) (before_at s n (k + 1) b) (k + 1)
    unfolding mid
    y_packed =
        let few : k < 65535 = omega (arith, pre.0, pre.1) in
        let m : get_or (set l k x) b 0 ≡ packed (s b) (before_at s n (k + 1) b) (last_in s n b k) =
        mid_at s n k l (omega (arith, pre.0, pre.2)) staged b bucket_is (omega (arith, pre.2)) x x_packed b (omega (arith, pre.2)) in
        let low = before_few s n (k + 1) b (omega arith) in
        y_is
        ∙ rw (first_sum_is, first_before_is, m, sum_part (s b) (before_at s n (k + 1) b) (last_in s n b k) (small b) low, before_part (s b) (before_at s n (k + 1) b) (last_in s n b k) (small b) low)

  pub linked : Linked n k l (set (set l k x) b y)
  linked =
      let size : length (set (set l k x) b y) ≡ length l = length-set (set l k x) b y ∙ length-set l k x in
      record {
        size = size;
        next = λ s small staged. record {
          at = λ i h.
              more_at s n k l (omega (arith, pre.0, pre.2)) staged b (bucket_is s small staged) (omega (arith, pre.2)) x (x_packed s small staged) y (y_packed s small staged) i (omega (arith, size));
        };
      }

-- ---- all rows
list_ext : (xs ys : List ℕ) → length xs ≡ length ys → ((i : ℕ) → i < length xs → get_or xs i 0 ≡ get_or ys i 0) → xs ≡ ys
list_ext [] [] e h = refl
list_ext [] (y ∷ ys) e h = absurd (omega arith)
list_ext (x ∷ xs) [] e h = absurd (omega arith)
list_ext (x ∷ xs) (y ∷ ys) e h = rw (h 0 (omega arith), list_ext xs ys (omega arith) (λ i l. h (suc i) (omega arith)))

module _ (sums₀ : List ℕ) where
  pub record Linking (n : ℕ) (sums : List ℕ) (k : ℕ) : Type 0 where
    pub within : k ≤ n
    pub size : length sums ≡ length sums₀
    pub staged : (s : ℕ → ℕ) → ((i : ℕ) → s i < 4294967296) → sums₀ ≡ tab (length sums₀) s → Staged s n k sums

  pub linking_none : (n : ℕ) → Linking n sums₀ 0
  unfolding cell_by packed last_in choose
  linking_none n = record {
    within = omega arith;
    size = refl;
    staged = λ s small is. record { at = λ i h. ap (λ (l : List ℕ). get_or l i 0) is ∙ tab_at (length sums₀) s 0 i h ∙ rw (le-ltb i 0 (omega arith)) (let e : s i ≡ s i + 4294967296 * (0 + 65536 * 0) = omega arith in e) };
  }

  pub linking_all : (n k : ℕ) (sums : List ℕ) → n ≡ chained (length sums₀) → Linking n sums k → n ≤ k → Chained sums₀ sums
  unfolding cells
  linking_all n k sums n_is p h = record {
    is = λ s small is.
        let w = p.within in
        let size = p.size in
        let e : k ≡ chained (length sums₀) = omega arith in
        let f : ℕ → ℕ = cell_by s (chained (length sums₀)) (chained (length sums₀)) in
        let long = length_tab (length sums₀) f in
        list_ext sums (tab (length sums₀) f) (omega arith) (λ i l. (p.staged s small is).at i l ∙ rw (e, n_is) (sym (tab_at (length sums₀) f 0 i (omega arith))));
  }

-- ---- what the cells tell of the rows
module _ (s : ℕ → ℕ) (small : (i : ℕ) → s i < 4294967296) (sums : List ℕ) (are : sums ≡ cells s (length sums)) where
  cell_is : (i : ℕ) → i < length sums → get_or sums i 0 ≡ cell_by s (chained (length sums)) (chained (length sums)) i
  unfolding cells
  cell_is i h = ap (λ (l : List ℕ). get_or l i 0) are ∙ tab_at (length sums) (cell_by s (chained (length sums)) (chained (length sums))) 0 i h

  pub sum_cell : (i : ℕ) → i < length sums → get_or sums i 0 % 4294967296 ≡ s i
  sum_cell i h = cell_sum s (chained (length sums)) small (chained (length sums)) i (get_or sums i 0) (chained_few (length sums)) (cell_is i h)

  -- the rows behind the last one of a bucket
  pub behind_last : (n b r sum j : ℕ) → n ≡ chained (length sums) → b ≡ sum % n → b < n → r ≡ get_or sums b 0 / 281474976710656 → r ≤ j → j < n → s j ≡ sum → ⊥
  behind_last n b r sum j n_is b_is b_less r_is l h e =
      let few = chained_le (length sums) in
      let last : r ≡ last_in s n b n = r_is ∙ rw n_is (cell_last s (chained (length sums)) small (chained (length sums)) b (get_or sums b 0) (chained_few (length sums)) (cell_is b (omega arith))) in
      last_behind s n b n j (omega arith) h (ap (λ (v : ℕ). v % n) e ∙ sym b_is)

  -- the rows between row k and the one before it in its bucket
  pub behind_before : (n k b own r sum j : ℕ) → n ≡ chained (length sums) → k < n → own ≡ get_or sums k 0 % 4294967296 % n → b ≡ sum % n → own ≡ b → r ≡ get_or sums k 0 / 4294967296 % 65536 → r ≤ j → j < k → s j ≡ sum → ⊥
  unfolding choose
  behind_before n k b own r sum j n_is k_less own_is b_is alike r_is l h e =
      let few = chained_le (length sums) in
      let k_in : k < length sums = omega arith in
      let before : r ≡ before_at s (chained (length sums)) (chained (length sums)) k = r_is ∙ cell_before s (chained (length sums)) small (chained (length sums)) k (get_or sums k 0) (chained_few (length sums)) (cell_is k k_in) in
      let last : r ≡ last_in s n (s k % n) k = before ∙ rw (lt-ltb k (chained (length sums)) (omega arith), ← n_is) in
      let same : s k % n ≡ sum % n = ap (λ (v : ℕ). v % n) (sym (sum_cell k k_in)) ∙ sym own_is ∙ alike ∙ b_is in
      last_behind s n (s k % n) k j (omega arith) h (ap (λ (v : ℕ). v % n) e ∙ sym same)
