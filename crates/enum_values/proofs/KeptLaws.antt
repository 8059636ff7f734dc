-- The values with a mark are those of build_enum_value_mappings. Assumes nothing.
use Prim.Native.Nat.{ℕ, zero, suc, ◌+◌, ◌-◌, ◌≤◌, ◌<◌}
use native.Mathlib.Omega.{arith}
use native.Mathlib.Numerals.{add-one}
use native.Mathlib.Decide.{dec_lt, ℕ_discrete as dec_eq}
use mathlib.Core.Path.{◌≡◌, refl, sym, ap, ap₂, ◌∙◌}
use mathlib.Core.Bool.{Bool, true, false, not, ◌||◌}
use mathlib.Core.List.{List, [], ◌∷◌, map}
use lib.Dec.{eqb}
use Rattle.std.proofs.Math.Bool.{or_comm}
use Rattle.std.specs.List.{list_any}
use Rattle.std.proofs.lemmas.List.Folds.{list_any_more}
use lib.ListN.{length, get_or, set, take, length-set, length-replicate}
use lib.Seq.{take-nil, get_or-set_same, get_or-set_other}
use borrow.Author.Tests.{lt-ltb, le-ltb, eqb-true, ne_eqb}
use Rattle.base.specs.Choose.{choose}
use Rattle.descriptor.specs.Descriptor.{Bytes, ValueDescriptor}
use Rattle.descriptor.specs.Decode.{decode_value}
use Rattle.code_generator.specs.Enums.{value_number, is_used, mappings_from, build_enum_value_mappings}
use Rattle.enum_values.specs.Kept.{numbers_before, no_values, note, noted, marked}
use Rattle.enum_values.specs.declared.Kept.{Kept}

-- ---- a table past its end
pub past {ℓ} : {A : Type ℓ} (l : List A) (i : ℕ) (d : A) → length l ≤ i → get_or l i d ≡ d
past [] i d h = refl
past (x ∷ l) zero d h = absurd (omega arith)
past (x ∷ l) (suc i) d h = past l i d (omega arith)

none_marked {ℓ} : {A : Type ℓ} (ms : List Bool) (i : ℕ) (xs : List A) → length ms ≤ i → marked ms i xs ≡ []
unfolding marked choose
none_marked ms i [] h = refl
none_marked ms i (x ∷ xs) h = rw (past ms i false h) (none_marked ms (i + 1) xs (omega arith))

-- ---- the values that are left
-- one value on, of those whose mark is mark i
pub one_left : (ms : List Bool) (i j : ℕ) (ps qs : List Bytes) (p : Bytes) → ps ≡ p ∷ qs → j ≡ i + 1 → marked ms i (map decode_value ps) ≡ choose (get_or ms i false) (decode_value p ∷ marked ms j (map decode_value qs)) (marked ms j (map decode_value qs))
unfolding marked
one_left ms i j ps qs p e f = rw (e, f) refl

-- no more than there are marks
marked_bound : (ms : List Bool) (i : ℕ) (vs : List ValueDescriptor) → length (marked ms i vs) ≤ length ms - i
unfolding marked choose
marked_bound ms i [] = omega arith
marked_bound ms i (v ∷ vs) = on (dec_lt i (length ms)) (marked_bound ms (i + 1) vs)
  where
    both : (t : Bool) → i < length ms → length (marked ms (i + 1) vs) ≤ length ms - (i + 1) → length (choose t (v ∷ marked ms (i + 1) vs) (marked ms (i + 1) vs)) ≤ length ms - i
    both true l h = omega arith
    both false l h = omega arith

    on : Dec (i < length ms) → length (marked ms (i + 1) vs) ≤ length ms - (i + 1) → length (marked ms i (v ∷ vs)) ≤ length ms - i
    on (yes l) h = both (get_or ms i false) l h
    on (no l) h = rw (past ms i false (omega arith)) (omega arith)

pub few_marked : (ms : List Bool) (vs : List ValueDescriptor) → length (marked ms 0 vs) ≤ length ms
few_marked ms vs = let h = marked_bound ms 0 vs in omega arith

-- ---- the numbers in use
before_set : (t : List ℕ) (c n j : ℕ) → j ≤ c → numbers_before (set t c n) j ≡ numbers_before t j
unfolding numbers_before
before_set t c n zero h = refl
before_set t c n (suc j) h = rw (get_or-set_other t c j n 0 (λ e. omega arith), before_set t c n j (omega arith))

turned : (n m : ℕ) (u : Bool) → (u || eqb m n) ≡ (eqb n m || u)
turned n m u = or_comm u (eqb m n) ∙ ap (λ (t : Bool). t || u) (go (dec_eq m n))
  where
    go : Dec (m ≡ n) → eqb m n ≡ eqb n m
    go (yes e) = ap₂ eqb e (sym e)
    go (no ne) = ne_eqb m n ne ∙ sym (ne_eqb n m (λ e. ne (sym e)))

before_more : (t : List ℕ) (c n : ℕ) → c < length t → numbers_before (set t c n) (c + 1) ≡ n ∷ numbers_before t c
unfolding numbers_before
before_more t c n h = rw (add-one, get_or-set_same t c n 0 h, before_set t c n c (omega arith))

-- the numbers of a table from its start on
pub used_before : (t : List ℕ) (n c : ℕ) → c ≤ length t → list_any (λ (m : ℕ). eqb m n) (take c t) ≡ is_used n (numbers_before t c)
unfolding numbers_before is_used
used_before t n zero h = refl
used_before t n (suc c) h =
    ap (λ (k : ℕ). list_any (λ (m : ℕ). eqb m n) (take k t)) (sym (add-one c))
    ∙ list_any_more (λ (m : ℕ). eqb m n) t c 0 (omega arith)
    ∙ rw (used_before t n c (omega arith)) (turned n (get_or t c 0) (is_used n (numbers_before t c)))

-- a number that is used already makes no difference
used_again : (k n : ℕ) (us : List ℕ) → is_used n us ≡ true → is_used k (n ∷ us) ≡ is_used k us
unfolding is_used
used_again k n us h = go (eqb k n) refl
  where
    go : (t : Bool) → eqb k n ≡ t → (t || is_used k us) ≡ is_used k us
    go true e = sym (ap (λ (m : ℕ). is_used m us) (eqb-true k n e) ∙ h)
    go false e = refl

-- ---- one value more
abbrev more : ℕ → Kept → Kept
more n x =
    record {
      count = x.count + 1;
      numbers = set x.numbers x.count n;
      marks = set x.marks x.count (not (is_used n (numbers_before x.numbers x.count)));
    }

more_marks : (n : ℕ) (x : Kept) → length (more n x).marks ≡ length x.marks
more_marks n x = length-set x.marks x.count (not (is_used n (numbers_before x.numbers x.count)))

noted_more : (v : ValueDescriptor) (vs : List ValueDescriptor) (x : Kept) → x.count < 256 → noted x (v ∷ vs) ≡ noted (more (value_number v) x) vs
unfolding noted note choose
noted_more v vs x h = rw (lt-ltb x.count 256 h)

noted_full : (v : ValueDescriptor) (vs : List ValueDescriptor) (x : Kept) → 256 ≤ x.count → noted x (v ∷ vs) ≡ noted x vs
unfolding noted note choose
noted_full v vs x h = rw (le-ltb x.count 256 h)

-- marks that are set stay
module _ (j : ℕ) where
  stays : (vs : List ValueDescriptor) (x : Kept) → j < x.count → get_or (noted x vs).marks j false ≡ get_or x.marks j false
  unfolding noted
  stays [] x h = refl
  stays (v ∷ vs) x h = on (dec_lt x.count 256) (stays vs)
    where
      on : Dec (x.count < 256) → ((y : Kept) → j < y.count → get_or (noted y vs).marks j false ≡ get_or y.marks j false) → get_or (noted x (v ∷ vs)).marks j false ≡ get_or x.marks j false
      on (yes l) rest =
          ap (λ (y : Kept). get_or y.marks j false) (noted_more v vs x l) ∙ rest (more (value_number v) x) (omega arith)
          ∙ get_or-set_other x.marks x.count j _ false (λ e. omega arith)
      on (no l) rest = ap (λ (y : Kept). get_or y.marks j false) (noted_full v vs x (omega arith)) ∙ rest x h

as_many : (vs : List ValueDescriptor) (x : Kept) → length (noted x vs).marks ≡ length x.marks
unfolding noted
as_many [] x = refl
as_many (v ∷ vs) x = on (dec_lt x.count 256) (as_many vs)
  where
    on : Dec (x.count < 256) → ((y : Kept) → length (noted y vs).marks ≡ length y.marks) → length (noted x (v ∷ vs)).marks ≡ length x.marks
    on (yes l) rest = ap (λ (y : Kept). length y.marks) (noted_more v vs x l) ∙ rest (more (value_number v) x) ∙ more_marks (value_number v) x
    on (no l) rest = ap (λ (y : Kept). length y.marks) (noted_full v vs x (omega arith)) ∙ rest x

-- ---- from a state on; us: the numbers in use by the definition
abbrev Same : List ℕ → Kept → Type 0
Same us x = (k : ℕ) → is_used k us ≡ is_used k (numbers_before x.numbers x.count)

module _ (n : ℕ) (us : List ℕ) (x : Kept) (l : x.count < 256) (size : length x.numbers ≡ 256) (same : Same us x) where
  table : numbers_before (more n x).numbers (more n x).count ≡ n ∷ numbers_before x.numbers x.count
  table = before_more x.numbers x.count n (omega arith)

  same_new : Same (n ∷ us) (more n x)
  unfolding is_used
  same_new k = sym (ap (is_used k) table ∙ ap (λ (t : Bool). eqb k n || t) (sym (same k)))

  same_old : is_used n us ≡ true → Same us (more n x)
  same_old h k = sym (ap (is_used k) table ∙ used_again k n (numbers_before x.numbers x.count) (sym (same n) ∙ h) ∙ sym (same k))

kept_from : (vs : List ValueDescriptor) (us : List ℕ) (x : Kept) → length x.marks ≡ 256 → length x.numbers ≡ 256 → Same us x → marked (noted x vs).marks x.count vs ≡ mappings_from us (take (256 - x.count) vs)
unfolding marked mappings_from choose
kept_from [] us x ms ns same = ap (mappings_from us) (sym (take-nil (256 - x.count)))
kept_from (v ∷ vs) us x ms ns same = on (dec_lt x.count 256) (kept_from vs)
  where
    turn : (l : x.count < 256) (t : Bool) → is_used (value_number v) us ≡ t → ((us : List ℕ) (y : Kept) → length y.marks ≡ 256 → length y.numbers ≡ 256 → Same us y → marked (noted y vs).marks y.count vs ≡ mappings_from us (take (256 - y.count) vs))
        → choose (not t) (v ∷ marked (noted (more (value_number v) x) vs).marks (x.count + 1) vs) (marked (noted (more (value_number v) x) vs).marks (x.count + 1) vs)
        ≡ choose t (mappings_from us (take (256 - (x.count + 1)) vs)) (v ∷ mappings_from (value_number v ∷ us) (take (256 - (x.count + 1)) vs))
    turn l true e rest = rest us (more (value_number v) x) (more_marks (value_number v) x ∙ ms) (length-set x.numbers x.count (value_number v) ∙ ns) (same_old (value_number v) us x l ns same e)
    turn l false e rest =
        ap (λ (r : List ValueDescriptor). v ∷ r)
        (rest (value_number v ∷ us) (more (value_number v) x) (more_marks (value_number v) x ∙ ms) (length-set x.numbers x.count (value_number v) ∙ ns) (same_new (value_number v) us x l ns same))

    on : Dec (x.count < 256) → ((us : List ℕ) (y : Kept) → length y.marks ≡ 256 → length y.numbers ≡ 256 → Same us y → marked (noted y vs).marks y.count vs ≡ mappings_from us (take (256 - y.count) vs)) → marked (noted x (v ∷ vs)).marks x.count (v ∷ vs) ≡ mappings_from us (take (256 - x.count) (v ∷ vs))
    on (yes l) rest =
        let z : 256 - x.count ≡ suc (256 - (x.count + 1)) = omega arith in
        let mark : get_or (noted (more (value_number v) x) vs).marks x.count false ≡ not (is_used (value_number v) us) =
        stays x.count vs (more (value_number v) x) (omega arith) ∙ get_or-set_same x.marks x.count _ false (omega arith)
        ∙ ap not (sym (same (value_number v))) in
        ap (λ (y : Kept). marked y.marks x.count (v ∷ vs)) (noted_more v vs x l) ∙ rw (z, mark) (turn l (is_used (value_number v) us) refl rest)
    on (no l) rest =
        let z : 256 - x.count ≡ 0 = omega arith in
        none_marked (noted x (v ∷ vs)).marks x.count (v ∷ vs) (let q = as_many (v ∷ vs) x in omega arith)
        ∙ ap (λ (k : ℕ). mappings_from us (take k (v ∷ vs))) (sym z)

-- the values with a mark are the mappings of the first 256
pub kept_values : (x : Kept) (vs : List ValueDescriptor) → x ≡ noted no_values vs → marked x.marks 0 vs ≡ build_enum_value_mappings (take 256 vs)
unfolding is_used numbers_before
kept_values x vs e =
    ap (λ (y : Kept). marked y.marks 0 vs) e
    ∙ kept_from vs [] no_values (length-replicate {A = Bool} 256 false) (length-replicate {A = ℕ} 256 0) (λ k. refl)
