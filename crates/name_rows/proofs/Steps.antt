-- One step of each loop: a byte of a key, a row of a text; and two rows by their parts. Assumes nothing.
use Rattle.std.specs.List.{list_any, enumerate_from}
use Rattle.std.specs.Simd.{first_chunks}
use Rattle.std.specs.Prelude.{ℕ, zero, suc, ◌+◌, ◌-◌, ◌*◌, ◌/◌, ◌%◌, ◌^◌, ◌<◌, ◌≤◌, ◌≡◌, refl, Bool, true, false, ◌&&◌, ◌||◌, List, [], ◌∷◌, ◌++◌, length, get_or, take, drop, replicate}
use Rattle.std.proofs.Common.{sym, ap, ap₂, take_all, drop-drop, ◌∙◌, arith, add-one, length-drop, drop_of_length-le, drop-cons, take-append-drop}
use Rattle.std.proofs.lemmas.List.{length-replicate}
use Rattle.base.specs.Bytes.{same, same_refl, same_sound}
use Rattle.base.specs.Choose.{then_lt, else_lt}
use Rattle.base.specs.Tests.{and_left, and_right}
use Rattle.writer.specs.Wrote.{over}
use Rattle.writer.specs.Draft.{Draft, most, extended, Filled}
use Rattle.writer.proofs.Laying.{sets-take}
use Rattle.path.specs.Forms.{among}
use Rattle.code_generator.specs.Refusals.{overlap}
use Rattle.name_rows.specs.Rows.{key_length, row_length, key, key_text, checksum, rows_in}

-- ---- the checksum
pub checksum_more : (s : List ℕ) (h i x : ℕ) → i < length s → x ≡ get_or s i 0 → checksum ((h * 31 + x) % 2 ^ 32) (drop (i + 1) s) ≡ checksum h (drop i s)
unfolding checksum
checksum_more s h i x l e = rw (drop-cons s i 0 l, add-one, e)

pub checksum_end : (s : List ℕ) (h i : ℕ) → length s ≤ i → checksum h (drop i s) ≡ h
unfolding checksum
checksum_end s h i l = rw (drop_of_length-le s {i = i} l)

-- ---- a key is written into an array of zeros
pub key_is : {k : List ℕ} {n : ℕ} (home name : List ℕ) → Filled (replicate key_length 0) (key_text home name) k n → k ≡ key home name
unfolding key extended over
key_is home name w =
    ap (λ (d : Draft). d.buffer) w.is
    ∙ sets-take (replicate key_length 0) (key_text home name) 0 most (let l = length-replicate {A = ℕ} key_length 0 in omega arith)

-- ---- two rows by their parts
same_parts : (n : ℕ) (x y : List ℕ) → (same (drop n x) (drop n y) && same (take n x) (take n y)) ≡ same x y
same_parts n x y = by (same (drop n x) (drop n y) && same (take n x) (take n y)) (same x y) refl refl
  where
    by : (s t : Bool) → (same (drop n x) (drop n y) && same (take n x) (take n y)) ≡ s → same x y ≡ t → s ≡ t
    by true true e f = refl
    by false false e f = refl
    by true false e f =
        let behind = same_sound (drop n x) (drop n y) (and_left _ _ e) in
        let before = same_sound (take n x) (take n y) (and_right (same (drop n x) (drop n y)) _ e) in
        let is : x ≡ y = sym (take-append-drop n x) ∙ ap (λ (l : List ℕ). l ++ drop n x) before ∙ ap (λ (l : List ℕ). take n y ++ l) behind ∙ take-append-drop n y in
        sym (same_refl y) ∙ ap (λ (l : List ℕ). same l y) (sym is) ∙ f
    by false true e f =
        let is = same_sound x y f in
        sym e ∙ ap (λ (l : List ℕ). same (drop n l) (drop n y) && same (take n l) (take n y)) is ∙ rw (same_refl (drop n y), same_refl (take n y)) refl

-- m bytes stand behind the first n
module _ (n m : ℕ) (x y : List ℕ) (hx : length x ≡ n + m) (hy : length y ≡ n + m) (b : Bool) (is : b ≡ same (take m (drop n x)) (take m (drop n y))) where
  last : b ≡ same (drop n x) (drop n y)
  last = is ∙ ap₂ same (take_all m (drop n x) (rw length-drop (omega arith))) (take_all m (drop n y) (rw length-drop (omega arith)))

  pub same_behind : b ≡ false → b ≡ same x y
  same_behind h = h ∙ sym (ap (λ (t : Bool). t && same (take n x) (take n y)) (sym last ∙ h)) ∙ same_parts n x y

  pub same_before : b ≡ true → (c : Bool) → c ≡ same (take n x) (take n y) → c ≡ same x y
  same_before h c e = e ∙ sym (ap (λ (t : Bool). t && same (take n x) (take n y)) (sym last ∙ h)) ∙ same_parts n x y

-- ---- the rows of a text, as many as are whole
none_there : (n : ℕ) (t : List ℕ) → length t < row_length → [] ≡ rows_in n t
unfolding rows_in
none_there zero t h = refl
none_there (suc n) t h = then_lt _ _ _ (length t) row_length h refl

first_there : (n : ℕ) (t : List ℕ) → row_length ≤ length t → rows_in (suc n) t ≡ take row_length t ∷ rows_in n (drop row_length t)
unfolding rows_in
first_there n t h = sym (else_lt _ _ _ (length t) row_length h refl)

chunks_from : (n k : ℕ) (t : List ℕ) → length t ≤ n → k * 384 ≤ length t → length t < k * 384 + 384 → first_chunks 384 k t ≡ rows_in n t
chunks_from n zero t h a c = none_there n t (omega arith)
chunks_from zero (suc k) t h a c = absurd (omega arith)
chunks_from (suc n) (suc k) t h a c =
    let l = length-drop {A = ℕ} 384 t in
    ap (λ (rows : List (List ℕ)). take 384 t ∷ rows) (chunks_from n k (drop 384 t) (omega arith) (omega arith) (omega arith)) ∙ sym (first_there n t (omega arith))

pub chunks_are : (t : List ℕ) → first_chunks 384 (length t / 384) t ≡ rows_in (length t) t
chunks_are t = chunks_from (length t) (length t / 384) t (omega arith) (omega arith) (omega arith)

-- ---- a row among rows
pub any_among : (x : List ℕ) (rows : List (List ℕ)) → list_any (same x) rows ≡ among x rows
unfolding among
any_among x [] = refl
any_among x (row ∷ rows) = ap (λ (t : Bool). same x row || t) (any_among x rows)

-- ---- two rows that are the same: from row n on, each among those behind it
pub overlap_from : (t : List (List ℕ)) (n : ℕ) (xs : List (List ℕ)) → drop n t ≡ xs
    → list_any (λ (p : ℕ × List ℕ). among p.1 (take (length t - (p.0 + 1)) (drop (p.0 + 1) t))) (enumerate_from n xs) ≡ overlap xs
unfolding overlap
overlap_from t n [] e = refl
overlap_from t n (x ∷ xs) e =
    let next : drop (n + 1) t ≡ xs = sym (drop-drop 1 n t) ∙ ap (drop 1) e in
    let behind : take (length t - (n + 1)) (drop (n + 1) t) ≡ xs = take_all (length t - (n + 1)) (drop (n + 1) t) (rw length-drop (omega arith)) ∙ next in
    rw (behind, overlap_from t (n + 1) xs next)
