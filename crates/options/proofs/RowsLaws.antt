-- The rows that are left are the first, and those behind it.
use Rattle.std.proofs.Common.{◌≡◌, refl, sym, ap, ◌∙◌, ℕ, zero, suc, ◌+◌, ◌-◌, ◌*◌, ◌^◌, ◌≤◌, ◌<◌, min, List, [], ◌∷◌, length, take, drop, get_or, arith, drop_of_length-le, length-drop}
use Rattle.std.proofs.lemmas.List.{length-take, drop-drop, get_or_past}
use Rattle.std.proofs.Math.Seq.{take-length}
use Rattle.std.proofs.Math.Decide.{dec_le}
use Rattle.options.specs.declared.rows.Header.{Header}
use Rattle.options.specs.Rows.{header, row_at}
use Rattle.options.specs.Settings.{Setting, number, row_count, kind_at, path_length, value_length, zero_at, bodies, settings_from, settings}

-- past the end, a later start is no other
past : (o : List ℕ) (k i at to : ℕ) → length o ≤ at → length o ≤ to → settings_from o k i at ≡ settings_from o k i to
unfolding settings_from
past o zero i at to h l = refl
past o (suc k) i at to h l =
    rw (drop_of_length-le o {i = at} h, drop_of_length-le o {i = to} l, drop_of_length-le o {i = at + path_length o i} (omega arith), drop_of_length-le o {i = to + path_length o i} (omega arith), past o k (i + 1) (at + path_length o i + value_length o i) (to + path_length o i + value_length o i) (omega arith) (omega arith)) refl

-- a body that starts past the end starts at the end
pub same_start : (o : List ℕ) (k i at to : ℕ) → to ≡ min at (length o) → settings_from o k i at ≡ settings_from o k i to
same_start o k i at to e = on (dec_le at (length o))
  where
    on : Dec (at ≤ length o) → settings_from o k i at ≡ settings_from o k i to
    on (yes h) = let l : to ≡ at = omega arith in rw l refl
    on (no h) = past o k i at to (omega arith) (omega arith)

pub rows_start : (o : List ℕ) (n at : ℕ) → n ≡ row_count o → at ≡ min (bodies o) (length o) → settings_from o (n - 0) 0 at ≡ settings o
unfolding settings
rows_start o n at e q =
    let l : n - 0 ≡ n = omega arith in
    rw (l, e) (sym (same_start o (row_count o) 0 (bodies o) at q))

pub rows_length : (o : List ℕ) (k i at : ℕ) → length (settings_from o k i at) ≡ k
unfolding settings_from
rows_length o zero i at = refl
rows_length o (suc k) i at = ap suc (rows_length o k (i + 1) (at + path_length o i + value_length o i))

pub settings_length : (o : List ℕ) → length (settings o) ≡ row_count o
unfolding settings
settings_length o = rows_length o (row_count o) 0 (bodies o)

pub rows_end : (o : List ℕ) (n i at : ℕ) → n ≤ i → settings_from o (n - i) i at ≡ []
unfolding settings_from
rows_end o n i at h = let l : n - i ≡ 0 = omega arith in rw l refl

-- behind as many bytes as there are
dropped : (n : ℕ) (xs : List ℕ) → drop (length (take n xs)) xs ≡ drop n xs
dropped zero [] = refl
dropped zero (x ∷ xs) = refl
dropped (suc n) [] = refl
dropped (suc n) (x ∷ xs) = dropped n xs

whole : (at : ℕ) (o : List ℕ) → take (length o - at) (drop at o) ≡ drop at o
whole at o = let e : length o - at ≡ length (drop at o) = sym (length-drop at o) in rw e (take-length (drop at o))

-- a row as the code reads it: h is its head
pub row_read : (o : List ℕ) (i at : ℕ) (h : Header) (path value : List ℕ) → h ≡ header o i → path ≡ take h.path_length (take (length o - at) (drop at o)) → value ≡ take h.value_length (take (length (take (length o - at) (drop at o)) - length path) (drop (length path) (take (length o - at) (drop at o)))) → (let s : Setting = record { kind = h.kind; path = path; value = value } in s ≡ row_at o i at)
row_read o i at h path value e p v =
    let heads : h.kind ≡ kind_at o i = ap (λ (x : Header). x.kind) e in
    let lengths : h.path_length ≡ path_length o i = ap (λ (x : Header). x.path_length) e in
    let others : h.value_length ≡ value_length o i = ap (λ (x : Header). x.value_length) e in
    let q : path ≡ take (path_length o i) (drop at o) = rw (whole at o, lengths) at p in
    let w : value ≡ take (value_length o i) (drop (length path) (drop at o)) = rw (whole at o, whole (length path) (drop at o), others) at v in
    let behind : drop (length path) (drop at o) ≡ drop (at + path_length o i) o = rw q (dropped (path_length o i) (drop at o) ∙ drop-drop (path_length o i) at o) in
    rw (heads, w, behind, q) refl

-- a row whose body starts past the end starts at the end
pub row_start : (o : List ℕ) (i at to : ℕ) → to ≡ min at (length o) → row_at o i to ≡ row_at o i at
row_start o i at to e = on (dec_le at (length o))
  where
    on : Dec (at ≤ length o) → row_at o i to ≡ row_at o i at
    on (yes h) = let l : to ≡ at = omega arith in rw l refl
    on (no h) = rw (drop_of_length-le o {i = to} (omega arith), drop_of_length-le o {i = at} (omega arith), drop_of_length-le o {i = to + path_length o i} (omega arith), drop_of_length-le o {i = at + path_length o i} (omega arith)) refl

row_suc : (o : List ℕ) (k i at : ℕ) → at ≤ length o → settings_from o (suc k) i at ≡ row_at o i at ∷ settings_from o k (i + 1) (at + (length (row_at o i at).path + length (row_at o i at).value))
unfolding settings_from
row_suc o k i at h =
    let a : length (row_at o i at).path ≡ min (path_length o i) (length o - at) = simp (length-take, length-drop) in
    let c : length (row_at o i at).value ≡ min (value_length o i) (length o - (at + path_length o i)) = simp (length-take, length-drop) in
    rw (same_start o k (i + 1) (at + path_length o i + value_length o i) (at + (length (row_at o i at).path + length (row_at o i at).value)) (omega arith)) refl

pub first_row : (o : List ℕ) (n i at : ℕ) (r : Setting) → i < n → at ≤ length o → r ≡ row_at o i at → settings_from o (n - i) i at ≡ r ∷ settings_from o (n - (i + 1)) (i + 1) (at + (length r.path + length r.value))
first_row o n i at r l b e =
    let k : n - i ≡ suc (n - (i + 1)) = omega arith in
    rw (k, e) (row_suc o (n - (i + 1)) i at b)

-- a head past the end is that of any row past the end
number_past : (o : List ℕ) (at : ℕ) → length o ≤ at → number o at ≡ 0
unfolding number
number_past o at h =
    let low : get_or o at 0 ≡ 0 = get_or_past o at 0 h in
    let high : get_or o (at + 1) 0 ≡ 0 = get_or_past o (at + 1) 0 (omega arith) in
    omega (arith, low, high)

head_past : (o : List ℕ) (i j : ℕ) → length o ≤ 2 + i * 8 → length o ≤ 2 + j * 8 → header o i ≡ header o j
unfolding kind_at path_length value_length zero_at
head_past o i j h l =
    rw (number_past o (2 + i * 8) (omega arith), number_past o (4 + i * 8) (omega arith), number_past o (6 + i * 8) (omega arith), number_past o (8 + i * 8) (omega arith))
    (rw (number_past o (2 + j * 8) (omega arith), number_past o (4 + j * 8) (omega arith), number_past o (6 + j * 8) (omega arith), number_past o (8 + j * 8) (omega arith)) refl)

-- a head as the code reads it
pub head_read : (o : List ℕ) (i j : ℕ) → length o < 2 ^ 63 → j ≡ min i (2 ^ 60) → header o j ≡ header o i
head_read o i j small e = on (dec_le i (2 ^ 60))
  where
    on : Dec (i ≤ 2 ^ 60) → header o j ≡ header o i
    on (yes h) = let l : j ≡ i = omega arith in rw l refl
    on (no h) = head_past o j i (omega arith) (omega arith)

-- it lies in the file
pub row_inside : (o : List ℕ) (i at : ℕ) (r : Setting) → at ≤ length o → r ≡ row_at o i at → at + (length r.path + length r.value) ≤ length o
row_inside o i at r h e =
    let a : length r.path ≡ min (path_length o i) (length o - at) = rw e (simp (length-take, length-drop)) in
    let c : length r.value ≡ min (value_length o i) (length o - (at + path_length o i)) = rw e (simp (length-take, length-drop)) in
    omega arith

pub ruleset rows = (rows_end, row_inside)

pub ruleset all_rows = (rows_start, rows_length)
