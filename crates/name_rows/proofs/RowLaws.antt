-- Rows of places: those of a text that has them one behind the other, and that same rows are those of same places. Assumes nothing.
use Rattle.std.specs.Prelude.{ℕ, zero, suc, ◌+◌, ◌-◌, ◌*◌, ◌^◌, ◌<◌, ◌≤◌, ◌≡◌, refl, Bool, true, false, ◌&&◌, ◌||◌, not, List, [], ◌∷◌, ◌++◌, map, length, get_or, take, drop, replicate}
use Rattle.std.proofs.Common.{sym, ap, ap₂, ◌∙◌, append_assoc, append-nil, arith, length-append, length-take, take-append-drop, drop_of_length-le, take_all, take_at, drop_at, length-take-le}
use Rattle.std.proofs.Math.Decide.{dec_le}
use Rattle.std.proofs.lemmas.List.{length-replicate}
use Rattle.base.specs.Bytes.{same, same_refl, same_sound, same_length}
use Rattle.base.specs.Choose.{else_lt}
use Rattle.base.specs.Lists.{all_of, any, Every}
use Rattle.base.specs.Tests.{both_ways, and_left, and_right, and_both, same_test}
use Rattle.heck.specs.Case.{between}
use Rattle.writer.specs.Wrote.{over, over_length, over_cut}
use Rattle.writer.specs.Draft.{Filled}
use Rattle.writer.proofs.TextLaws.{wholly}
use Rattle.ident.specs.Convert.{padded}
use Rattle.ident.specs.Name.{name_start, name_part, every}
use Rattle.ident.proofs.EveryLaws.{every_head, every_tail}
use Rattle.ident.proofs.Written.{written}
use Rattle.ident.proofs.Sizes.{written_padded}
use Rattle.descriptor.specs.Descriptor.{Bytes}
use Rattle.path.specs.Forms.{among}
use Rattle.code_generator.specs.Refusals.{overlap}
use Rattle.name_check.specs.NameCheck.{Place, same_place, places_differ}
use Rattle.name_rows.specs.Rows.{key_length, row_length, key, four_bytes, with_checksum, row, place_row, rows_of, rows_in}

-- ---- a row has 384 bytes
pub key_size : (home name : Bytes) → length (key home name) ≡ key_length
unfolding key
key_size home name = over_length (replicate key_length 0) 0 _ ∙ length-replicate {A = ℕ} key_length 0

pub row_size : (home name : Bytes) → length (row home name) ≡ row_length
unfolding row with_checksum four_bytes
row_size home name = length-append (key home name) _ ∙ ap (λ (n : ℕ). n + 4) (key_size home name)

-- a row fills its buffer
pub row_filled : {t : Bytes} {n : ℕ} (home name : Bytes) → Filled (replicate row_length 0) (row home name) t n → t ≡ row home name
row_filled home name w =
    let zeros = length-replicate {A = ℕ} row_length 0 in
    let size = row_size home name in
    wholly w (omega arith) (omega arith) ∙ ap (λ (l : Bytes). row home name ++ l) (drop_of_length-le (replicate row_length 0) {i = length (row home name)} (omega arith)) ∙ append-nil (row home name)

-- ---- a text that has rows one behind the other
pub rows_first : (n : ℕ) (x t : Bytes) → length x ≡ row_length → rows_in (suc n) (x ++ t) ≡ x ∷ rows_in n t
unfolding rows_in
rows_first n x t e =
    let l : row_length ≤ length (x ++ t) = rw (length-append x t, e) (omega arith) in
    sym (else_lt _ _ _ (length (x ++ t)) row_length l refl) ∙ ap₂ ◌∷◌ (take_at x t row_length e) (ap (rows_in n) (drop_at x t row_length e))

pub rows_back : (ps : List Place) (rest : Bytes) → rows_in (length ps) (rows_of ps ++ rest) ≡ map place_row ps
unfolding rows_in all_of
rows_back [] rest = refl
rows_back (p ∷ ps) rest =
    ap (rows_in (suc (length ps))) (append_assoc (place_row p) (rows_of ps) rest)
    ∙ rows_first (length ps) (place_row p) (rows_of ps ++ rest) (row_size p.home p.name)
    ∙ ap (λ (l : List Bytes). place_row p ∷ l) (rows_back ps rest)

pub rows_size : (ps : List Place) → length (rows_of ps) ≡ length ps * row_length
unfolding all_of
rows_size [] = refl
rows_size (p ∷ ps) = rw (length-append (place_row p) (rows_of ps), row_size p.home p.name, rows_size ps) (omega arith)

-- ---- a place whose row is its own: short, and without a byte 0
abbrev pub Plain : Bytes → Type 0
Plain [] = Unit {0}
Plain (x ∷ xs) = (0 < x) × Plain xs

not_zero : (p : ℕ → Bool) → p 0 ≡ false → (c : ℕ) → p c ≡ true → 0 < c
not_zero p z zero h = both_ways h z
not_zero p z (suc c) h = omega arith

pub every_plain : (p : ℕ → Bool) → p 0 ≡ false → (s : Bytes) → every p s ≡ true → Plain s
every_plain p z [] h = tt
every_plain p z (c ∷ s) h = (not_zero p z c (every_head p c s h), every_plain p z s (every_tail p c s h))

pub written_plain : (s : Bytes) → every written s ≡ true → Plain s
unfolding name_part name_start between
written_plain s h = every_plain written refl s h

pub record Holds (p : Place) : Type 0 where
  pub plain_home : Plain p.home
  pub plain_name : Plain p.name
  pub short_home : length p.home ≤ 256
  pub fits : length p.home + length p.name < key_length

in_zeros : (n : ℕ) (p : Bytes) → n < 2 ^ 63 → length p ≤ n → over (replicate n 0) 0 p ≡ padded n p
in_zeros n p l h = written_padded {n = n} {p = p} (record { room = rw (length-replicate {A = ℕ} n 0) l; text = refl; next = refl }) h

key_is : (home name : Bytes) → length home + length name < key_length → key home name ≡ padded key_length (home ++ (0 ∷ []) ++ name)
unfolding key
key_is home name h =
    in_zeros key_length (home ++ (0 ∷ []) ++ name) (omega arith) (omega (arith, length-append (home ++ (0 ∷ [])) name, length-append home (0 ∷ [])))

-- what stands before the first zero, and behind it
around_zero : (x y p q : Bytes) → Plain x → Plain y → x ++ (0 ∷ p) ≡ y ++ (0 ∷ q) → (x ≡ y) × (p ≡ q)
around_zero [] [] p q h k e = (refl, ap (drop 1) e)
around_zero [] (y ∷ ys) p q h k e = let z : 0 ≡ y = ap (λ (l : Bytes). get_or l 0 0) e in absurd (omega (arith, k.0))
around_zero (x ∷ xs) [] p q h k e = let z : x ≡ 0 = ap (λ (l : Bytes). get_or l 0 0) e in absurd (omega (arith, h.0))
around_zero (x ∷ xs) (y ∷ ys) p q h k e =
    let rest = around_zero xs ys p q h.1 k.1 (ap (drop 1) e) in
    (ap₂ ◌∷◌ (ap (λ (l : Bytes). get_or l 0 0) e) rest.0, rest.1)

no_first : (n : ℕ) → get_or (replicate {A = ℕ} n 0) 0 0 ≡ 0
no_first zero = refl
no_first (suc n) = refl

before_zeros : (x y : Bytes) (n k : ℕ) → Plain x → Plain y → x ++ replicate n 0 ≡ y ++ replicate k 0 → x ≡ y
before_zeros [] [] n k h j e = refl
before_zeros [] (y ∷ ys) n k h j e = let z : 0 ≡ y = sym (no_first n) ∙ ap (λ (l : Bytes). get_or l 0 0) e in absurd (omega (arith, j.0))
before_zeros (x ∷ xs) [] n k h j e = let z : x ≡ 0 = ap (λ (l : Bytes). get_or l 0 0) e ∙ no_first k in absurd (omega (arith, h.0))
before_zeros (x ∷ xs) (y ∷ ys) n k h j e = ap₂ ◌∷◌ (ap (λ (l : Bytes). get_or l 0 0) e) (before_zeros xs ys n k h.1 j.1 (ap (drop 1) e))

-- what a row says of its place
row_key : (home name : Bytes) → take key_length (row home name) ≡ key home name
unfolding row with_checksum
row_key home name = take_at (key home name) _ key_length (key_size home name)

-- so many zeros stand behind the name
abbrev zeros : Bytes → Bytes → ℕ
zeros home name = key_length - length (home ++ (0 ∷ []) ++ name)

told : (home name : Bytes) → length home + length name < key_length → take key_length (row home name) ≡ home ++ (0 ∷ (name ++ replicate (zeros home name) 0))
unfolding padded
told home name h =
    row_key home name ∙ key_is home name h ∙ append_assoc (home ++ (0 ∷ [])) name (replicate (zeros home name) 0)
    ∙ append_assoc home (0 ∷ []) (name ++ replicate (zeros home name) 0)

are : (x y : Bytes) → x ≡ y → same x y ≡ true
are x y e = rw e (same_refl y)

module _ (p q : Place) (h : Holds p) (k : Holds q) where
  module _ (e : place_row p ≡ place_row q) where
    texts : p.home ++ (0 ∷ (p.name ++ replicate (zeros p.home p.name) 0)) ≡ q.home ++ (0 ∷ (q.name ++ replicate (zeros q.home q.name) 0))
    texts = sym (told p.home p.name h.fits) ∙ ap (take key_length) e ∙ told q.home q.name k.fits

    split_texts : (p.home ≡ q.home) × (p.name ++ replicate (zeros p.home p.name) 0 ≡ q.name ++ replicate (zeros q.home q.name) 0)
    split_texts = around_zero p.home q.home _ _ h.plain_home k.plain_home texts

    row_home : p.home ≡ q.home
    row_home = split_texts.0

    row_name : p.name ≡ q.name
    row_name = before_zeros p.name q.name (zeros p.home p.name) (zeros q.home q.name) h.plain_name k.plain_name split_texts.1

  -- same rows are those of same places
  pub row_same : same (place_row p) (place_row q) ≡ same_place p q
  row_same =
      same_test (same (place_row p) (place_row q)) (same_place p q)
      (λ e. let r = same_sound (place_row p) (place_row q) e in and_both (are p.home q.home (row_home r)) (are p.name q.name (row_name r)))
      (λ e.
      let home = same_sound p.home q.home (and_left (same p.home q.home) (same p.name q.name) e) in
      let name = same_sound p.name q.name (and_right (same p.home q.home) (same p.name q.name) e) in
      are (place_row p) (place_row q) (ap₂ row home name))

pub among_rows : (p : Place) (ps : List Place) → Holds p → Every Holds ps → among (place_row p) (map place_row ps) ≡ any (same_place p) ps
unfolding among any
among_rows p [] h hs = refl
among_rows p (q ∷ ps) h hs = ap₂ ◌||◌ (row_same p q h hs.0) (among_rows p ps h hs.1)

de_morgan : (a c : Bool) → (a || not c) ≡ not (not a && c)
de_morgan true c = refl
de_morgan false c = refl

-- ---- names in no module, whatever their length: one of the two is short
pub first_bytes : (n : ℕ) (x y : Bytes) → length x < n → same x (take n y) ≡ same x y
first_bytes n x y h = on (dec_le (length y) n)
  where
    on : Dec (length y ≤ n) → same x (take n y) ≡ same x y
    on (yes k) = ap (same x) (take_all n y k)
    on (no k) =
        let l = length-take-le n y (omega arith) in
        same_length x (take n y) (λ e. omega arith) ∙ sym (same_length x y (λ e. omega arith))

cut_row : (y : Bytes) → row [] y ≡ row [] (take 379 y)
unfolding row key
cut_row y =
    ap with_checksum
    (ap (λ (l : Bytes). over (replicate key_length 0) 0 (0 ∷ l)) (sym (take-append-drop 379 y)) ∙ cut (dec_le 379 (length y)))
  where
    cut : Dec (379 ≤ length y) → over (replicate key_length 0) 0 (0 ∷ (take 379 y ++ drop 379 y)) ≡ over (replicate key_length 0) 0 (0 ∷ take 379 y)
    cut (yes h) =
        let l = length-take-le 379 y h in
        let k = length-replicate {A = ℕ} key_length 0 in
        over_cut (replicate key_length 0) 0 (0 ∷ take 379 y) (drop 379 y) (omega arith)
    cut (no h) = ap (λ (l : Bytes). over (replicate key_length 0) 0 (0 ∷ l)) (ap (λ (l : Bytes). take 379 y ++ l) (drop_of_length-le y {i = 379} (omega arith)) ∙ append-nil (take 379 y))

plain_take : (n : ℕ) (y : Bytes) → Plain y → Plain (take n y)
plain_take zero y h = tt
plain_take (suc n) [] h = tt
plain_take (suc n) (c ∷ y) h = (h.0, plain_take n y h.1)

abbrev pub nowhere : Bytes → Place
nowhere x = record { home = []; name = x }

pub same_names : (x y : Bytes) → Plain x → Plain y → length x < 379 → same (place_row (nowhere x)) (place_row (nowhere y)) ≡ same x y
unfolding same
same_names x y h k l =
    let short = length-take 379 y in
    ap (same (place_row (nowhere x))) (cut_row y)
    ∙ row_same (nowhere x) (nowhere (take 379 y)) (record { plain_home = tt; plain_name = h; short_home = omega arith; fits = omega arith }) (record { plain_home = tt; plain_name = plain_take 379 y k; short_home = omega arith; fits = omega arith })
    ∙ first_bytes 379 x y l

-- two rows are the same exactly if two places are
pub rows_differ : (ps : List Place) → Every Holds ps → overlap (map place_row ps) ≡ not (places_differ ps)
unfolding overlap places_differ
rows_differ [] hs = refl
rows_differ (p ∷ ps) hs = ap₂ ◌||◌ (among_rows p ps hs.0 hs.1) (rows_differ ps hs.1) ∙ de_morgan (any (same_place p) ps) (places_differ ps)
