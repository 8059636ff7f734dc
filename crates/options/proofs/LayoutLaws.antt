-- The layout, row by row.
use Rattle.std.proofs.Common.{◌≡◌, refl, ap, ℕ, suc, ◌+◌, ◌-◌, ◌≤◌, ◌<◌, true, false, List, take, length, get_or, arith, min, lt-ltb, le-ltb}
use Rattle.std.proofs.lemmas.List.{get_or-take, take_min}
use Rattle.std.proofs.lemmas.Bool.{lt-leb}
use Rattle.std.proofs.Common.{le-leb, eq-eqb, ne_eqb}
use Rattle.base.specs.Choose.{choose}
use Rattle.options.specs.declared.rows.Header.{Header}
use Rattle.base.specs.declared.refusal.Refusal.TheVariants.{Layout}
use Rattle.std.specs.Prelude.{Ok, Err}
use Rattle.options.specs.Rows.{header}
use Rattle.options.specs.Settings.{number, row_count, path_length, value_length, bodies}
use Rattle.options.specs.Layout.{row_good, layout_from, layout}

module _ (s : List ℕ) (size n i at : ℕ) where
  pub layout_good : (h : Header) (to : ℕ) → i < n → h ≡ header s i → row_good s i at ≡ true → to ≡ at + (h.path_length + h.value_length) → layout_from s size (n - i) i at ≡ layout_from s size (n - (i + 1)) (i + 1) to
  unfolding layout_from choose
  layout_good h to l e g t =
      let k : n - i ≡ suc (n - (i + 1)) = omega arith in
      let p : h.path_length ≡ path_length s i = ap (λ (x : Header). x.path_length) e in
      let v : h.value_length ≡ value_length s i = ap (λ (x : Header). x.value_length) e in
      let q : to ≡ at + path_length s i + value_length s i = omega arith in
      rw (k, g, q) refl

  pub layout_broken : i < n → row_good s i at ≡ false → layout_from s size (n - i) i at ≡ Err (Layout i)
  unfolding layout_from choose
  layout_broken h g = let l : n - i ≡ suc (n - (i + 1)) = omega arith in rw (l, g) refl

  pub layout_fits : n ≡ i → at ≡ size → at ≤ 4096 → layout_from s size (n - i) i at ≡ Ok tt
  unfolding layout_from choose
  layout_fits h e m = let l : n - i ≡ 0 = omega arith in rw (l, eq-eqb at size e, le-leb at 4096 m) refl

  pub layout_ends : n ≡ i → (at ≡ size → ⊥) → layout_from s size (n - i) i at ≡ Err (Layout i)
  unfolding layout_from choose
  layout_ends h e = let l : n - i ≡ 0 = omega arith in rw (l, ne_eqb at size e) refl

  pub layout_long : n ≡ i → at ≡ size → 4096 < at → layout_from s size (n - i) i at ≡ Err (Layout i)
  unfolding layout_from choose
  layout_long h e m = let l : n - i ≡ 0 = omega arith in rw (l, eq-eqb at size e, lt-leb at 4096 m) refl

-- what is read of the file: its first 4,096 bytes
module _ (o : List ℕ) (h : 2 ≤ length o) where
  module _ (m : ℕ) (e : m ≡ min (length o) 4096) where
    pub count_read : row_count (take m o) ≡ row_count o
    unfolding row_count number
    count_read =
        let low : get_or (take m o) 0 0 ≡ get_or o 0 0 = get_or-take m o 0 0 (omega arith) in
        let high : get_or (take m o) 1 0 ≡ get_or o 1 0 = get_or-take m o 1 0 (omega arith) in
        omega (arith, low, high)

    read : take m o ≡ take 4096 o
    read = let k : m ≡ min 4096 (length o) = omega arith in rw k (take_min 4096 o)

    pub layout_read : row_count o ≤ 64 → layout o ≡ layout_from (take m o) (length o) (row_count (take m o)) 0 (bodies (take m o))
    unfolding layout bodies choose
    layout_read l = rw (count_read, le-ltb (length o) 2 h, le-leb (row_count o) 64 l, read) refl

  pub layout_many : 64 < row_count o → layout o ≡ Err (Layout 0)
  unfolding layout choose
  layout_many l = rw (le-ltb (length o) 2 h, lt-leb (row_count o) 64 l) refl

pub layout_short : (o : List ℕ) → length o < 2 → layout o ≡ Err (Layout 0)
unfolding layout choose
layout_short o h = rw (lt-ltb (length o) 2 h) refl

pub ruleset layouts = (layout_good, layout_broken, layout_fits, layout_ends, layout_long)

pub ruleset whole_layouts = (count_read, layout_read, layout_many, layout_short)
