-- How long paths can be, and what options add. Assumes nothing.
use Rattle.std.specs.Prelude.{◌≡◌, ◌&&◌, ℕ, zero, suc, ◌+◌, ◌*◌, ◌-◌, ◌≤◌, eqb, length, drop, get_or}
use Rattle.std.proofs.Common.{length-append, length-drop}
use Rattle.std.proofs.Math.Option.{Option, some, none}
use mathlib.Core.List.{List, [], ◌∷◌, ◌++◌, map}
use native.Mathlib.Omega.{arith}
use Rattle.base.specs.Bytes.{b, same}
use Rattle.base.specs.Choose.{choose_case}
use Rattle.base.specs.Lists.{Every, every_append}
use Rattle.writer.specs.Text.{each}
use Rattle.heck.specs.Case.{join}
use Rattle.ident.specs.Ident.{to_snake, to_upper_camel}
use Rattle.options.specs.Settings.{Setting, value_of, or_else, prost_path}
use Rattle.path.specs.Forms.{among, sub_path_iter}
use Rattle.path.specs.PathMap.{get, get_in}
use Rattle.extern_paths.specs.Split.{begins, push, split_behind, split}
use Rattle.extern_paths.specs.ExternPaths.{extern, prost_types, if_given, extern_paths, taker, taken, Segment, snake, written, first_segment, rust_path, behind_prefix, resolve_by, resolve_ident, extern_text}
use Rattle.code_generator.specs.Piece.{through, way_text}
use Rattle.code_generator.specs.Resolve.{local_path, front, last_name, ident_path, ident_type, skip_common, way}
use Rattle.text_length.specs.Names.{snake_long, camel_long}

-- the bytes of all names, and one more for each
abbrev pub total : List (List ℕ) → ℕ
total [] = 0
total (x ∷ xs) = length x + 1 + total xs

push_total : (c : ℕ) (xs : List (List ℕ)) → total (push c xs) ≤ total xs + 2
push_total c [] = omega arith
push_total c (x ∷ xs) = omega arith

-- each byte is in one part, or in a separator; a part more than separators
behind_total : (sep : List ℕ) (n : ℕ) (s : List ℕ) → total (split_behind sep n s) ≤ 2 * length s + 1
unfolding split_behind
behind_total sep n [] = omega arith
behind_total sep (suc n) (c ∷ s) = let h = behind_total sep n s in omega arith
behind_total sep zero (c ∷ s) =
    choose_case (λ (xs : List (List ℕ)). total xs ≤ 2 * length (c ∷ s) + 1) (begins sep (c ∷ s))
    (λ _. let h = behind_total sep (length sep - 1) s in omega arith)
    (λ _. let h = behind_total sep zero s in let k = push_total c (split_behind sep zero s) in omega arith)

split_total : (sep s : List ℕ) → total (split sep s) ≤ 2 * length s + 1
unfolding split
split_total sep s = behind_total sep zero s

count_total : (xs : List (List ℕ)) → length xs ≤ total xs
count_total [] = omega arith
count_total (x ∷ xs) = let h = count_total xs in omega arith

front_total : (xs : List (List ℕ)) → total (front xs) ≤ total xs
front_total [] = omega arith
front_total (x ∷ []) = omega arith
front_total (x ∷ (y ∷ xs)) = let h = front_total (y ∷ xs) in omega arith

last_total : (xs : List (List ℕ)) → length (last_name xs) ≤ total xs
last_total [] = omega arith
last_total (x ∷ []) = omega arith
last_total (x ∷ (y ∷ xs)) = let h = last_total (y ∷ xs) in omega arith

module _ where
  -- what is left is no more than what there was
  abbrev Less : List (List ℕ) → List (List ℕ) → (List (List ℕ) × List (List ℕ)) → Type 0
  Less xs ys p = (length p.0 ≤ length xs) × (total p.1 ≤ total ys)

  skipped : (xs ys : List (List ℕ)) → Less xs ys (skip_common xs ys)
  unfolding skip_common
  skipped [] ys = (omega arith, omega arith)
  skipped (x ∷ xs) [] = (omega arith, omega arith)
  skipped (x ∷ xs) (y ∷ ys) =
      choose_case (λ (p : List (List ℕ) × List (List ℕ)). Less (x ∷ xs) (y ∷ ys) p) (same x y)
      (λ _. let h = skipped xs ys in let h0 = h.0 in let h1 = h.1 in (omega arith, omega arith))
      (λ _. (omega arith, omega arith))

local_long : (scope : List ℕ) → length (local_path scope) ≤ 2 * length scope + 1
unfolding local_path
local_long [] = omega arith
local_long (c ∷ s) = let h = count_total (split (b ".") s) in let k = split_total (b ".") s in omega arith

through_long : (ms : List (List ℕ)) → length (through ms) ≤ 4 * total ms
unfolding through
through_long [] = omega arith
through_long (m ∷ ms) =
    let h = snake_long m in
    let k = through_long ms in
    let e = length-append (to_snake m ++ b "::") (through ms) in
    let f = length-append (to_snake m) (b "::") in
    omega arith

supers_long : (n : ℕ) → length (each (λ _. b "super::") n) ≤ n * 7
supers_long zero = omega arith
supers_long (suc n) = let h = supers_long n in let e = length-append (each (λ _. b "super::") n) (b "super::") in omega arith

-- the path from a scope to a type
pub way_long : (scope ident : List ℕ) → length (way_text (way scope ident)) ≤ 14 * length scope + 20 * length ident + 50
unfolding way_text way ident_path ident_type
way_long scope ident =
    let d : length (drop 1 ident) ≤ length ident = let e = length-drop 1 ident in omega arith in
    let names = split (b ".") (drop 1 ident) in
    let n = split_total (b ".") (drop 1 ident) in
    let f = front_total names in
    let l = last_total names in
    let p = skip_common (local_path scope) (front names) in
    let k = skipped (local_path scope) (front names) in
    let k0 = k.0 in
    let k1 = k.1 in
    let a = local_long scope in
    let s = supers_long (length p.0) in
    let t = through_long p.1 in
    let c = camel_long (last_name names) in
    let e = length-append (each (λ _. b "super::") (length p.0) ++ through p.1) (to_upper_camel (last_name names)) in
    let g = length-append (each (λ _. b "super::") (length p.0)) (through p.1) in
    omega arith

-- ---- options: so many rows, with values of so many bytes
pub record Small (rs : List Setting) : Type 0 where
  pub few : length rs ≤ 64
  pub short : Every (λ (r : Setting). length r.value ≤ 4096) rs

value_short : (kind : ℕ) (rs : List Setting) (d : List ℕ) → length d ≤ 4096 → Every (λ (r : Setting). length r.value ≤ 4096) rs → length (or_else (value_of kind rs) d) ≤ 4096
unfolding value_of
value_short kind [] d h k = h
value_short kind (r ∷ rs) d h k = choose_case (λ (o : Option (List ℕ)). length (or_else o d) ≤ 4096) (eqb r.kind kind) (λ _. k.0) (λ _. value_short kind rs d h k.1)

pub prost_short : {rs : List Setting} → Small rs → length (prost_path rs) ≤ 4096
unfolding prost_path
prost_short {rs} s = value_short 10 rs (b "::prost") (omega arith) s.short

-- the values of a path
pub record FewValues (n : ℕ) (vs : List (List ℕ)) : Type 0 where
  pub few : length vs ≤ n
  pub short : Every (λ (v : List ℕ). length v ≤ 4096) vs

got : (kind : ℕ) (forms : List (List ℕ)) (rs : List Setting) → Every (λ (r : Setting). length r.value ≤ 4096) rs → FewValues (length rs) (get_in kind forms rs)
unfolding get_in
got kind forms [] h = record { few = omega arith; short = tt }
got kind forms (r ∷ rs) h =
    let k = got kind forms rs h.1 in
    let f = k.few in
    choose_case (λ (vs : List (List ℕ)). FewValues (suc (length rs)) vs) (eqb r.kind kind && among r.path forms)
    (λ _. record { few = omega arith; short = (h.0, k.short) })
    (λ _. record { few = omega arith; short = k.short })

pub values_few : {rs : List Setting} → Small rs → (kind : ℕ) (path : List ℕ) → FewValues 64 (get kind path rs)
values_few {rs} s kind path =
    let k = got kind (sub_path_iter path) rs s.short in
    let f = k.few in
    let g = s.few in
    record { few = omega arith; short = k.short }

-- ---- what an extern path stands for
-- the bytes of all segments, and two more for each
abbrev spread : List Segment → ℕ
spread [] = 0
spread (x ∷ xs) = length (written x) + 2 + spread xs

spread_append : (xs ys : List Segment) → spread (xs ++ ys) ≡ spread xs + spread ys
spread_append [] ys = omega arith
spread_append (x ∷ xs) ys = let h = spread_append xs ys in omega arith

join_long : (xs : List Segment) → length (join (b "::") (map written xs)) ≤ spread xs
join_long [] = omega arith
join_long (x ∷ []) = omega arith
join_long (x ∷ (y ∷ xs)) =
    let h = join_long (y ∷ xs) in
    let e = length-append (written x) (b "::" ++ join (b "::") (map written (y ∷ xs))) in
    omega arith

snakes_long : (xs : List (List ℕ)) → spread (map snake xs) ≤ 4 * total xs
snakes_long [] = omega arith
snakes_long (x ∷ xs) = let h = snakes_long xs in let k = snake_long x in omega arith

rust_path_long : (xs : List (List ℕ)) → spread (rust_path xs) ≤ 4 * total xs
unfolding first_segment
rust_path_long [] = omega arith
rust_path_long (x ∷ xs) =
    let h = snakes_long xs in
    let k : length (written (first_segment x)) ≤ 2 * length x + 2 =
    choose_case (λ (s : Segment). length (written s) ≤ 2 * length x + 2) (same x (b "crate")) (λ _. omega arith) (λ _. snake_long x) in
    omega arith

behind_long : (xs : List (List ℕ)) → spread (behind_prefix xs) ≤ 4 * total xs
behind_long [] = omega arith
behind_long (x ∷ []) = let k = camel_long x in omega arith
behind_long (x ∷ (y ∷ xs)) = let h = behind_long (y ∷ xs) in let k = snake_long x in omega arith

by_long : (e : Setting) (ident : List ℕ) → spread (resolve_by e ident) ≤ 10 * length e.value + 10 * length ident + 20
unfolding resolve_by
by_long e ident =
    choose_case (λ (xs : List Segment). spread xs ≤ 10 * length e.value + 10 * length ident + 20) (same e.path ident) (λ _. omega arith)
    (λ _.
    let d : length (drop (length e.path + 1) ident) ≤ length ident = let f = length-drop (length e.path + 1) ident in omega arith in
    let h = rust_path_long (split (b "::") e.value) in
    let k = behind_long (split (b ".") (drop (length e.path + 1) ident)) in
    let m = split_total (b "::") e.value in
    let n = split_total (b ".") (drop (length e.path + 1) ident) in
    let a = spread_append (rust_path (split (b "::") e.value)) (behind_prefix (split (b ".") (drop (length e.path + 1) ident))) in
    omega arith)

abbrev Short : List Setting → Type 0
Short rs = Every (λ (r : Setting). length r.value ≤ 5000) rs

to_short : (rs : List Setting) → Every (λ (r : Setting). length r.value ≤ 4096) rs → Short rs
to_short [] h = tt
to_short (r ∷ rs) h = let k = h.0 in (omega arith, to_short rs h.1)

types_short : (p v : List ℕ) → length p ≤ 4096 → length v ≤ 4096 → Short (prost_types p v)
unfolding prost_types
types_short p v h k =
    let e = length-append p (b "::alloc::vec::Vec<u8>") in
    let f = length-append p (b "::alloc::string::String") in
    (omega arith, (omega arith, (omega arith, (omega arith, (omega arith, (omega arith, (omega arith, (omega arith, (omega arith, (omega arith, (omega arith, tt)))))))))))

all_short : {rs : List Setting} → Small rs → Short (extern_paths rs)
unfolding extern_paths
all_short {rs} s = every_append (λ (r : Setting). length r.value ≤ 5000) rs _ (to_short rs s.short) (on (value_of 12 rs) (value_short 12 rs [] (omega arith) s.short))
  where
    on : (o : Option (List ℕ)) → length (or_else o []) ≤ 4096 → Short (if_given (prost_path rs) o)
    on none h = tt
    on (some v) h = types_short (prost_path rs) v (prost_short s) h

short_at : (rs : List Setting) (i : ℕ) → Short rs → length (get_or rs i (extern [] [])).value ≤ 5000
short_at [] i h = omega arith
short_at (r ∷ rs) zero h = h.0
short_at (r ∷ rs) (suc i) h = short_at rs i h.1

pub extern_long : {rs : List Setting} → Small rs → (ident : List ℕ) → length (extern_text (resolve_ident rs ident)) ≤ 10 * length ident + 60000
unfolding extern_text resolve_ident
extern_long {rs} s ident =
    let e = get_or (extern_paths rs) (taker rs ident).number (extern [] []) in
    let h = join_long (resolve_ident rs ident) in
    let k = by_long e ident in
    let m = short_at (extern_paths rs) (taker rs ident).number (all_short s) in
    let n : spread (resolve_ident rs ident) ≤ 10 * length ident + 60000 =
    choose_case (λ (xs : List Segment). spread xs ≤ 10 * length ident + 60000) (taken rs ident) (λ _. omega arith) (λ _. omega arith) in
    omega arith
