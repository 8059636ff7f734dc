-- Two packages gone through segment by segment, and the packages of a set two by two. Assumes nothing.
use Rattle.std.specs.Prelude.{◌≡◌, refl, ℕ, ◌+◌, Bool, true, false, not, ◌&&◌, ◌||◌, List, [], ◌∷◌, ◌++◌, length, take, eqb, Some, None, Option as Held}
use Rattle.std.specs.Borrow.{Bor}
use Rattle.std.specs.List.{slice_split, onto_first, find, zip, enumerate_from, list_any}
use Rattle.std.specs.Option.{option_map, option_zip}
use Rattle.std.specs.Str.{bytes_eq}
use Rattle.std.proofs.Common.{sym, ap, ap₂, ◌∙◌, cond, append_assoc, append-nil, length-append, take_at}
use Rattle.base.specs.Bytes.{b, same, same_refl}
use Rattle.base.specs.Choose.{choose}
use Rattle.base.specs.Lists.{any, any_append}
use Rattle.base.proofs.BytesLaws.{same_bytes, same_turned}
use Rattle.std.proofs.Math.Bool.{or-false, or_assoc}
use Rattle.split.specs.Split.{begins, push, split_behind}
use Rattle.extern_paths.specs.Split.{split}
use Rattle.descriptor.specs.Descriptor.{Bytes, FileHeader, file_header}
use Rattle.descriptor.specs.Decode.{entries, parts, decode_file}
use Rattle.descriptor.specs.Seen.{text_seen}
use Rattle.code_generator.specs.Resolve.{local_path}
use Rattle.joined.proofs.ShownLaws.{with_package, without_package}
use Rattle.package_names.specs.Packages.{file_segments, meets, cut_snake, parts_meet, package_meets, packages_meet, part_stands}
use Rattle.package_names.proofs.StandLaws.{stand, stands_none}

pub none_meets : (xs ys : List Bytes) → [] ≡ xs → false ≡ meets cut_snake xs ys
unfolding meets
none_meets xs ys e = rw (← e) refl

pub meets_none : (xs ys : List Bytes) → [] ≡ ys → false ≡ meets cut_snake xs ys
unfolding meets
meets_none [] ys e = refl
meets_none (x ∷ xs) ys e = rw (← e) refl

-- ---- the first two segments that differ
abbrev pub unlike : Bytes × Bytes → Bool
unlike p = not (bytes_eq p.0 p.1)

abbrev alike_there : Held (Bytes × Bytes) → Bool
alike_there None = false
alike_there (Some p) = same (cut_snake p.0) (cut_snake p.1)

first_unlike : (xs ys : List Bytes) → alike_there (find unlike (zip xs ys)) ≡ meets cut_snake xs ys
unfolding meets choose
first_unlike [] ys = refl
first_unlike (x ∷ xs) [] = refl
first_unlike (x ∷ xs) (y ∷ ys) =
    rw (same_bytes x y)
    (elim (same x y) as (λ t. alike_there (cond (not t) (Some (x, y)) (find unlike (zip xs ys))) ≡ choose t (meets cut_snake xs ys) (same (cut_snake x) (cut_snake y)))
    [ true ↦ first_unlike xs ys | false ↦ refl ])

pub found_meets : (o : Held (Bor Bytes × Bor Bytes)) (r : Bool) (xs ys : List Bytes) → option_map (λ (p : Bor Bytes × Bor Bytes). (p.0.now, p.1.now)) o ≡ find unlike (zip xs ys) → (o ≡ None → r ≡ false)
    → ((p : Bor Bytes × Bor Bytes) → o ≡ Some p → r ≡ same (cut_snake p.0.now) (cut_snake p.1.now)) → r ≡ meets cut_snake xs ys
found_meets None r xs ys e f g = f refl ∙ ap alike_there e ∙ first_unlike xs ys
found_meets (Some p) r xs ys e f g = g p refl ∙ ap alike_there e ∙ first_unlike xs ys

-- ---- the library's split at a dot
push_is : (c : ℕ) (xs : List Bytes) → onto_first c xs ≡ push c xs
push_is c [] = refl
push_is c (x ∷ xs) = refl

pub split_is : (s : Bytes) → slice_split (λ c. eqb c 46) s ≡ split (b ".") s
unfolding split split_behind begins choose
split_is [] = refl
split_is (c ∷ s) = by_dot (eqb c 46) (split_is s)
  where
    by_dot : (t : Bool) {xs ys : List Bytes} → xs ≡ ys → cond t ([] ∷ xs) (onto_first c xs) ≡ choose (t && true) ([] ∷ ys) (push c ys)
    by_dot true e = ap {B = List Bytes} (λ (l : List Bytes). [] ∷ l) e
    by_dot false {xs} e = push_is c xs ∙ ap (push c) e

-- ---- each two once: what is turned is the same, and nothing meets itself
meets_turned : (xs ys : List Bytes) → meets cut_snake xs ys ≡ meets cut_snake ys xs
unfolding meets
meets_turned [] [] = refl
meets_turned [] (y ∷ ys) = refl
meets_turned (x ∷ xs) [] = refl
meets_turned (x ∷ xs) (y ∷ ys) = rw (same_turned x y, same_turned (cut_snake x) (cut_snake y), meets_turned xs ys) refl

meets_itself : (xs : List Bytes) → meets cut_snake xs xs ≡ false
unfolding meets choose
meets_itself [] = refl
meets_itself (x ∷ xs) = rw (same_refl x) (meets_itself xs)

or_twice : (t u : Bool) → ((t || u) || (u || false)) ≡ (t || u)
or_twice true u = refl
or_twice false true = refl
or_twice false false = refl

or_crossed : (t u v w : Bool) → ((t || (u || false)) || (v || w)) ≡ ((t || v) || (u || w))
or_crossed true u v w = refl
or_crossed false true true w = refl
or_crossed false true false w = refl
or_crossed false false v w = refl

module _ {A : Type 0} where
  module _ (R : A → A → Bool) (turned : (x y : A) → R x y ≡ R y x) (itself : (x : A) → R x x ≡ false) where
    -- one more behind those that are asked
    one_more : (x : A) (ps qs : List A) → any (λ (p : A). any (R p) (qs ++ (x ∷ []))) ps ≡ (any (λ (p : A). any (R p) qs) ps || any (R x) ps)
    unfolding any
    one_more x [] qs = refl
    one_more x (p ∷ ps) qs =
        ap (λ (t : Bool). t || any (λ (q : A). any (R q) (qs ++ (x ∷ []))) ps) (any_append (R p) qs (x ∷ []) ∙ ap (λ (t : Bool). any (R p) qs || (t || false)) (turned p x))
        ∙ ap (λ (t : Bool). (any (R p) qs || (R x p || false)) || t) (one_more x ps qs)
        ∙ or_crossed (any (R p) qs) (R x p) (any (λ (q : A). any (R q) qs) ps) (any (R x) ps)

    all_of_more : (x : A) (ps : List A) → any (λ (p : A). any (R p) (ps ++ (x ∷ []))) (ps ++ (x ∷ [])) ≡ (any (λ (p : A). any (R p) ps) ps || any (R x) ps)
    unfolding any
    all_of_more x ps =
        any_append (λ (p : A). any (R p) (ps ++ (x ∷ []))) ps (x ∷ [])
        ∙ ap₂ (λ (t u : Bool). t || (u || false)) (one_more x ps ps)
        (any_append (R x) ps (x ∷ []) ∙ ap (λ (t : Bool). any (R x) ps || (t || false)) (itself x) ∙ or-false (any (R x) ps))
        ∙ or_twice (any (λ (p : A). any (R p) ps) ps) (any (R x) ps)

    -- each of those behind some, asked of those before it
    abbrev asked : List A → ℕ → List A → Bool
    asked all n xs = any (λ (p : ℕ × A). any (R p.1) (take p.0 all)) (enumerate_from n xs)

    once_from : (ps xs : List A) → any (λ (p : A). any (R p) (ps ++ xs)) (ps ++ xs) ≡ (any (λ (p : A). any (R p) ps) ps || asked (ps ++ xs) (length ps) xs)
    unfolding any
    once_from ps [] = rw (append-nil ps) (sym (or-false (any (λ (p : A). any (R p) ps) ps)))
    once_from ps (x ∷ xs) =
        let e : (ps ++ (x ∷ [])) ++ xs ≡ ps ++ (x ∷ xs) = append_assoc ps (x ∷ []) xs in
        ap (λ (l : List A). any (λ (p : A). any (R p) l) l) (sym e)
        ∙ once_from (ps ++ (x ∷ [])) xs
        ∙ ap₂ ◌||◌ (all_of_more x ps) (ap₂ (λ (l : List A) (n : ℕ). asked l n xs) e (length-append ps (x ∷ [])))
        ∙ or_assoc (any (λ (p : A). any (R p) ps) ps) (any (R x) ps) (asked (ps ++ (x ∷ xs)) (length ps + 1) xs)
        ∙ ap (λ (l : List A). any (λ (p : A). any (R p) ps) ps || (any (R x) l || asked (ps ++ (x ∷ xs)) (length ps + 1) xs)) (sym (take_at ps (x ∷ xs) (length ps) refl))

    once : (xs : List A) → list_any (λ (p : ℕ × A). any (R p.1) (take p.0 xs)) (enumerate_from 0 xs) ≡ any (λ (p : A). any (R p) xs) xs
    unfolding any
    once xs = sym (once_from [] xs)

pub meet_once : (set : Bytes) → list_any (λ (p : ℕ × Bytes). any (parts_meet p.1) (take p.0 (parts 1 (entries set)))) (enumerate_from 0 (parts 1 (entries set))) ≡ packages_meet set
unfolding packages_meet package_meets
meet_once set = once parts_meet (λ p q. meets_turned (file_segments (decode_file p)) (file_segments (decode_file q))) (λ p. meets_itself (file_segments (decode_file p))) (parts 1 (entries set))

-- ---- the package of a file, by its header
module _ (s : Bytes) (h : FileHeader) (v syntax : Held (Bor Bytes)) (seen : record { package_name = text_seen v; syntax = text_seen syntax } ≡ h) (is : h ≡ file_header (decode_file s)) where
  pub with_segments : (name : Bor Bytes) → v ≡ Some name → split (b ".") name.now ≡ file_segments (decode_file s)
  unfolding local_path
  with_segments name e = ap local_path (with_package s h v syntax seen is name e)

  pub without_segments : v ≡ None → [] ≡ file_segments (decode_file s)
  unfolding local_path
  without_segments e = ap local_path (without_package s h v syntax seen is e)

  pub stands_read : (rows : List Bytes) (r : Bool) → (v ≡ None → r ≡ false) → ((name : Bor Bytes) → v ≡ Some name → r ≡ stand rows [] (split (b ".") name.now)) → r ≡ part_stands rows s
  unfolding part_stands
  stands_read rows r none some = on v refl
    where
      on : (w : Held (Bor Bytes)) → v ≡ w → r ≡ stand rows [] (file_segments (decode_file s))
      on None e = none e ∙ stands_none rows [] ∙ ap (stand rows []) (without_segments e)
      on (Some name) e = some name e ∙ ap (stand rows []) (with_segments name e)

-- the packages of two files
module _ (s t : Bytes) (h k : FileHeader) (v syntax w syntax₂ : Held (Bor Bytes)) (seen : record { package_name = text_seen v; syntax = text_seen syntax } ≡ h) (is : h ≡ file_header (decode_file s))
    (seen₂ : record { package_name = text_seen w; syntax = text_seen syntax₂ } ≡ k) (is₂ : k ≡ file_header (decode_file t)) where
  pub meets_read : (both : Held (Bor Bytes × Bor Bytes)) (r : Bool) → both ≡ option_zip v w → (both ≡ None → r ≡ false)
      → ((p : Bor Bytes × Bor Bytes) → both ≡ Some p → r ≡ meets cut_snake (split (b ".") p.0.now) (split (b ".") p.1.now)) → r ≡ parts_meet s t
  meets_read both r both_is none some = on v w refl refl
    where
      on : (x y : Held (Bor Bytes)) → v ≡ x → w ≡ y → r ≡ parts_meet s t
      on None y e f = none (both_is ∙ rw e refl) ∙ none_meets _ _ (without_segments s h v syntax seen is e)
      on (Some x) None e f = none (both_is ∙ rw (e, f) refl) ∙ meets_none _ _ (without_segments t k w syntax₂ seen₂ is₂ f)
      on (Some x) (Some y) e f = some (x, y) (both_is ∙ rw (e, f) refl) ∙ ap₂ (meets cut_snake) (with_segments s h v syntax seen is x e) (with_segments t k w syntax₂ seen₂ is₂ y f)
