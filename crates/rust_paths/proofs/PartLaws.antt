-- A path's segments, part by part. Assumes nothing.
use mathlib.Core.Path.{◌≡◌, refl, sym, ap, ◌∙◌}
use mathlib.Core.Bool.{Bool, true, false}
use mathlib.Core.List.{List, [], ◌∷◌, ◌++◌, map, map-append, append-nil, append_assoc}
use native.Mathlib.Decide.{dec_le}
use Prim.Native.Nat.{ℕ, min, ◌-◌, ◌≤◌}
use native.Mathlib.Omega.{arith}
use lib.ListN.{length, take, drop, length-drop, drop_of_length-le}
use lib.Seq.{take_all}
use Rattle.std.specs.Str.{bytes_eq}
use Rattle.base.specs.Bytes.{b}
use Rattle.writer.specs.declared.text.Text.{Text}
use Rattle.writer.specs.Text.{pick}
use Rattle.writer.specs.Writing.{◌▻◌}
use Rattle.writer.proofs.TextLaws.{put-nothing, appended}
use Rattle.heck.specs.Case.{join}
use Rattle.ident.specs.Ident.{to_snake, to_upper_camel}
use Rattle.split.specs.Split.{split, first_part}
use Rattle.rust_paths.specs.Segments.{Segment, snake, written, first_segment, rust_path, extern_text}
use Rattle.rust_paths.specs.Parts.{led, segments, led_parts, path_text, is_tail}
use Rattle.split.proofs.SplitLaws.{begins_starts, parts_behind, split_is}

-- ---- texts with a `::` between them
join_led : (x : List ℕ) (xs : List (List ℕ)) → join (b "::") (x ∷ xs) ≡ x ++ led xs
unfolding led
join_led x [] = sym (append-nil x)
join_led x (y ∷ ys) = rw (join_led y ys) refl

led_append : (xs ys : List (List ℕ)) → led (xs ++ ys) ≡ led xs ++ led ys
unfolding led
led_append [] ys = refl
led_append (x ∷ xs) ys = rw (led_append xs ys) (ap (λ (l : List ℕ). b "::" ++ l) (sym (append_assoc x (led xs) (led ys))))

text_append : (x : Segment) (xs ys : List Segment) → extern_text (x ∷ (xs ++ ys)) ≡ extern_text (x ∷ xs) ++ led (map written ys)
unfolding extern_text
text_append x xs ys =
    join_led (written x) (map written (xs ++ ys))
    ∙ rw (map-append written xs ys, led_append (map written xs) (map written ys), join_led (written x) (map written xs)) (sym (append_assoc (written x) (led (map written xs)) (led (map written ys))))

-- ---- a Rust path, and what follows it
pub text_more : (xs : List (List ℕ)) (x : List ℕ) (ys : List Segment) → extern_text (rust_path (x ∷ xs) ++ ys) ≡ extern_text (rust_path (x ∷ xs)) ++ led (map written ys)
text_more xs x ys = text_append (first_segment x) (map snake xs) ys

path_append : (xs ys : List (List ℕ)) (x : List ℕ) → extern_text (rust_path (x ∷ (xs ++ ys))) ≡ extern_text (rust_path (x ∷ xs)) ++ led (map written (map snake ys))
path_append xs ys x = rw (map-append snake xs ys) (text_append (first_segment x) (map snake xs) (map snake ys))

-- the parts of p and then those of q
pub path_joined : (s p q : List ℕ) → split (b "::") s ≡ split (b "::") p ++ split (b "::") q → path_text p ++ led_parts false (b "::") q ≡ path_text s
unfolding path_text led_parts
path_joined s p q e =
    let n = first_part (b "::") p in
    rw (e, split_is (b "::") p (omega arith)) (sym (path_append (parts_behind (b "::") n p) (split (b "::") q) (take n p)))

-- ---- the parts of s from a place on
seg_more : (c : Bool) (x y : List ℕ) (ys : List (List ℕ)) → led (map written (segments c (x ∷ (y ∷ ys)))) ≡ (b "::" ++ to_snake x) ++ led (map written (segments c (y ∷ ys)))
unfolding led
seg_more true x y ys = refl
seg_more false x y ys = refl

led_last : (c : Bool) (x : List ℕ) → led (map written (segments c (x ∷ []))) ≡ b "::" ++ pick c (to_upper_camel x) (to_snake x)
unfolding led
led_last true x = rw append-nil refl
led_last false x = rw append-nil refl

-- as they are written into a text: none is left, one is, more are
pub none_led : (t : Text) (c : Bool) → t ≡ t ▻ led (map written (segments c []))
unfolding led
none_led t true = sym (put-nothing t)
none_led t false = sym (put-nothing t)

module _ (t : Text) (c : Bool) where
  pub last_led : (t₁ t₂ : Text) (x : List ℕ) → t₁ ≡ t ▻ b "::" → t₂ ≡ t₁ ▻ pick c (to_upper_camel x) (to_snake x) → t₂ ≡ t ▻ led (map written (segments c (x ∷ [])))
  last_led t₁ t₂ x e f = appended t t₁ t₂ _ _ e f ∙ ap (λ (p : List ℕ). t ▻ p) (sym (led_last c x))

  pub more_led : (t₁ t₂ : Text) (x y : List ℕ) (ys : List (List ℕ)) → t₁ ≡ t ▻ b "::" → t₂ ≡ t₁ ▻ to_snake x → t₂ ▻ led (map written (segments c (y ∷ ys))) ≡ t ▻ led (map written (segments c (x ∷ (y ∷ ys))))
  more_led t₁ t₂ x y ys e f = appended t t₂ _ _ _ (appended t t₁ t₂ _ _ e f) refl ∙ ap (λ (p : List ℕ). t ▻ p) (sym (seg_more c x y ys))

-- the parts of what is left of a text
pub rest_led : (t u : Text) (c : Bool) (sep s : List ℕ) (n : ℕ) (xs : List (List ℕ)) → xs ≡ split sep (take (length s - n) (drop n s)) → u ≡ t ▻ led (map written (segments c xs)) → u ≡ t ▻ led_parts c sep (drop n s)
unfolding led_parts
rest_led t u c sep s n xs e f =
    f ∙ ap (λ (l : List (List ℕ)). t ▻ led (map written (segments c l))) (rw (take_all (length s - n) (drop n s) (rw length-drop (omega arith))) at e)

-- a path by its first part
pub path_first : (s x : List ℕ) (xs : List (List ℕ)) → split (b "::") s ≡ x ∷ xs → path_text s ≡ written (first_segment x) ++ led (map written (segments false xs))
unfolding path_text extern_text
path_first s x xs e = rw e (join_led (written (first_segment x)) (map written (map snake xs)))

-- a text has a first part
pub no_part : (s : List ℕ) → split (b "::") s ≡ [] → ⊥
no_part s e = let p = split_is (b "::") s (omega arith) in cc

-- ---- is a text empty, or a `::` first in it?
pub tail_empty : (q : List ℕ) → length q ≡ 0 → is_tail q ≡ true
unfolding is_tail
tail_empty [] h = refl
tail_empty (c ∷ q) h = absurd (omega arith)

pub tail_begins : (q : List ℕ) → (length q ≡ 0 → ⊥) → is_tail q ≡ bytes_eq (58 ∷ 58 ∷ []) (take 2 q)
unfolding is_tail
tail_begins [] n = absurd (n refl)
tail_begins (c ∷ q) n = begins_starts (58 ∷ 58 ∷ []) (c ∷ q)

pub ruleset tails = (tail_empty, tail_begins)

-- a place past the end counts as the end
pub drop_within : (s : List ℕ) (at from : ℕ) → from ≡ min at (length s) → drop from s ≡ drop at s
drop_within s at from f = on (dec_le at (length s))
  where
    on : Dec (at ≤ length s) → drop from s ≡ drop at s
    on (yes h) = let e : from ≡ at = omega arith in rw e refl
    on (no h) = rw (drop_of_length-le s {i = from} (omega arith), drop_of_length-le s {i = at} (omega arith)) refl
