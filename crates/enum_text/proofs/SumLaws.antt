-- The checksums of the names of an enum's values; and that names with other checksums don't meet. Assumes nothing.
use Rattle.std.specs.Prelude.{◌≡◌, ℕ, Bool, true, false, Option, Some, None, List, [], ◌∷◌, ◌++◌, map, eqb}
use Rattle.std.proofs.Common.{refl, sym, ap, ◌∙◌}
use Rattle.enum_text.proofs.PartLaws.{there, same_name, missing}
use Rattle.base.specs.Choose.{choose}
use Rattle.base.specs.Tests.{or_false_left, or_false_right, or_false}
use Rattle.checksums.specs.Sums.{sum_of, holds, repeats}
use Rattle.checksums.specs.Lists.{pushed, all_pushed, may, all_pushed_append, denied}
use Rattle.checksums.specs.SumLaws.{other_sum, unlike}
use Rattle.descriptor.specs.Descriptor.{Bytes, ValueDescriptor}
use Rattle.options.specs.Settings.{Setting}
use Rattle.path.specs.Forms.{among}
use Rattle.code_generator.specs.Refusals.{overlap}
use Rattle.enum_text.specs.Overlap.{variant_name, has_room, names, value_sums}

-- ---- names with other checksums
not_among : (x : Bytes) (xs : List Bytes) → holds (sum_of x) (map sum_of xs) ≡ false → among x xs ≡ false
unfolding holds among
not_among x [] h = refl
not_among x (y ∷ ys) h =
    let first = or_false_left (eqb (sum_of x) (sum_of y)) _ h in
    or_false (unlike x y (other_sum x y first)) (not_among x ys (or_false_right (eqb (sum_of x) (sum_of y)) _ h))

apart : (xs : List Bytes) → repeats (map sum_of xs) ≡ false → overlap xs ≡ false
unfolding repeats overlap
apart [] h = refl
apart (x ∷ xs) h = or_false (not_among x xs (or_false_left (holds (sum_of x) (map sum_of xs)) _ h)) (apart xs (or_false_right (holds (sum_of x) (map sum_of xs)) _ h))

pub sums_apart : (xs : List Bytes) {o none : Option (List ℕ)} {r : Bool} → none ≡ Some [] → o ≡ all_pushed 256 none (map sum_of xs) → r ≡ may repeats o → r ≡ false → false ≡ overlap xs
sums_apart xs start sums asked is_false =
    let all = sums ∙ ap (λ (u : Option (List ℕ)). all_pushed 256 u (map sum_of xs)) start in
    sym (apart xs (denied repeats 256 [] (map sum_of xs) (ap (may repeats) (sym all) ∙ sym asked ∙ is_false)))

module _ (rs : List Setting) (enum : Bytes) where
  -- ---- one value's, behind the list o
  module _ (v : ValueDescriptor) (o : Option (List ℕ)) where
    pub sum_missing : None ≡ choose (has_room rs enum v) (Some (variant_name rs enum v)) None → o ≡ all_pushed 256 o (value_sums rs enum v)
    unfolding value_sums choose all_pushed
    sum_missing e = rw (missing (has_room rs enum v) (variant_name rs enum v) e) refl

    pub sum_held : {x : Bytes} → Some x ≡ choose (has_room rs enum v) (Some (variant_name rs enum v)) None → {n : ℕ} → n ≡ sum_of x → {o' : Option (List ℕ)} → o' ≡ pushed 256 o n → o' ≡ all_pushed 256 o (value_sums rs enum v)
    unfolding value_sums choose all_pushed
    sum_held {x} e {n} sum push =
        let is : n ≡ sum_of (variant_name rs enum v) = sum ∙ ap sum_of (same_name (has_room rs enum v) x (variant_name rs enum v) e) in
        rw (there (has_room rs enum v) x (variant_name rs enum v) e, ← is) push

  -- ---- one value more
  sums_more : (v : ValueDescriptor) (vs : List ValueDescriptor) → map sum_of (names rs enum (v ∷ vs)) ≡ value_sums rs enum v ++ map sum_of (names rs enum vs)
  unfolding names choose value_sums
  sums_more v vs = go (has_room rs enum v)
    where
      go : (t : Bool) → map sum_of (choose t (variant_name rs enum v ∷ names rs enum vs) (names rs enum vs)) ≡ choose t (sum_of (variant_name rs enum v) ∷ []) [] ++ map sum_of (names rs enum vs)
      go true = refl
      go false = refl

  -- those of the values that are left, behind the list o
  abbrev pub with_sums : Option (List ℕ) → List ValueDescriptor → Option (List ℕ)
  with_sums o vs = all_pushed 256 o (map sum_of (names rs enum vs))

  module _ (o : Option (List ℕ)) {all : Option (List ℕ)} {vs : List ValueDescriptor} (h : with_sums o vs ≡ all) where
    pub summing_end : vs ≡ [] → o ≡ all
    unfolding names all_pushed
    summing_end none = ap (with_sums o) (sym none) ∙ h

    pub summing_more : {v : ValueDescriptor} {later : List ValueDescriptor} {o' : Option (List ℕ)} → vs ≡ v ∷ later → o' ≡ all_pushed 256 o (value_sums rs enum v) → with_sums o' later ≡ all
    summing_more {v} {later} e more =
        ap (λ (u : Option (List ℕ)). with_sums u later) more
        ∙ all_pushed_append 256 o (value_sums rs enum v) (map sum_of (names rs enum later))
        ∙ ap (all_pushed 256 o) (sym (sums_more v later))
        ∙ ap (with_sums o) (sym e)
        ∙ h
