-- Laws of places that differ. Assumes nothing.
use Rattle.std.specs.Prelude.{◌≡◌, refl, Bool, true, false, ◌||◌, ◌&&◌, not, List, [], ◌∷◌, ◌++◌, map}
use Rattle.std.proofs.Common.{◌∙◌}
use Rattle.base.specs.Lists.{any, all_of, any_append}
use Rattle.name_check.specs.NameCheck.{Place, same_place, places_differ}

pub any_map : {A B : Type 0} (p : B → Bool) (g : A → B) (xs : List A) → any p (map g xs) ≡ any (λ (x : A). p (g x)) xs
unfolding any
any_map p g [] = refl
any_map p g (x ∷ xs) = rw (any_map p g xs) refl

pub any_all_of : {A B : Type 0} (p : B → Bool) (g : A → List B) (xs : List A) → any p (all_of g xs) ≡ any (λ (x : A). any p (g x)) xs
unfolding any all_of
any_all_of p g [] = refl
any_all_of p g (x ∷ xs) = any_append p (g x) (all_of g xs) ∙ rw (any_all_of p g xs) refl

-- is one of the places xs one of ys?
unfoldable pub places_meet : List Place → List Place → Bool
places_meet xs ys = any (λ (p : Place). any (same_place p) ys) xs

pub differ_append : (xs ys : List Place) → places_differ (xs ++ ys) ≡ (places_differ xs && (not (places_meet xs ys) && places_differ ys))
unfolding places_differ places_meet any
differ_append [] ys = refl
differ_append (x ∷ xs) ys =
    rw (any_append (same_place x) xs ys, differ_append xs ys)
    (go (any (same_place x) xs) (any (same_place x) ys) (places_differ xs) (any (λ (p : Place). any (same_place p) ys) xs) (places_differ ys))
  where
    go : (a b c d e : Bool) → (not (a || b) && (c && (not d && e))) ≡ ((not a && c) && (not (b || d) && e))
    go true b c d e = refl
    go false true true d e = refl
    go false true false d e = refl
    go false false c d e = refl
