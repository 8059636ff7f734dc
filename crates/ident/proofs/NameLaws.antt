-- The tests of names, by the library's words; no byte of a name is a dot.
use Rattle.std.proofs.Common.{◌≡◌, refl, sym, ap, ◌∙◌, Bool, true, false, ◌&&◌, ◌||◌, List, [], ◌∷◌, ℕ, eqb, eqb-true}
use Rattle.std.proofs.Math.Bool.{or_assoc}
use Rattle.std.specs.Char.{is_ascii_alphabetic, is_ascii_alphanumeric}
use Rattle.std.specs.List.{list_any, list_all}
use Rattle.base.specs.Choose.{choose}
use Rattle.base.specs.Tests.{both_ways}
use Rattle.heck.specs.Case.{between, is_lower, is_upper, is_digit, class, in_word}
use Rattle.heck.specs.declared.Class.TheVariants.{Other, Digit, Lower, Upper}
use Rattle.ident.specs.Name.{name_start, name_part, every, has_word}

pub start_is : (c : ℕ) → name_start c ≡ (is_ascii_alphabetic c || eqb c 95)
unfolding name_start between
start_is c = sym (or_assoc (is_upper c) (is_lower c) (eqb c 95))

pub every_is : (p : ℕ → Bool) (s : List ℕ) → every p s ≡ list_all p s
unfolding every choose
every_is p [] = refl
every_is p (c ∷ s) = on (p c) (every_is p s)
  where
    on : (t : Bool) → every p s ≡ list_all p s → choose t (every p s) false ≡ (t && list_all p s)
    on true e = e
    on false e = refl

word_is : (c : ℕ) → in_word (class c) ≡ is_ascii_alphanumeric c
unfolding class choose between
word_is c = on (is_lower c) (is_upper c) (is_digit c)
  where
    on : (l u d : Bool) → in_word (choose l Lower (choose u Upper (choose d Digit Other))) ≡ ((d || u) || l)
    on true true true = refl
    on true true false = refl
    on true false true = refl
    on true false false = refl
    on false true true = refl
    on false true false = refl
    on false false true = refl
    on false false false = refl

pub has_word_is : (s : List ℕ) → has_word s ≡ list_any is_ascii_alphanumeric s
unfolding has_word choose
has_word_is [] = refl
has_word_is (c ∷ s) = on (in_word (class c)) (has_word_is s) ∙ ap (λ (t : Bool). t || list_any is_ascii_alphanumeric s) (word_is c)
  where
    on : (t : Bool) → has_word s ≡ list_any is_ascii_alphanumeric s → choose t true (has_word s) ≡ (t || list_any is_ascii_alphanumeric s)
    on true e = refl
    on false e = e

pub part_no_dot : (c : ℕ) → name_part c ≡ true → eqb c 46 ≡ false
unfolding name_part name_start between
part_no_dot c h = on (eqb c 46) refl
  where
    on : (t : Bool) → eqb c 46 ≡ t → t ≡ false
    on false e = refl
    on true e = both_ways (sym (ap name_part (eqb-true c 46 e)) ∙ h) refl
