-- A full name from its end, byte by byte and one own name after the other. Assumes nothing.
use denote.Ref.{Bor}
use Rattle.std.specs.Prelude.{Option, None, Some, MatchOption, reverse}
use Rattle.std.specs.Option.{option_eq, is_some}
use Rattle.std.specs.Iterator.{YieldsFirst}
use Rattle.std.proofs.lemmas.List.{reverse-append, reverse-reverse, append_cancel_right}
use mathlib.Core.Path.{◌≡◌, refl, sym, ap, ◌∙◌}
use mathlib.Core.Bool.{Bool, true, false, not}
use mathlib.Core.List.{List, [], ◌∷◌, ◌++◌, append_assoc}
use Prim.Native.Nat.{ℕ, suc}
use lib.Dec.{eqb}
use borrow.Author.Tests.{eq-eqb, eqb-true, not-false}
use Rattle.base.specs.Bytes.{same, same_refl, same_sound, same_step, same_stop}
use Rattle.base.specs.Tests.{both_ways}
use Rattle.checksums.specs.SumLaws.{unlike}
use Rattle.name_rules.specs.FullNames.{◌·◌}
use Rattle.declarations.specs.Rows.{row_at}
use Rattle.declarations.specs.Listed.{above, full, name_of}
use Rattle.declarations.proofs.FullLaws.{full_none, full_step}
use Rattle.declarations.specs.declared.Declaration.{Declaration as Row}
use Rattle.type_names.specs.Fronts.{Stripped}

pub entered_none : (bytes : List ℕ) (t : List Row) → [] ≡ full bytes t 0
entered_none bytes t = sym (full_none bytes t)

pub entered : (bytes : List ℕ) (t : List Row) (i : ℕ) (r : Row) → r ≡ row_at t i → (up : ℕ) → up ≡ above i r → (own : List ℕ) → own ≡ name_of bytes r
    → full bytes t up · own ≡ full bytes t (suc i)
entered bytes t i r r_is up up_is own own_is = rw (own_is, up_is, r_is) (sym (full_step bytes t i))

-- ---- from its end
pub last_byte : (xs own : List ℕ) (b : ℕ) → reverse (xs · (own ++ (b ∷ []))) ≡ b ∷ reverse (xs · own)
last_byte xs own b = ap reverse (sym (append_assoc xs (46 ∷ own) (b ∷ []))) ∙ reverse-append (xs ++ (46 ∷ own)) (b ∷ [])

pub last_dot : (xs : List ℕ) → reverse (xs · []) ≡ 46 ∷ reverse xs
last_dot xs = reverse-append xs (46 ∷ [])

pub same_reversed : (xs ys : List ℕ) → same (reverse xs) (reverse ys) ≡ same xs ys
same_reversed xs ys = by (same xs ys) refl
  where
    by : (r : Bool) → same xs ys ≡ r → same (reverse xs) (reverse ys) ≡ r
    by true e = ap (λ (zs : List ℕ). same (reverse zs) (reverse ys)) (same_sound xs ys e) ∙ same_refl (reverse ys)
    by false e = unlike (reverse xs) (reverse ys) (λ q. both_ways (ap (λ (zs : List ℕ). same zs ys) (sym (reverse-reverse xs) ∙ ap reverse q ∙ reverse-reverse ys) ∙ same_refl ys) e)

-- one byte of both
module _ (xs ys ys' : List ℕ) where
  pub unlike_byte : (x : ℕ) (xs' : List ℕ) → xs ≡ x ∷ xs' → (r : Option ℕ) → YieldsFirst (λ (rest : List ℕ). rest) ys r ys' → not (option_eq eqb r (Some x)) ≡ true → false ≡ same xs ys
  unfolding same
  unlike_byte x xs' e None s h = rw (e, s.0)
  unlike_byte x xs' e (Some y) s h = rw (e, s) (sym (same_stop x y xs' ys' (λ q. both_ways h (rw (eq-eqb y x (sym q)) refl))))

  pub like_byte : (x : ℕ) (xs' : List ℕ) → xs ≡ x ∷ xs' → (r : Option ℕ) → YieldsFirst (λ (rest : List ℕ). rest) ys r ys' → not (option_eq eqb r (Some x)) ≡ false → same xs' ys' ≡ same xs ys
  like_byte x xs' e None s h = both_ways refl h
  like_byte x xs' e (Some y) s h = rw (e, s) (sym (same_step x y xs' ys' (sym (eqb-true y x (not-false (eqb y x) h)))))

  pub both_end : xs ≡ [] → (r : Option ℕ) → YieldsFirst (λ (rest : List ℕ). rest) ys r ys' → (n : Bool) → is_some r ≡ not n → n ≡ same xs ys
  unfolding same
  both_end e None s true h = rw (e, s.0)
  both_end e None s false h = both_ways h refl
  both_end e (Some y) s true h = both_ways refl h
  both_end e (Some y) s false h = rw (e, s)

-- ---- one own name
same_front : (xs ys zs : List ℕ) → same (xs ++ zs) (ys ++ zs) ≡ same xs ys
same_front xs ys zs = by (same xs ys) refl
  where
    by : (b : Bool) → same xs ys ≡ b → same (xs ++ zs) (ys ++ zs) ≡ b
    by true e = ap (λ (s : List ℕ). same (s ++ zs) (ys ++ zs)) (same_sound xs ys e) ∙ same_refl (ys ++ zs)
    by false e = unlike (xs ++ zs) (ys ++ zs) (λ q. both_ways (ap (λ (s : List ℕ). same s ys) (append_cancel_right xs ys zs q) ∙ same_refl ys) e)

module _ (bytes : List ℕ) (t : List Row) (name : List ℕ) (i : ℕ) (r : Row) (r_is : r ≡ row_at t i) (own : List ℕ) (own_is : own ≡ name_of bytes r) where
  abbrev xs : List ℕ
  xs = full bytes t (above i r)

  row : full bytes t (suc i) ≡ xs · own
  row = sym (entered bytes t i r r_is (above i r) refl own own_is)

  other : (xs · own ≡ name → ⊥) → same (full bytes t (suc i)) name ≡ false
  other ne = rw row (unlike (xs · own) name ne)

  pub other_own : (((front : List ℕ) → name ≡ front ++ own → ⊥)) → same (full bytes t (suc i)) name ≡ false
  other_own none = other (λ e. none (xs ++ (46 ∷ [])) (sym e ∙ sym (append_assoc xs (46 ∷ []) own)))

  module _ (last : List ℕ) (last_is : name ≡ last ++ own) where
    no_dot : (((front : List ℕ) → last ≡ front ++ (46 ∷ []) → ⊥)) → same (full bytes t (suc i)) name ≡ false
    no_dot none = other (λ e. none xs (sym (append_cancel_right (xs ++ (46 ∷ [])) last own (append_assoc xs (46 ∷ []) own ∙ e ∙ last_is))))

    stripped : (front : List ℕ) → last ≡ front ++ (46 ∷ []) → same (full bytes t (suc i)) name ≡ same (full bytes t (above i (row_at t i))) front
    stripped front f =
        let whole : name ≡ front ++ (46 ∷ own) = last_is ∙ ap (λ (s : List ℕ). s ++ own) f ∙ append_assoc front (46 ∷ []) own in
        rw (row, whole, ← r_is) (same_front xs front (46 ∷ own))

    pub rest_stripped : (r : Option (Bor (List ℕ))) → MatchOption r ((front : List ℕ) → last ≡ front ++ (46 ∷ []) → ⊥) (λ x. last ≡ x.now ++ (46 ∷ [])) → Stripped bytes t name i r
    rest_stripped None none = no_dot none
    rest_stripped (Some front) f = stripped front.now f
