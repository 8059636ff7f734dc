-- The loop of `declare_enums`: what holds before each place. Assumes nothing.
use mathlib.Core.Path.{◌≡◌, sym, ap, ◌∙◌}
use mathlib.Core.Bool.{Bool, true, false}
use mathlib.Core.List.{List, [], ◌∷◌}
use Prim.Native.Nat.{ℕ, ◌+◌}
use lib.ListN.{length, set, length-set}
use Rattle.base.specs.Choose.{choose}
use Rattle.declarations.specs.Rows.{State, state, push, Became, has_room, declaration_row, declare_enums}
use Rattle.declarations.specs.declared.Kind.TheVariants.{Enum}
use Rattle.declarations.specs.declared.places.Place.{Place}
use Rattle.declarations.specs.declared.Declaration.{Declaration as Row}
use Rattle.declarations.specs.declared.counts.Count.{Count}

module _ (bytes : List ℕ) (file up : ℕ) (all : State) where
  pub record Going (size : ℕ) (ps : List Place) (t : List Row) (c : Count) : Type 0 where
    pub long : length t ≡ size
    pub left : declare_enums bytes file up ps (state t c) ≡ all

  module _ (size : ℕ) (ps : List Place) (t : List Row) (c : Count) (going : Going size ps t c) where
    pub going_end : ps ≡ [] → Became all t c
    unfolding declare_enums
    going_end e = record { is = sym (ap (λ (ps : List Place). declare_enums bytes file up ps (state t c)) e) ∙ going.left; fewer = c.fewer }

    module _ (p : Place) (qs : List Place) (e : ps ≡ p ∷ qs) (r : Bool) (r_is : r ≡ has_room t c.rows) where
      abbrev row : Row
      row = declaration_row bytes file up Enum p

      opened : choose (has_room t c.rows) (declare_enums bytes file up qs (push row (state t c))) (state t c) ≡ all
      unfolding declare_enums
      opened = sym (ap (λ (ps : List Place). declare_enums bytes file up ps (state t c)) e) ∙ going.left

      pub going_full : r ≡ false → Became all t c
      unfolding choose
      going_full h = record { is = (let z : has_room t c.rows ≡ false = sym r_is ∙ h in rw z at opened); fewer = c.fewer }

      pub going_more : r ≡ true → (x : Row) → x ≡ row → (d : Count) → d.rows ≡ c.rows + 1 → d.messages ≡ c.messages → Going size qs (set t c.rows x) d
      unfolding choose
      going_more h x x_is d rows messages =
          let z : has_room t c.rows ≡ true = sym r_is ∙ h in
          record {
            long = length-set t c.rows x ∙ going.long;
            left = rw (x_is, rows, messages) (rw z at opened);
          }
