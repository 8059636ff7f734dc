-- The loop of `declare_messages`: what holds before each place. Assumes nothing.
use mathlib.Core.Path.{◌≡◌, refl, sym, ap, ◌∙◌}
use mathlib.Core.Bool.{Bool, true, false}
use mathlib.Core.List.{List, [], ◌∷◌}
use Prim.Native.Nat.{ℕ, zero, suc, ◌+◌, ◌-◌}
use native.Mathlib.Numerals.{sub-one}
use lib.ListN.{length, length-set}
use Rattle.base.specs.Choose.{choose}
use Rattle.declarations.specs.declared.places.Place.{Place}
use Rattle.declarations.specs.Rows.{State, state, Became, has_room, room, push_message, places, declaration_row, declare_enums, declare_messages}
use Rattle.declarations.specs.declared.Declaration.{Declaration as Row}
use Rattle.declarations.specs.declared.counts.Count.{Count}
use Rattle.declarations.specs.declared.Kind.TheVariants.{Message}
use Rattle.declarations.proofs.LengthLaws.{enums_length, messages_length}

pub none_left : (bytes : List ℕ) (file left up : ℕ) (ps : List Place) (x : State) → left ≡ 0 → x ≡ declare_messages bytes file left up ps x
unfolding declare_messages
none_left bytes file left up ps x e = rw e

module _ (bytes : List ℕ) (file up : ℕ) (x : State) where
  messages_none : (left : ℕ) → declare_messages bytes file left up [] x ≡ x
  unfolding declare_messages
  messages_none zero = refl
  messages_none (suc n) = refl

  messages_more : (left : ℕ) (p : Place) (ps : List Place) → (left ≡ 0 → ⊥)
      → declare_messages bytes file left up (p ∷ ps) x
      ≡ choose (room x)
      (declare_messages bytes file left up ps
      (declare_messages bytes file (left - 1) (x.rows + 1) (places bytes 3 p)
      (declare_enums bytes file (x.rows + 1) (places bytes 4 p) (push_message (declaration_row bytes file up (Message x.messages) p) x))))
      x
  unfolding declare_messages
  messages_more zero p ps ne = absurd (ne refl)
  messages_more (suc n) p ps ne = rw sub-one

module _ (bytes : List ℕ) (left file up : ℕ) (all : State) where
  pub record Going (size : ℕ) (ps : List Place) (t : List Row) (c : Count) : Type 0 where
    pub long : length t ≡ size
    pub left_over : declare_messages bytes file left up ps (state t c) ≡ all

  module _ (size : ℕ) (ps : List Place) (t : List Row) (c : Count) (going : Going size ps t c) where
    pub going_end : ps ≡ [] → Became all t c
    going_end e = record { is = sym (messages_none bytes file up (state t c) left) ∙ sym (ap (λ (ps : List Place). declare_messages bytes file left up ps (state t c)) e) ∙ going.left_over; fewer = c.fewer }

    module _ (ne : left ≡ 0 → ⊥) (p : Place) (qs : List Place) (e : ps ≡ p ∷ qs) (r : Bool) (r_is : r ≡ has_room t c.rows) where
      abbrev row : Row
      row = declaration_row bytes file up (Message c.messages) p

      opened : choose (has_room t c.rows)
          (declare_messages bytes file left up qs
          (declare_messages bytes file (left - 1) (c.rows + 1) (places bytes 3 p)
          (declare_enums bytes file (c.rows + 1) (places bytes 4 p) (push_message row (state t c)))))
          (state t c) ≡ all
      opened = sym (messages_more bytes file up (state t c) left p qs ne) ∙ sym (ap (λ (ps : List Place). declare_messages bytes file left up ps (state t c)) e) ∙ going.left_over

      pub going_full : r ≡ false → Became all t c
      unfolding choose
      going_full h = record { is = (let z : has_room t c.rows ≡ false = sym r_is ∙ h in rw z at opened); fewer = c.fewer }

      pub going_more : r ≡ true → (u v : List Row) (own next : Count)
          → Became (declare_enums bytes file (c.rows + 1) (places bytes 4 p) (push_message row (state t c))) u own
          → Became (declare_messages bytes file (left - 1) (c.rows + 1) (places bytes 3 p) (state u own)) v next
          → Going size qs v next
      unfolding choose
      going_more h u v own next own_is next_is =
          let z : has_room t c.rows ≡ true = sym r_is ∙ h in
          record {
            long =
                ap (λ (y : State). length y.table) next_is.is ∙ messages_length bytes file (left - 1) (c.rows + 1) (places bytes 3 p) (state u own)
                ∙ ap (λ (y : State). length y.table) own_is.is ∙ enums_length bytes file (c.rows + 1) (places bytes 4 p) (push_message row (state t c))
                ∙ length-set t c.rows row ∙ going.long;
            left_over = rw (next_is.is, own_is.is) (rw z at opened);
          }
