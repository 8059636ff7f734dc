-- A table keeps its length. Assumes nothing.
use mathlib.Core.Path.{◌≡◌, refl, ◌∙◌}
use Rattle.std.specs.Option.{is_some}
use mathlib.Core.List.{List, [], ◌∷◌}
use Prim.Native.Nat.{ℕ, zero, suc, ◌+◌}
use lib.ListN.{length, length-set}
use Rattle.base.specs.Choose.{choose_case}
use Rattle.declarations.specs.declared.places.Place.{Place}
use Rattle.declarations.specs.Rows.{State, room, push, push_message, places, package_of, package_row, declaration_row, declare_enums, declare_messages, declare_members, declare_file}
use Rattle.declarations.specs.declared.Kind.TheVariants.{Enum, Message}

abbrev size : State → ℕ
size x = length x.table

pub enums_length : (bytes : List ℕ) (file up : ℕ) (ps : List Place) (x : State) → size (declare_enums bytes file up ps x) ≡ size x
unfolding declare_enums
enums_length bytes file up [] x = refl
enums_length bytes file up (p ∷ ps) x =
    choose_case (λ (y : State). size y ≡ size x) (room x)
    (λ _. enums_length bytes file up ps (push (declaration_row bytes file up Enum p) x) ∙ length-set x.table x.rows (declaration_row bytes file up Enum p)) (λ _. refl)

pub messages_length : (bytes : List ℕ) (file left up : ℕ) (ps : List Place) (x : State) → size (declare_messages bytes file left up ps x) ≡ size x
unfolding declare_messages
messages_length bytes file zero up ps x = refl
messages_length bytes file (suc n) up [] x = refl
messages_length bytes file (suc n) up (p ∷ ps) x =
    let first : State = push_message (declaration_row bytes file up (Message x.messages) p) x in
    let own : State = declare_enums bytes file (x.rows + 1) (places bytes 4 p) first in
    choose_case (λ (y : State). size y ≡ size x) (room x)
    (λ _. messages_length bytes file (suc n) up ps (declare_messages bytes file n (x.rows + 1) (places bytes 3 p) own)
    ∙ messages_length bytes file n (x.rows + 1) (places bytes 3 p) own ∙ enums_length bytes file (x.rows + 1) (places bytes 4 p) first
    ∙ length-set x.table x.rows (declaration_row bytes file up (Message x.messages) p))
    (λ _. refl)

members_length : (bytes : List ℕ) (file up : ℕ) (p : Place) (x : State) → size (declare_members bytes file up p x) ≡ size x
unfolding declare_members
members_length bytes file up p x =
    enums_length bytes file up (places bytes 5 p) (declare_messages bytes file 16 up (places bytes 4 p) x) ∙ messages_length bytes file 16 up (places bytes 4 p) x

pub file_length : (bytes : List ℕ) (file : ℕ) (p : Place) (x : State) → size (declare_file bytes file p x) ≡ size x
unfolding declare_file
file_length bytes file p x =
    choose_case (λ (y : State). size y ≡ size x) (is_some (package_of bytes p))
    (λ _. choose_case (λ (y : State). size y ≡ size x) (room x)
    (λ _. members_length bytes file (x.rows + 1) p (push (package_row bytes file p) x) ∙ length-set x.table x.rows (package_row bytes file p)) (λ _. refl))
    (λ _. members_length bytes file 0 p x)
