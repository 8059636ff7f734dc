-- A table has at most 65,536 rows. Assumes nothing.
use Rattle.std.specs.Option.{is_some}
use mathlib.Core.List.{List, [], ◌∷◌}
use Prim.Native.Nat.{ℕ, zero, suc, ◌+◌, ◌≤◌}
use native.Mathlib.Omega.{arith}
use Rattle.base.specs.Choose.{choose_case}
use Rattle.declarations.specs.declared.Kind.TheVariants.{Enum, Message}
use Rattle.declarations.specs.declared.places.Place.{Place}
use Rattle.declarations.specs.Rows.{State, room, push, push_message, places, package_of, package_row, declaration_row, declare_enums, declare_messages, declare_members, declare_file, declare_files, declared}
use Rattle.declarations.proofs.RoomLaws.{room_is}
use Rattle.declarations.specs.declared.Declaration.{Declaration as Row}

abbrev Few : State → Type 0
Few x = x.rows ≤ 65536

enums_few : (bytes : List ℕ) (file up : ℕ) (ps : List Place) (x : State) → Few x → Few (declare_enums bytes file up ps x)
unfolding declare_enums
enums_few bytes file up [] x h = h
enums_few bytes file up (p ∷ ps) x h =
    choose_case Few (room x)
    (λ e. let l = room_is x.table x.rows e in enums_few bytes file up ps (push (declaration_row bytes file up Enum p) x) (omega (arith, l.0))) (λ _. h)

messages_few : (bytes : List ℕ) (file left up : ℕ) (ps : List Place) (x : State) → Few x → Few (declare_messages bytes file left up ps x)
unfolding declare_messages
messages_few bytes file zero up ps x h = h
messages_few bytes file (suc n) up [] x h = h
messages_few bytes file (suc n) up (p ∷ ps) x h =
    let first : State = push_message (declaration_row bytes file up (Message x.messages) p) x in
    let own : State = declare_enums bytes file (x.rows + 1) (places bytes 4 p) first in
    choose_case Few (room x)
    (λ e. let l = room_is x.table x.rows e in
    messages_few bytes file (suc n) up ps (declare_messages bytes file n (x.rows + 1) (places bytes 3 p) own)
    (messages_few bytes file n (x.rows + 1) (places bytes 3 p) own (enums_few bytes file (x.rows + 1) (places bytes 4 p) first (omega (arith, l.0)))))
    (λ _. h)

members_few : (bytes : List ℕ) (file up : ℕ) (p : Place) (x : State) → Few x → Few (declare_members bytes file up p x)
unfolding declare_members
members_few bytes file up p x h =
    enums_few bytes file up (places bytes 5 p) (declare_messages bytes file 16 up (places bytes 4 p) x) (messages_few bytes file 16 up (places bytes 4 p) x h)

file_few : (bytes : List ℕ) (file : ℕ) (p : Place) (x : State) → Few x → Few (declare_file bytes file p x)
unfolding declare_file
file_few bytes file p x h =
    choose_case Few (is_some (package_of bytes p))
    (λ _. choose_case Few (room x)
    (λ e. let l = room_is x.table x.rows e in members_few bytes file (x.rows + 1) p (push (package_row bytes file p) x) (omega (arith, l.0))) (λ _. h))
    (λ _. members_few bytes file 0 p x h)

files_few : (bytes : List ℕ) (file : ℕ) (ps : List Place) (x : State) → Few x → Few (declare_files bytes file ps x)
unfolding declare_files
files_few bytes file [] x h = h
files_few bytes file (p ∷ ps) x h = files_few bytes (file + 1) ps (declare_file bytes file p x) (file_few bytes file p x h)

pub declared_few : (bytes : List ℕ) (t : List Row) → (declared bytes t).rows ≤ 65536
unfolding declared
declared_few bytes t = files_few bytes 0 (places bytes 1 _) _ (omega arith)
