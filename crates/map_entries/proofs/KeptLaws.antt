-- Rows that stand in a table stay there. Assumes nothing.
use mathlib.Core.Path.{◌≡◌, refl, ap, ◌∙◌}
use mathlib.Core.Bool.{Bool, true, false}
use mathlib.Core.List.{List, [], ◌∷◌}
use Prim.Native.Nat.{ℕ, zero, suc, ◌+◌, ◌-◌, ◌≤◌, ◌<◌}
use native.Mathlib.Omega.{arith}
use lib.ListN.{length, set, length-set}
use lib.Dec.{eqb, ltb}
use borrow.Author.Tests.{ltb-false}
use Rattle.base.specs.Choose.{choose, choose_case}
use Rattle.declarations.specs.declared.places.Place.{Place}
use Rattle.name_rules.specs.FullNames.{◌·◌}
use Rattle.declarations.specs.Rows.{State, kind_number, row_at, room, push, push_message, places, declaration_row, declare_enums, declare_messages}
use Rattle.declarations.specs.Listed.{name_of, above, full_by, full}
use Rattle.declarations.specs.declared.Declaration.{Declaration as Row}
use Rattle.declarations.specs.declared.Kind.TheVariants.{Enum, Message}
use Rattle.declarations.proofs.TableLaws.{row_before}
use Rattle.declarations.proofs.RoomLaws.{room_is, room_there}
use Rattle.declarations.proofs.FullLaws.{above_before}
use Rattle.map_entries.specs.Named.{parent_kind}

pub record Kept (x y : State) : Type 0 where
  pub rows : x.rows ≤ y.rows
  pub long : length y.table ≡ length x.table
  pub same : (k : ℕ) → k < x.rows → row_at y.table k ≡ row_at x.table k

pub kept_none : (x : State) → Kept x x
kept_none x = record { rows = omega arith; long = refl; same = λ k h. refl }

pub kept_more : (x y z : State) → Kept x y → Kept y z → Kept x z
kept_more x y z a b =
    let i = a.rows in
    let j = b.rows in
    record { rows = omega arith; long = b.long ∙ a.long; same = λ k h. b.same k (omega arith) ∙ a.same k h }

pub kept_push : (x : State) (r : Row) (messages : ℕ) → Kept x (record { table = set x.table x.rows r; rows = x.rows + 1; messages = messages })
kept_push x r messages = record { rows = omega arith; long = length-set x.table x.rows r; same = λ k h. row_before x.table x.rows r k h }

-- a table that has room in the end had room before
pub room_before : (x y : State) → Kept x y → room y ≡ true → room x ≡ true
room_before x y k h =
    let r = room_is y.table y.rows h in
    let a : y.rows < 65536 = r.0 in
    let b : y.rows < length y.table = r.1 in
    let i = k.rows in
    let l = k.long in
    room_there x.table x.rows (omega arith) (omega arith)

module _ (bytes : List ℕ) (file : ℕ) where
  pub enums_kept : (up : ℕ) (ps : List Place) (x : State) → Kept x (declare_enums bytes file up ps x)
  unfolding declare_enums
  enums_kept up [] x = kept_none x
  enums_kept up (p ∷ ps) x =
      choose_case (Kept x) (room x)
      (λ _. kept_more x (push (declaration_row bytes file up Enum p) x) _ (kept_push x (declaration_row bytes file up Enum p) x.messages) (enums_kept up ps (push (declaration_row bytes file up Enum p) x)))
      (λ _. kept_none x)

  pub messages_kept : (n up : ℕ) (ps : List Place) (x : State) → Kept x (declare_messages bytes file n up ps x)
  unfolding declare_messages
  messages_kept zero up ps x = kept_none x
  messages_kept (suc n) up [] x = kept_none x
  messages_kept (suc n) up (p ∷ ps) x =
      let r : Row = declaration_row bytes file up (Message x.messages) p in
      let x₁ : State = push_message r x in
      let x₂ : State = declare_enums bytes file (x.rows + 1) (places bytes 4 p) x₁ in
      let x₃ : State = declare_messages bytes file n (x.rows + 1) (places bytes 3 p) x₂ in
      choose_case (Kept x) (room x)
      (λ _. kept_more x x₁ _ (kept_push x r (x.messages + 1))
      (kept_more x₁ x₂ _ (enums_kept (x.rows + 1) (places bytes 4 p) x₁) (kept_more x₂ x₃ _ (messages_kept n (x.rows + 1) (places bytes 3 p) x₂) (messages_kept (suc n) up ps x₃))))
      (λ _. kept_none x)

-- ---- tables with the same rows up to row i
module _ (bytes : List ℕ) (t u : List Row) where
  full_by_same : (n k : ℕ) → ((j : ℕ) → j < k → row_at t j ≡ row_at u j) → full_by bytes t n k ≡ full_by bytes u n k
  unfolding full_by
  full_by_same zero k h = refl
  full_by_same (suc n) zero h = refl
  full_by_same (suc n) (suc i) h =
      let l = above_before i (row_at u i) in
      rw (h i (omega arith)) (ap (λ (scope : List ℕ). scope · name_of bytes (row_at u i)) (full_by_same n (above i (row_at u i)) (λ j k. h j (omega arith))))

  pub full_same : (k : ℕ) → ((j : ℕ) → j < k → row_at t j ≡ row_at u j) → full bytes t k ≡ full bytes u k
  unfolding full
  full_same k h = full_by_same k k h

  module _ (i : ℕ) (h : (j : ℕ) → j < suc i → row_at t j ≡ row_at u j) where
    same_up : (row_at t i).up ≡ (row_at u i).up
    same_up = ap (λ (r : Row). r.up) (h i (omega arith))

    same_kind : (j : ℕ) → j < suc i → kind_number (row_at t j).kind ≡ kind_number (row_at u j).kind
    same_kind j l = ap (λ (r : Row). kind_number r.kind) (h j l)

    pub parent_same : parent_kind t i ≡ parent_kind u i
    unfolding parent_kind choose
    parent_same = rw same_up (by (eqb (row_at u i).up 0) (ltb i (row_at u i).up) refl)
      where
        by : (a b : Bool) → ltb i (row_at u i).up ≡ b → choose a 0 (choose b 0 (kind_number (row_at t ((row_at u i).up - 1)).kind)) ≡ choose a 0 (choose b 0 (kind_number (row_at u ((row_at u i).up - 1)).kind))
        by true b e = refl
        by false true e = refl
        by false false e = let l = ltb-false i (row_at u i).up e in same_kind ((row_at u i).up - 1) (omega arith)
