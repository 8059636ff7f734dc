-- The search of `first_unnamed`. Assumes nothing.
use mathlib.Core.Path.{◌≡◌, sym, ap, ◌∙◌}
use mathlib.Core.Bool.{Bool, true, false, not}
use mathlib.Core.List.{List}
use Prim.Native.Nat.{ℕ, suc, ◌+◌, ◌-◌, ◌≤◌, ◌<◌}
use native.Mathlib.Omega.{arith}
use lib.ListN.{length, get_or, get_or-eq_default}
use lib.Dec.{eqb}
use borrow.Author.Tests.{eq-eqb, ne_eqb, lt-ltb, le-ltb, not-true, not-false}
use Rattle.base.specs.Choose.{choose}
use Rattle.wire.specs.Records.{part as part_of}
use Rattle.descriptor.specs.Descriptor.{Bytes, MessageHeader, message_header}
use Rattle.descriptor.specs.Decode.{entries, parts, decode_message}
use Rattle.declarations.specs.Rows.{row_at, kind_number}
use Rattle.declarations.specs.declared.Declaration.{Declaration as Row}
use Rattle.declarations.specs.declared.Kind.{Kind}
use Rattle.declarations.specs.declared.Kind.TheVariants.{Package, Enum, Message}
use mathlib.Core.Logic.{◌⊎◌}
use Rattle.map_entries.proofs.UseLaws.{no_message_kind}
use Rattle.map_entries.specs.Named.{parent_kind, entry_row_named, is_entry_row, row_named, unnamed_from, first_unnamed}

module _ (t : List Row) (i up : ℕ) (up_is : up ≡ (row_at t i).up) where
  pub parent_none : up ≡ 0 → kind_number Package ≡ parent_kind t i
  unfolding parent_kind kind_number choose
  parent_none e = rw (← up_is, eq-eqb up 0 e)

  pub parent_behind : i < up → kind_number Package ≡ parent_kind t i
  unfolding parent_kind kind_number choose
  parent_behind h = rw (← up_is, ne_eqb up 0 (λ e. omega arith), lt-ltb i up h)

  pub parent_is : (up ≡ 0 → ⊥) → up ≤ i → (r : Row) → r ≡ row_at t (up - 1) → kind_number r.kind ≡ parent_kind t i
  unfolding parent_kind choose
  parent_is ne h r e = rw (← up_is, ne_eqb up 0 ne, le-ltb i up h, e)

module _ (bytes : List ℕ) (t : List Row) (i : ℕ) (r : Row) (r_is : r ≡ row_at t i) where
  pub entry_none : kind_number r.kind < 2 → false ≡ is_entry_row bytes t i
  unfolding is_entry_row choose
  entry_none h = rw (← r_is, lt-ltb (kind_number r.kind) 2 h)

  pub entry_is : 2 ≤ kind_number r.kind → (part : Bytes) → part ≡ part_of bytes r.start (r.end - r.start) → (m : MessageHeader) → m ≡ message_header (decode_message part) → m.map_entry ≡ is_entry_row bytes t i
  unfolding is_entry_row choose
  entry_is h part part_is m m_is = rw (m_is, part_is, ← r_is, le-ltb (kind_number r.kind) 2 h)

-- a row that is asked for who names it
module _ (t : List Row) (who : List ℕ) (i : ℕ) (k : Kind) (k_is : kind_number k ≡ parent_kind t i) where
  pub at_top : (k ≡ Package) ⊎ (k ≡ Enum) → false ≡ entry_row_named t who i
  unfolding entry_row_named choose
  at_top is = let l = no_message_kind k is in rw (← k_is, lt-ltb (kind_number k) 2 l)

  module _ (number : ℕ) (e : k ≡ Message number) where
    pub row_said : (w : ℕ) → w ≡ get_or who i 0 → eqb w (number + 2) ≡ entry_row_named t who i
    unfolding entry_row_named kind_number choose
    row_said w w_is = rw (← k_is, e, le-ltb (number + 2) 2 (omega arith), w_is)

    pub row_past : length who ≤ i → false ≡ entry_row_named t who i
    row_past out = sym (ne_eqb 0 (number + 2) (λ q. omega arith)) ∙ row_said 0 (sym (get_or-eq_default who 0 {n = i} out))

module _ (bytes : List ℕ) (t : List Row) (who : List ℕ) (count : ℕ) where
  pub record Going (i : ℕ) : Type 0 where
    pub inside : i ≤ count
    pub left : unnamed_from bytes t who (count - i) i ≡ first_unnamed bytes t count who

  pub going_start : Going 0
  unfolding first_unnamed
  going_start = record { inside = omega arith; left = ap (λ (n : ℕ). unnamed_from bytes t who n 0) (let e : count - 0 ≡ count = omega arith in e) }

  module _ (i : ℕ) (going : Going i) where
    pub going_end : count ≤ i → (r : ℕ) → r ≡ length (parts 1 (entries bytes)) → r ≡ first_unnamed bytes t count who
    unfolding unnamed_from
    going_end h r e = let z : count - i ≡ 0 = omega arith in e ∙ (rw z at going.left)

    module _ (h : i < count) (r : Bool) (r_is : r ≡ row_named bytes t who i) where
      opened : choose r (unnamed_from bytes t who (count - (i + 1)) (i + 1)) (row_at t i).file ≡ first_unnamed bytes t count who
      unfolding unnamed_from
      opened = let z : count - i ≡ suc (count - (i + 1)) = omega arith in rw r_is (rw z at going.left)

      pub going_found : not r ≡ true → (f : ℕ) → f ≡ (row_at t i).file → f ≡ first_unnamed bytes t count who
      unfolding choose
      going_found e f f_is = f_is ∙ (rw (not-true r e) at opened)

      pub going_more : not r ≡ false → Going (i + 1)
      unfolding choose
      going_more e = record { inside = omega arith; left = rw (not-false r e) at opened }
