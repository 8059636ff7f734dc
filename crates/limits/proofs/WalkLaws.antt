-- The tally of a message's bytes and the room that they take, one record on. Assumes nothing.
use mathlib.Core.Path.{◌≡◌, refl, ap, ◌∙◌}
use mathlib.Core.Bool.{Bool, true, false}
use mathlib.Core.List.{List, [], ◌∷◌}
use Prim.Native.Nat.{ℕ, zero, suc, ◌+◌, ◌-◌, ◌≤◌}
use native.Mathlib.Numerals.{sub-one}
use native.Mathlib.Omega.{arith}
use lib.ListN.{length}
use Rattle.std.specs.Prelude.{Some, None, Result, Ok, Err}
use Rattle.std.specs.Int.{from_bool}
use Rattle.base.specs.Choose.{choose}
use Rattle.wire.specs.Encoding.{Field}
use Rattle.wire.specs.Message.{Entry, records_at, fields_in}
use Rattle.wire.specs.declared.records.record.Fault.{Fault}
use Rattle.descriptor.specs.Descriptor.{Bytes}
use Rattle.descriptor.specs.Decode.{bytes_in}
use Rattle.descriptor.proofs.EntriesLaws.{entries_read}
use Rattle.limits.specs.declared.limit.Limit.{Limit}
use Rattle.limits.specs.declared.sort.Sort.{Sort}
use Rattle.limits.specs.Sums.{sum, bit}
use Rattle.limits.specs.Weights.{sort_below, counts, around_below, weight, field_weight, tally}
use Rattle.limits.proofs.TallyLaws.{tally_none}
use Rattle.limits.proofs.Sizes.{room, entries_room}

-- of these fields
abbrev pub tally_of : Limit → ℕ → Sort → ℕ → List Field → ℕ
tally_of limit left sort around fs = sum (field_weight limit (tally limit (left - 1)) left sort around) fs

pub tally_start : (limit : Limit) (left : ℕ) (sort : Sort) (around : ℕ) (s : Bytes) → (left ≡ 0 → ⊥) → tally_of limit left sort around (fields_in (records_at 0 s)) ≡ tally limit left sort around s
unfolding tally
tally_start limit zero sort around s some = absurd (some refl)
tally_start limit (suc k) sort around s some = ap (tally_of limit (suc k) sort around) (entries_read 0 s) ∙ rw sub-one

pub tally_no_level : (limit : Limit) (sort : Sort) (around : ℕ) (s : Bytes) → tally limit 0 sort around s ≡ 0
unfolding tally
tally_no_level limit sort around s = refl

pub tally_end : (limit : Limit) (left : ℕ) (sort : Sort) (around : ℕ) → tally_of limit left sort around (fields_in []) ≡ 0
unfolding sum fields_in
tally_end limit left sort around = refl

module _ (limit : Limit) (left : ℕ) (sort : Sort) (around : ℕ) (rs : List (Result Entry Fault)) where
  pub tally_fault : (f : Fault) → tally_of limit left sort around (fields_in (Err f ∷ rs)) ≡ tally_of limit left sort around (fields_in rs)
  unfolding fields_in
  tally_fault f = refl

  pub tally_skip : (e : Entry) → sort_below sort left e.field.number ≡ None → tally_of limit left sort around (fields_in (Ok e ∷ rs)) ≡ tally_of limit left sort around (fields_in rs)
  unfolding sum weight fields_in
  tally_skip e none = rw none (omega arith)

  pub tally_found : (e : Entry) (below : Sort) → sort_below sort left e.field.number ≡ Some below → tally_of limit left sort around (fields_in (Ok e ∷ rs))
      ≡ bit (counts limit below around (bytes_in e.field.value)) + tally limit (left - 1) below (around_below below around (bytes_in e.field.value)) (bytes_in e.field.value) + tally_of limit left sort around (fields_in rs)
  unfolding sum weight fields_in
  tally_found e below is = rw is

-- the bytes that the records take
module _ (rs : List (Result Entry Fault)) where
  pub room_fault : (f : Fault) → sum room (fields_in (Err f ∷ rs)) ≡ sum room (fields_in rs)
  unfolding fields_in
  room_fault f = refl

  pub room_record : (e : Entry) → sum room (fields_in (Ok e ∷ rs)) ≡ 2 + length (bytes_in e.field.value) + sum room (fields_in rs)
  unfolding sum fields_in
  room_record e = refl

pub room_start : (s : Bytes) → sum room (fields_in (records_at 0 s)) ≤ length s
room_start s = rw (entries_read 0 s) (entries_room s)

pub bit_is : (t : Bool) → from_bool t ≡ bit t
unfolding choose
bit_is true = refl
bit_is false = refl

bit_small : (t : Bool) → from_bool t ≤ 1
bit_small true = omega arith
bit_small false = omega arith

pub ruleset tallies = (tally_none, tally_start, tally_no_level, tally_end, tally_fault, tally_skip, tally_found, room_fault, room_record, room_start)

-- one declaration more
module _ (all rs : List (Result Entry Fault)) (e : Entry) (is : all ≡ Ok e ∷ rs) (x : Bytes) (x_is : x ≡ bytes_in e.field.value) (t : Bool) (one : ℕ) (one_is : one ≡ from_bool t) (n inner : ℕ) where
  pub room_left : (whole : ℕ) → n + sum room (fields_in all) ≤ whole → inner ≤ length x → n + one + inner + sum room (fields_in rs) ≤ whole
  room_left whole fits small =
      let before = rw is at fits in
      let step = room_record rs e in
      let bit = bit_small t in
      let same : length x ≡ length (bytes_in e.field.value) = ap length x_is in
      omega arith

  pub tally_more : (limit : Limit) (left : ℕ) (sort : Sort) (around : ℕ) (below : Sort) (name whole : ℕ) → n + tally_of limit left sort around (fields_in all) ≡ whole → sort_below sort left e.field.number ≡ Some below
      → t ≡ counts limit below around x → name ≡ around_below below around x → inner ≡ tally limit (left - 1) below name x → n + one + inner + tally_of limit left sort around (fields_in rs) ≡ whole
  tally_more limit left sort around below name whole so_far below_is t_is name_is inner_is =
      let before = rw is at so_far in
      let step = tally_found limit left sort around rs e below below_is in
      let own : one ≡ bit (counts limit below around (bytes_in e.field.value)) = rw (← x_is, ← t_is) (one_is ∙ bit_is t) in
      let inside : inner ≡ tally limit (left - 1) below (around_below below around (bytes_in e.field.value)) (bytes_in e.field.value) = rw (← x_is, ← name_is) inner_is in
      omega arith
