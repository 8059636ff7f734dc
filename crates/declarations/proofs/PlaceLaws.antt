-- The places that the records of a message give, one after the other, are those by their positions. Assumes nothing.
use mathlib.Core.Path.{◌≡◌, refl, ap, ◌∙◌}
use mathlib.Core.Bool.{Bool, true, false}
use mathlib.Core.List.{List, [], ◌∷◌}
use Prim.Native.Nat.{ℕ, ◌+◌, ◌-◌, ◌≤◌, ◌^◌, ◌<◌}
use native.Mathlib.Nat.{min-le_right}
use native.Mathlib.Omega.{arith}
use lib.ListN.{length, drop, length-take, length-drop}
use lib.Dec.{eqb}
use Rattle.base.specs.Choose.{choose}
use Rattle.wire.specs.Records.{records, part}
use Rattle.wire.specs.Contents.{value_of, field_of}
use Rattle.std.specs.Prelude.{Result, Ok, Err}
use Rattle.descriptor.proofs.PartLaws.{inside_length}
use Rattle.wire.specs.Message.{Entry, records_at}
use Rattle.wire.proofs.MessageLaws.{records_bound}
use Rattle.wire.specs.declared.records.record.Fault.{Fault as FaultAt}
use Rattle.wire.proofs.RecordsLaws.{In, AllIn, records_in}
use Rattle.wire.proofs.SameRecords.{listed, same_records}
use Rattle.wire.specs.Step.{Record, Step, End, Fault, Found}
use Rattle.descriptor.specs.Decode.{bytes_in}
use Rattle.declarations.specs.Rows.{bytes_at, place, places_of, places}
use Rattle.declarations.specs.Places.{place_in, places_in}
use Rattle.declarations.specs.declared.places.Place.{Place}

by_number : (b : Bool) (p q : Place) (ps qs : List Place) → p ≡ q → ps ≡ qs → choose b (p ∷ ps) ps ≡ choose b (q ∷ qs) qs
by_number b p q ps qs e f = rw (e, f) refl

module _ (number base : ℕ) (s : List ℕ) where
  same_place : (f : Record) → In (length s) f → ◌≡◌ {A = Place} (record { start = base + f.start; end = base + f.start + length (bytes_in (value_of s f)) }) (place base f)
  same_place f l =
      let e = inside_length s f l in
      ap (λ (n : ℕ). record { start = base + f.start; end = n }) (omega arith)

  listed_places : (rs : List Step) → AllIn (length s) rs → places_in number (listed base s rs) ≡ places_of number base rs
  unfolding places_in places_of listed field_of
  listed_places [] h = refl
  listed_places (End ∷ rs) h = refl
  listed_places (Fault key ∷ rs) h = refl
  listed_places (Found f ∷ rs) h = by_number (eqb f.number number) _ _ _ _ (same_place f h.0) (listed_places rs h.1)

pub places_read : (number : ℕ) (bytes : List ℕ) (p : Place) → places_in number (records_at p.start (bytes_at bytes p)) ≡ places bytes number p
unfolding places
places_read number bytes p =
    let s : List ℕ = bytes_at bytes p in
    ap (places_in number) (same_records p.start s) ∙ listed_places number p.start s (records s 0) (records_in s 0)

picked_bound : (number : ℕ) (rs : List (Result Entry FaultAt)) → length (places_in number rs) ≤ length rs
unfolding places_in choose
picked_bound number [] = omega arith
picked_bound number (Ok e ∷ rs) =
    elim (eqb e.field.number number) as (λ t. length (choose t (place_in e ∷ places_in number rs) (places_in number rs)) ≤ length (Ok e ∷ rs))
    [ true ↦ omega (arith, picked_bound number rs) | false ↦ omega (arith, picked_bound number rs) ]
picked_bound number (Err f ∷ rs) = omega (arith, picked_bound number rs)

-- a set has no more of them than bytes
pub places_bound : (number : ℕ) (bytes : List ℕ) (p : Place) → length (places bytes number p) ≤ length bytes
places_bound number bytes p =
    let s : List ℕ = bytes_at bytes p in
    let few = picked_bound number (records_at p.start s) in
    let short = records_bound p.start s in
    let e = length-take (p.end - p.start) (drop p.start bytes) in
    let l = length-drop p.start bytes in
    let m = min-le_right (p.end - p.start) (length (drop p.start bytes)) in
    rw (← places_read number bytes p) (omega arith)

-- a part ends within the bytes, where it has any
pub part_within : (bytes : List ℕ) (a n : ℕ) → a < 2 ^ 64 → length bytes < 2 ^ 64 → a + length (part bytes a n) < 2 ^ 64
part_within bytes a n small short =
    let e = length-take n (drop a bytes) in
    let l = length-drop a bytes in
    let m = min-le_right n (length (drop a bytes)) in
    omega arith
