-- The embedded messages from a position on, one record on. Assumes nothing.
use mathlib.Core.Path.{◌≡◌, refl}
use mathlib.Core.List.{List, [], ◌∷◌}
use Prim.Native.Nat.{ℕ}
use borrow.Author.Tests.{eq-eqb, ne_eqb}
use Rattle.base.specs.Choose.{choose}
use Rattle.wire.specs.Step.{Record, Step, End, Fault, Found, step_at}
use Rattle.wire.specs.Records.{records}
use Rattle.wire.specs.Contents.{field_of, value_of}
use Rattle.wire.proofs.RecordsLaws.{records_end, records_fault, records_found}
use Rattle.descriptor.specs.Decode.{entries, entries_of, bytes_in, parts}

-- the embedded messages with the field number n, from position at on
abbrev pub parts_from : ℕ → List ℕ → ℕ → List (List ℕ)
parts_from n s at = parts n (entries_of s (records s at))

pub parts_all : (n : ℕ) (s : List ℕ) → parts_from n s 0 ≡ parts n (entries s)
unfolding entries
parts_all n s = refl

module _ (n : ℕ) (s : List ℕ) (at : ℕ) (r : Step) (e : r ≡ step_at s at) where
  pub parts_end : r ≡ End → parts_from n s at ≡ []
  unfolding entries_of parts
  parts_end is = rw (records_end s at r e is)

  pub parts_fault : (key : ℕ) → r ≡ Fault key → parts_from n s at ≡ []
  unfolding entries_of parts
  parts_fault key is = rw (records_fault s at r e key is)

  module _ (f : Record) (is : r ≡ Found f) where
    pub parts_skip : (f.number ≡ n → ⊥) → parts_from n s at ≡ parts_from n s f.next
    unfolding entries_of parts field_of choose
    parts_skip ne = rw (records_found s at r e f is, ne_eqb f.number n ne)

    pub parts_found : f.number ≡ n → parts_from n s at ≡ bytes_in (value_of s f) ∷ parts_from n s f.next
    unfolding entries_of parts field_of choose
    parts_found q = rw (records_found s at r e f is, eq-eqb f.number n q)
