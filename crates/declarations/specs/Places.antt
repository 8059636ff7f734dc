-- The places of embedded messages, by the records of a message one after the other.
use Rattle.std.specs.Prelude.{ℕ, ◌+◌, List, [], ◌∷◌, length, eqb, Result, Ok, Err}
use Rattle.base.specs.Choose.{choose}
use Rattle.wire.specs.Message.{Entry}
use Rattle.wire.specs.declared.records.record.Fault.{Fault}
use Rattle.descriptor.specs.Decode.{bytes_in}
use Rattle.declarations.specs.declared.places.Place.{Place}

abbrev pub place_in : Entry → Place
place_in e = record { start = e.start; end = e.start + length (bytes_in e.field.value) }

unfoldable pub places_in : ℕ → List (Result Entry Fault) → List Place
places_in number [] = []
places_in number (Ok e ∷ rs) = choose (eqb e.field.number number) (place_in e ∷ places_in number rs) (places_in number rs)
places_in number (Err f ∷ rs) = places_in number rs
