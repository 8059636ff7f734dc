-- A file without a record of a message or of an enum. Assumes nothing.
use Rattle.std.specs.Prelude.{◌≡◌, refl, false, Bool, ◌||◌, List, [], ◌∷◌, eqb, Result, Ok, Err}
use Rattle.std.specs.List.{list_any}
use Rattle.base.specs.Choose.{choose}
use Rattle.base.specs.Tests.{or_false_left, or_false_right}
use Rattle.wire.specs.declared.records.record.Fault.{Fault}
use Rattle.wire.specs.Message.{Entry, fields_in}
use Rattle.descriptor.specs.Decode.{parts}

-- is it the record of a message or of an enum?
unfoldable pub declares : Result Entry Fault → Bool
declares (Ok e) = eqb e.field.number 4 || eqb e.field.number 5
declares (Err f) = false

pub none_declared : (rs : List (Result Entry Fault)) → list_any declares rs ≡ false → (parts 4 (fields_in rs) ≡ []) × (parts 5 (fields_in rs) ≡ [])
unfolding parts fields_in choose declares
none_declared [] h = (refl, refl)
none_declared (Err f ∷ rs) h = none_declared rs h
none_declared (Ok e ∷ rs) h =
    let here = or_false_left (eqb e.field.number 4 || eqb e.field.number 5) (list_any declares rs) h in
    let rest = none_declared rs (or_false_right (eqb e.field.number 4 || eqb e.field.number 5) (list_any declares rs) h) in
    rw (or_false_left (eqb e.field.number 4) (eqb e.field.number 5) here, or_false_right (eqb e.field.number 4) (eqb e.field.number 5) here) rest
