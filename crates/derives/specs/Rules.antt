-- What the answer of one field turns on: `can_field_derive_copy` and `can_field_derive_eq` of context.rs. Assumes nothing.
use Rattle.std.specs.Prelude.{Bool, true, false, Option, Some, None, ℕ, eqb}
use Rattle.base.specs.Choose.{choose}
use Rattle.field_types.specs.Types.{can_pack, type_eq}
use Rattle.message_graph.specs.Fields.{type_message, label_repeated}
use Rattle.derives.specs.declared.Derive.{Derive}
use Rattle.derives.specs.declared.Derive.TheVariants.{Copy, Eq}

-- what is no message is Copy if it is a number, bool or enum, and Eq if it is an integer, bool, enum, string or bytes.
-- `looped`: its type leads to its message; `set`: it has a boxed setting at `.M.f`; `can`: the answer of the message that is its type
unfoldable pub can_field_derive_copy : (kind label : ℕ) (looped set can : Bool) → Bool
can_field_derive_copy kind label looped set can =
    choose (eqb label label_repeated) false
    (choose (eqb kind type_message)
    (choose looped false (choose set false can))
    (can_pack kind))

unfoldable pub can_field_derive_eq : (kind label : ℕ) (looped can : Bool) → Bool
can_field_derive_eq kind label looped can =
    choose (eqb kind type_message)
    (choose (eqb label label_repeated) false (choose looped false can))
    (type_eq kind)

unfoldable pub rule : Derive → (kind label : ℕ) (looped set can : Bool) → Bool
rule Copy kind label looped set can = can_field_derive_copy kind label looped set can
rule Eq kind label looped set can = can_field_derive_eq kind label looped can

-- the answer of a field, as a function of the answer of its type's message, where it doesn't turn on that
unfoldable pub turn : (Bool → Bool) → Option Bool
turn answer = choose (answer true) (choose (answer false) (Some true) None) (Some false)
