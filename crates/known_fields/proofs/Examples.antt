-- Sets and their first faults, by computation. Assumes nothing.
use mathlib.Core.Path.{◌≡◌, refl}
use mathlib.Core.List.{[], ◌∷◌}
use Rattle.std.specs.Prelude.{Ok, Err}
use Rattle.wire.specs.Readers.{groups, varint, cut, payload}
use Rattle.wire.specs.Message.{record_at, with_others, records_within, records_at}
use Rattle.known_fields.specs.Known.{known, class_in, class}
use Rattle.known_fields.specs.Check.{check_set, check, check_records, check_inside, admits, inner, enter, levels_for, meet}

-- document 01's set: package chair, proto3, message Stick with an optional-labelled sint32 dx = 1, in a file a.proto
stick : check_set (10 ∷ 45 ∷ 10 ∷ 7 ∷ 97 ∷ 46 ∷ 112 ∷ 114 ∷ 111 ∷ 116 ∷ 111 ∷ 18 ∷ 5 ∷ 99 ∷ 104 ∷ 97 ∷ 105 ∷ 114 ∷ 34 ∷ 19 ∷ 10 ∷ 5 ∷ 83 ∷ 116 ∷ 105 ∷ 99 ∷ 107 ∷ 18 ∷ 10 ∷ 10 ∷ 2 ∷ 100 ∷ 120 ∷ 24 ∷ 1 ∷ 32 ∷ 1 ∷ 40 ∷ 17 ∷ 98 ∷ 6 ∷ 112 ∷ 114 ∷ 111 ∷ 116 ∷ 111 ∷ 51 ∷ []) ≡ Ok tt
unfolding check_set check check_records check_inside admits inner enter levels_for meet class class_in known records_at records_within with_others record_at payload cut varint groups
stick = refl

-- a field's number with wire type 5: the place is its key
wrong_wire_type : check_set (10 ∷ 45 ∷ 10 ∷ 7 ∷ 97 ∷ 46 ∷ 112 ∷ 114 ∷ 111 ∷ 116 ∷ 111 ∷ 18 ∷ 5 ∷ 99 ∷ 104 ∷ 97 ∷ 105 ∷ 114 ∷ 34 ∷ 19 ∷ 10 ∷ 5 ∷ 83 ∷ 116 ∷ 105 ∷ 99 ∷ 107 ∷ 18 ∷ 10 ∷ 10 ∷ 2 ∷ 100 ∷ 120 ∷ 29 ∷ 1 ∷ 32 ∷ 1 ∷ 40 ∷ 17 ∷ 98 ∷ 6 ∷ 112 ∷ 114 ∷ 111 ∷ 116 ∷ 111 ∷ 51 ∷ []) ≡ Err (record { key = 33 })
unfolding check_set check check_records check_inside admits inner enter levels_for meet class class_in known records_at records_within with_others record_at payload cut varint groups
wrong_wire_type = refl

-- a singular field met twice, four levels in: the place is its second key
met_twice : check_set (10 ∷ 10 ∷ 34 ∷ 8 ∷ 18 ∷ 6 ∷ 66 ∷ 4 ∷ 16 ∷ 1 ∷ 16 ∷ 0 ∷ []) ≡ Err (record { key = 10 })
unfolding check_set check check_records check_inside admits inner enter levels_for meet class class_in known records_at records_within with_others record_at payload cut varint groups
met_twice = refl

-- a payload that passes the end of the message it stands in, though not of the set: the place is its own key
past_its_part : check_set (10 ∷ 4 ∷ 34 ∷ 2 ∷ 10 ∷ 1 ∷ 10 ∷ 0 ∷ []) ≡ Err (record { key = 4 })
unfolding check_set check check_records check_inside admits inner enter levels_for meet class class_in known records_at records_within with_others record_at payload cut varint groups
past_its_part = refl

-- a fault at nesting 16 is met, one at nesting 17 is not
at_16 : check_set (10 ∷ 38 ∷ 34 ∷ 36 ∷ 26 ∷ 34 ∷ 26 ∷ 32 ∷ 26 ∷ 30 ∷ 26 ∷ 28 ∷ 26 ∷ 26 ∷ 26 ∷ 24 ∷ 26 ∷ 22 ∷ 26 ∷ 20 ∷ 26 ∷ 18 ∷ 26 ∷ 16 ∷ 26 ∷ 14 ∷ 26 ∷ 12 ∷ 26 ∷ 10 ∷ 26 ∷ 8 ∷ 26 ∷ 6 ∷ 18 ∷ 4 ∷ 66 ∷ 2 ∷ 21 ∷ 1 ∷ []) ≡ Err (record { key = 38 })
unfolding check_set check check_records check_inside admits inner enter levels_for meet class class_in known records_at records_within with_others record_at payload cut varint groups
at_16 = refl

at_17 : check_set (10 ∷ 40 ∷ 34 ∷ 38 ∷ 26 ∷ 36 ∷ 26 ∷ 34 ∷ 26 ∷ 32 ∷ 26 ∷ 30 ∷ 26 ∷ 28 ∷ 26 ∷ 26 ∷ 26 ∷ 24 ∷ 26 ∷ 22 ∷ 26 ∷ 20 ∷ 26 ∷ 18 ∷ 26 ∷ 16 ∷ 26 ∷ 14 ∷ 26 ∷ 12 ∷ 26 ∷ 10 ∷ 26 ∷ 8 ∷ 26 ∷ 6 ∷ 18 ∷ 4 ∷ 66 ∷ 2 ∷ 21 ∷ 1 ∷ []) ≡ Ok tt
unfolding check_set check check_records check_inside admits inner enter levels_for meet class class_in known records_at records_within with_others record_at payload cut varint groups
at_17 = refl

no_bytes : check_set [] ≡ Ok tt
unfolding check_set check check_records check_inside admits inner enter levels_for meet class class_in known records_at records_within with_others record_at payload cut varint groups
no_bytes = refl
