-- A descriptor after one field of its message more: of a singular field the last value counts, the occurrences of options are joined.
-- Where the fields of a message are gone through in order, this comes to what `Decode` makes of them all, as the laws of steps show.
use Rattle.std.specs.Prelude.{ℕ, ◌%◌, ◌^◌, Bool, false, not, List, [], ◌∷◌, ◌==◌, if◌then◌else◌}
use Rattle.std.proofs.Math.Option.{Option, none, some}
use Rattle.wire.specs.Encoding.{Field, Value}
use Rattle.descriptor.specs.Descriptor.{Bytes, FieldOptions, FieldDescriptor, ValueDescriptor, MessageHeader, FileHeader}
use Rattle.descriptor.specs.Decode.{entries, bytes_in, number_in}

-- what the steps make of all fields, one after the other
unfoldable pub after : {A : Type 0} → (A → Field → A) → A → List Field → A
after step a [] = a
after step a (f ∷ fs) = after step (step a f) fs

-- what a value with the field number n makes of what was known before
abbrev pub on : {A : Type 0} → ℕ → (Value → A → A) → A → Field → A
on n make was f = if f.number == n then make f.value was else was

abbrev pub text : Value → Option Bytes → Option Bytes
text v was = some (bytes_in v)

abbrev pub int32 : Value → Option ℕ → Option ℕ
int32 v was = some (number_in v % 2 ^ 32)

abbrev pub bool : Value → Bool → Bool
bool v was = not (number_in v == 0)

-- the bool with the field number n of options
abbrev pub bool_inside : ℕ → Value → Bool → Bool
bool_inside n v was = after (on n bool) was (entries (bytes_in v))

abbrev pub no_options : FieldOptions
no_options = record { packed = false; deprecated = false }

abbrev pub options_step : FieldOptions → Field → FieldOptions
options_step o f = record { packed = on 2 bool o.packed f; deprecated = on 3 bool o.deprecated f }

abbrev pub given_options : Option FieldOptions → FieldOptions
given_options none = no_options
given_options (some o) = o

abbrev pub options : Value → Option FieldOptions → Option FieldOptions
options v was = some (after options_step (given_options was) (entries (bytes_in v)))

abbrev pub field_step : FieldDescriptor → Field → FieldDescriptor
field_step d f =
    record {
      name = on 1 text d.name f;
      number = on 3 int32 d.number f;
      label = on 4 int32 d.label f;
      type = on 5 int32 d.type f;
      type_name = on 6 text d.type_name f;
      default_value = on 7 text d.default_value f;
      options = on 8 options d.options f;
      oneof_index = on 9 int32 d.oneof_index f;
      proto3_optional = on 17 bool d.proto3_optional f;
    }

abbrev pub no_field : FieldDescriptor
no_field =
    record {
      name = none;
      number = none;
      label = none;
      type = none;
      type_name = none;
      default_value = none;
      options = none;
      oneof_index = none;
      proto3_optional = false;
    }

abbrev pub value_step : ValueDescriptor → Field → ValueDescriptor
value_step d f = record { name = on 1 text d.name f; number = on 2 int32 d.number f; deprecated = on 3 (bool_inside 1) d.deprecated f }

abbrev pub no_value : ValueDescriptor
no_value = record { name = none; number = none; deprecated = false }

abbrev pub message_step : MessageHeader → Field → MessageHeader
message_step d f = record { name = on 1 text d.name f; map_entry = on 7 (bool_inside 7) d.map_entry f }

abbrev pub no_message : MessageHeader
no_message = record { name = none; map_entry = false }

abbrev pub file_step : FileHeader → Field → FileHeader
file_step d f = record { package_name = on 2 text d.package_name f; syntax = on 12 text d.syntax f }

abbrev pub no_file : FileHeader
no_file = record { package_name = none; syntax = none }

-- the name of a oneof or an enum
abbrev pub name_step : Option Bytes → Field → Option Bytes
name_step = on 1 text
