-- Document 01's set, decoded. Assumes nothing.
use mathlib.Core.Path.{◌≡◌, refl}
use mathlib.Core.Bool.{false}
use mathlib.Core.List.{[], ◌∷◌}
use mathlib.Core.Option.{none, some}
use Rattle.base.specs.Bytes.{b}
use Rattle.base.specs.Choose.{choose}
use Rattle.wire.specs.Varint.{varint, groups, on_varint}
use Rattle.wire.specs.Step.{payload, step_at}
use Rattle.wire.specs.Records.{on_step, scan, records}
use Rattle.wire.specs.Contents.{field_of, value_of}
use Rattle.descriptor.specs.Descriptor.{done, node, FieldDescriptor, MessageDescriptor, FileDescriptor}
use Rattle.descriptor.specs.Decode.{entries, entries_of, last_from, parts, joined, field_in, decode_field, decode_enum, decode_message, decode_messages, decode_file, decode_set}

abbrev dx : FieldDescriptor
dx =
    record {
      name = some (b "dx");
      number = some 1;
      label = some 1;
      type = some 17;
      type_name = none;
      default_value = none;
      options = none;
      oneof_index = none;
      proto3_optional = false;
    }

abbrev stick : MessageDescriptor
stick = record { name = some (b "Stick"); fields = dx ∷ []; enums = []; map_entry = false; oneofs = [] }

abbrev chair : FileDescriptor
chair = record { package_name = some (b "chair"); syntax = some (b "proto3"); messages = node stick done done; enums = [] }

stick_set : decode_set (10 ∷ 45 ∷ 10 ∷ 7 ∷ 97 ∷ 46 ∷ 112 ∷ 114 ∷ 111 ∷ 116 ∷ 111 ∷ 18 ∷ 5 ∷ 99 ∷ 104 ∷ 97 ∷ 105 ∷ 114 ∷ 34 ∷ 19 ∷ 10 ∷ 5 ∷ 83 ∷ 116 ∷ 105 ∷ 99 ∷ 107 ∷ 18 ∷ 10 ∷ 10 ∷ 2 ∷ 100 ∷ 120 ∷ 24 ∷ 1 ∷ 32 ∷ 1 ∷ 40 ∷ 17 ∷ 98 ∷ 6 ∷ 112 ∷ 114 ∷ 111 ∷ 116 ∷ 111 ∷ 51 ∷ []) ≡ chair ∷ []
unfolding decode_set decode_file decode_messages decode_message decode_field decode_enum field_in joined parts last_from entries entries_of field_of value_of records scan on_step step_at payload varint groups on_varint choose
stick_set = refl
