-- A worked set and its options as bytes, and how they are read. Assumes nothing.
use Rattle.std.specs.Prelude.{◌≡◌, refl, [], ◌∷◌, ◌++◌, Ok}
use Rattle.base.specs.Bytes.{b}
use Rattle.base.specs.Choose.{choose}
use Rattle.base.specs.Lists.{any, all_of}
use Rattle.wire.specs.Varint.{varint, groups, on_varint}
use Rattle.wire.specs.Step.{payload, step_at}
use Rattle.wire.specs.Records.{on_step, scan, records}
use Rattle.wire.specs.Contents.{field_of, value_of}
use Rattle.wire.specs.Readers.{groups as front_groups, varint as front_varint, payload as front_payload, cut}
use Rattle.wire.specs.Message.{record_at, with_others, records_within, records_at}
use Rattle.known_fields.specs.Known.{known, class_in, class}
use Rattle.known_fields.specs.Check.{check_set, check, check_records, check_inside, admits, inner, enter, levels_for, meet}
use Rattle.descriptor.specs.Descriptor.{Bytes, preorder}
use Rattle.descriptor.specs.Decode.{entries, entries_of, last_from, parts, joined, field_in, decode_field, value_in, decode_value, decode_enum, decode_oneof, decode_message, decode_messages, decode_file, decode_set, deeper, too_deep_file}
use Rattle.descriptor.specs.Limits.{messages_in, fields_in, enums_in, segments, passes_8, enum_lengths, full_lengths, passes_9, passes_10, limit_of_files, limit_passed}
use Rattle.limits.specs.Answer.{read_set}
use Rattle.options.specs.Kinds.{sort_of, has_path, has_value, stands_once, is_kind}
use Rattle.options.specs.Settings.{number, row_count, kind_at, path_length, value_length, zero_at, bodies, settings_from, settings}
use Rattle.options.specs.Layout.{fits, kind_before, repeated, header_good, printable, body_good, row_good, layout_from, layout}
use Rattle.split.specs.Split.{begins, split_behind, split}
use Rattle.extern_checks.specs.Doubles.{has_gap, valid_path, lists, doubled, at_fault, externs_from, externs}
use Rattle.code_generator.specs.TreeTexts as worked

-- the encoded set, a FileDescriptorSet of three files
abbrev pub set : Bytes
set = 10 ∷ 247 ∷ 2 ∷ 18 ∷ 3 ∷ 97 ∷ 46 ∷ 98 ∷ 34 ∷ 239 ∷ 2 ∷ 10 ∷ 4 ∷ 84 ∷ 114 ∷ 101 ∷ 101 ∷ 18 ∷ 23 ∷ 10 ∷ 4 ∷ 108 ∷ 101 ∷ 102 ∷ 116 ∷ 24 ∷ 1 ∷ 32 ∷ 1 ∷ 40 ∷ 11 ∷ 50 ∷ 9 ∷ 46 ∷ 97 ∷ 46 ∷ 98 ∷ 46 ∷ 84 ∷ 114 ∷ 101 ∷ 101 ∷ 18 ∷ 27 ∷ 10 ∷ 6 ∷ 102 ∷ 111 ∷ 114 ∷ 101 ∷ 115 ∷ 116 ∷ 24 ∷ 2 ∷ 32 ∷ 1 ∷ 40 ∷ 11 ∷ 50 ∷ 11 ∷ 46 ∷ 97 ∷ 46 ∷ 99 ∷ 46 ∷ 70 ∷ 111 ∷ 114 ∷ 101 ∷ 115 ∷ 116 ∷ 18 ∷ 28 ∷ 10 ∷ 4 ∷ 107 ∷ 105 ∷ 110 ∷ 100 ∷ 24 ∷ 3 ∷ 32 ∷ 1 ∷ 40 ∷ 14 ∷ 50 ∷ 14 ∷ 46 ∷ 97 ∷ 46 ∷ 98 ∷ 46 ∷ 84 ∷ 114 ∷ 101 ∷ 101 ∷ 46 ∷ 75 ∷ 105 ∷ 110 ∷ 100 ∷ 18 ∷ 38 ∷ 10 ∷ 7 ∷ 98 ∷ 121 ∷ 95 ∷ 110 ∷ 97 ∷ 109 ∷ 101 ∷ 24 ∷ 4 ∷ 32 ∷ 3 ∷ 40 ∷ 11 ∷ 50 ∷ 21 ∷ 46 ∷ 97 ∷ 46 ∷ 98 ∷ 46 ∷ 84 ∷ 114 ∷ 101 ∷ 101 ∷ 46 ∷ 66 ∷ 121 ∷ 78 ∷ 97 ∷ 109 ∷ 101 ∷ 69 ∷ 110 ∷ 116 ∷ 114 ∷ 121 ∷ 18 ∷ 27 ∷ 10 ∷ 8 ∷ 99 ∷ 104 ∷ 105 ∷ 108 ∷ 100 ∷ 114 ∷ 101 ∷ 110 ∷ 24 ∷ 5 ∷ 32 ∷ 3 ∷ 40 ∷ 11 ∷ 50 ∷ 9 ∷ 46 ∷ 97 ∷ 46 ∷ 98 ∷ 46 ∷ 84 ∷ 114 ∷ 101 ∷ 101 ∷ 18 ∷ 23 ∷ 10 ∷ 5 ∷ 115 ∷ 116 ∷ 97 ∷ 109 ∷ 112 ∷ 24 ∷ 6 ∷ 32 ∷ 1 ∷ 40 ∷ 11 ∷ 50 ∷ 8 ∷ 46 ∷ 120 ∷ 46 ∷ 83 ∷ 116 ∷ 97 ∷ 109 ∷ 112 ∷ 18 ∷ 28 ∷ 10 ∷ 4 ∷ 110 ∷ 111 ∷ 116 ∷ 101 ∷ 24 ∷ 7 ∷ 32 ∷ 1 ∷ 40 ∷ 11 ∷ 50 ∷ 14 ∷ 46 ∷ 97 ∷ 46 ∷ 98 ∷ 46 ∷ 84 ∷ 114 ∷ 101 ∷ 101 ∷ 46 ∷ 78 ∷ 111 ∷ 116 ∷ 101 ∷ 18 ∷ 30 ∷ 10 ∷ 4 ∷ 108 ∷ 101 ∷ 97 ∷ 102 ∷ 24 ∷ 8 ∷ 32 ∷ 1 ∷ 40 ∷ 11 ∷ 50 ∷ 14 ∷ 46 ∷ 97 ∷ 46 ∷ 98 ∷ 46 ∷ 84 ∷ 114 ∷ 101 ∷ 101 ∷ 46 ∷ 78 ∷ 111 ∷ 116 ∷ 101 ∷ 72 ∷ 0 ∷ 18 ∷ 27 ∷ 10 ∷ 6 ∷ 98 ∷ 114 ∷ 97 ∷ 110 ∷ 99 ∷ 104 ∷ 24 ∷ 9 ∷ 32 ∷ 1 ∷ 40 ∷ 11 ∷ 50 ∷ 9 ∷ 46 ∷ 97 ∷ 46 ∷ 98 ∷ 46 ∷ 84 ∷ 114 ∷ 101 ∷ 101 ∷ 72 ∷ 0 ∷ 26 ∷ 6 ∷ 10 ∷ 4 ∷ 78 ∷ 111 ∷ 116 ∷ 101 ∷ 26 ∷ 56 ∷ 10 ∷ 11 ∷ 66 ∷ 121 ∷ 78 ∷ 97 ∷ 109 ∷ 101 ∷ 69 ∷ 110 ∷ 116 ∷ 114 ∷ 121 ∷ 18 ∷ 11 ∷ 10 ∷ 3 ∷ 107 ∷ 101 ∷ 121 ∷ 24 ∷ 1 ∷ 32 ∷ 1 ∷ 40 ∷ 9 ∷ 18 ∷ 24 ∷ 10 ∷ 5 ∷ 118 ∷ 97 ∷ 108 ∷ 117 ∷ 101 ∷ 24 ∷ 2 ∷ 32 ∷ 1 ∷ 40 ∷ 11 ∷ 50 ∷ 9 ∷ 46 ∷ 97 ∷ 46 ∷ 98 ∷ 46 ∷ 84 ∷ 114 ∷ 101 ∷ 101 ∷ 58 ∷ 2 ∷ 56 ∷ 1 ∷ 34 ∷ 15 ∷ 10 ∷ 4 ∷ 75 ∷ 105 ∷ 110 ∷ 100 ∷ 18 ∷ 7 ∷ 10 ∷ 3 ∷ 79 ∷ 65 ∷ 75 ∷ 16 ∷ 0 ∷ 66 ∷ 7 ∷ 10 ∷ 5 ∷ 115 ∷ 104 ∷ 97 ∷ 112 ∷ 101 ∷ 10 ∷ 40 ∷ 18 ∷ 3 ∷ 97 ∷ 46 ∷ 99 ∷ 34 ∷ 33 ∷ 10 ∷ 6 ∷ 70 ∷ 111 ∷ 114 ∷ 101 ∷ 115 ∷ 116 ∷ 18 ∷ 23 ∷ 10 ∷ 4 ∷ 116 ∷ 114 ∷ 101 ∷ 101 ∷ 24 ∷ 1 ∷ 32 ∷ 1 ∷ 40 ∷ 11 ∷ 50 ∷ 9 ∷ 46 ∷ 97 ∷ 46 ∷ 98 ∷ 46 ∷ 84 ∷ 114 ∷ 101 ∷ 101 ∷ 10 ∷ 37 ∷ 18 ∷ 1 ∷ 120 ∷ 34 ∷ 32 ∷ 10 ∷ 5 ∷ 83 ∷ 116 ∷ 97 ∷ 109 ∷ 112 ∷ 18 ∷ 23 ∷ 10 ∷ 4 ∷ 116 ∷ 114 ∷ 101 ∷ 101 ∷ 24 ∷ 1 ∷ 32 ∷ 1 ∷ 40 ∷ 11 ∷ 50 ∷ 9 ∷ 46 ∷ 97 ∷ 46 ∷ 98 ∷ 46 ∷ 84 ∷ 114 ∷ 101 ∷ 101 ∷ []

-- one row of kind 1
abbrev pub options : Bytes
options = 1 ∷ 0 ∷ 1 ∷ 0 ∷ 2 ∷ 0 ∷ 3 ∷ 0 ∷ 0 ∷ 0 ∷ (b ".x" ++ b "::x")

pub decoded : decode_set set ≡ worked.set
unfolding decode_set decode_file decode_messages decode_message decode_field decode_enum decode_oneof field_in value_in decode_value joined parts last_from entries entries_of field_of value_of records scan on_step step_at payload varint groups on_varint choose
decoded = refl

pub readable : read_set set ≡ Ok tt
unfolding read_set check_set check check_records check_inside admits inner enter levels_for meet class class_in known records_at records_within with_others record_at front_payload cut front_varint front_groups records scan on_step step_at payload varint groups on_varint choose limit_passed limit_of_files messages_in fields_in enums_in segments passes_8 enum_lengths full_lengths passes_9 passes_10 preorder any all_of deeper too_deep_file decode_set decode_file decode_messages decode_message decode_field decode_enum decode_oneof field_in value_in decode_value joined parts last_from entries entries_of field_of value_of
readable = refl

pub laid_out : layout options ≡ Ok tt
unfolding layout layout_from row_good body_good printable header_good repeated kind_before fits is_kind stands_once has_value has_path sort_of number row_count kind_at path_length value_length zero_at bodies choose
laid_out = refl

pub rows : settings options ≡ worked.rs
unfolding settings settings_from number row_count kind_at path_length value_length bodies
rows = refl

pub valid : externs worked.rs ≡ Ok tt
unfolding externs externs_from at_fault doubled lists valid_path has_gap split split_behind begins any choose
valid = refl
