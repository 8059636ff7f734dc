-- What a set has that passes no limit. Assumes nothing.
use Rattle.std.specs.Prelude.{◌≡◌, false, ◌≤◌, ltb, length}
use Rattle.std.proofs.Common.{ltb-false}
use Rattle.base.specs.Choose.{not_passed}
use Rattle.base.specs.Lists.{any}
use Rattle.descriptor.specs.Descriptor.{Bytes, EnumDescriptor}
use Rattle.descriptor.specs.Decode.{entries, parts, decode_set, too_deep_file}
use Rattle.descriptor.specs.Limits.{max_set, max_files, max_messages, max_fields, max_enums, max_values, messages_in, fields_in, enums_in, passes_1, passes_8, passes_9, passes_10, limit_of_files, limit_passed}

pub record Within (set : Bytes) : Type 0 where
  pub small : length set ≤ max_set
  pub files : length (decode_set set) ≤ max_files
  pub messages : length (messages_in (decode_set set)) ≤ max_messages
  pub fields : length (fields_in (decode_set set)) ≤ max_fields
  pub enums : length (enums_in (decode_set set)) ≤ max_enums
  pub values : any (λ (e : EnumDescriptor). ltb max_values (length e.values)) (enums_in (decode_set set)) ≡ false
  pub levels : any too_deep_file (parts 1 (entries set)) ≡ false
  pub names : passes_8 (decode_set set) ≡ false
  pub full_names : passes_9 (decode_set set) ≡ false
  pub defaults : passes_10 (decode_set set) ≡ false

pub within : (set : Bytes) → limit_passed set ≡ 0 → Within set
unfolding limit_passed limit_of_files
within set e =
    let one = not_passed (passes_1 set) 0 _ e in
    let two = not_passed _ 1 _ one.1 in
    let three = not_passed _ 2 _ two.1 in
    let four = not_passed _ 3 _ three.1 in
    let five = not_passed _ 4 _ four.1 in
    let six = not_passed _ 5 _ five.1 in
    let seven = not_passed _ 6 _ six.1 in
    let eight = not_passed _ 7 _ seven.1 in
    let nine = not_passed _ 8 _ eight.1 in
    let ten = not_passed _ 9 _ nine.1 in
    record {
      small = ltb-false max_set (length set) one.0;
      files = ltb-false max_files (length (decode_set set)) two.0;
      messages = ltb-false max_messages (length (messages_in (decode_set set))) three.0;
      fields = ltb-false max_fields (length (fields_in (decode_set set))) four.0;
      enums = ltb-false max_enums (length (enums_in (decode_set set))) five.0;
      values = six.0;
      levels = seven.0;
      names = eight.0;
      full_names = nine.0;
      defaults = ten.0;
    }
