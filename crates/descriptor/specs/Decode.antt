-- The descriptor that bytes hold, by the encoding's document and descriptor.proto: of a singular field the last value counts, and the
-- occurrences of an embedded options message are joined. Messages nested deeper than 16 are left out (document 01's limit 7). Nothing here knows
-- a position.
use Rattle.std.specs.Prelude.{ℕ, zero, suc, ◌%◌, ◌^◌, Bool, true, false, not, ◌||◌, List, [], ◌∷◌, ◌++◌, map, eqb}
use Rattle.std.proofs.Math.Option.{Option, none, some}
use Rattle.base.specs.Choose.{choose}
use Rattle.wire.specs.Encoding.{Field, Value, varint_value, i64_value, len_value, i32_value}
use Rattle.wire.specs.Contents.{field_of}
use Rattle.wire.specs.Records.{records}
use Rattle.wire.specs.Step.{Step, End, Fault, Found}
use Rattle.descriptor.specs.Descriptor.{Forest, done, node, Bytes, FieldOptions, FieldDescriptor, ValueDescriptor, EnumDescriptor, MessageDescriptor, FileDescriptor}

-- the fields of a message, before its first fault
unfoldable pub entries_of : List ℕ → List Step → List Field
entries_of s [] = []
entries_of s (End ∷ rs) = []
entries_of s (Fault key ∷ rs) = []
entries_of s (Found f ∷ rs) = field_of s f ∷ entries_of s rs

unfoldable pub entries : List ℕ → List Field
entries s = entries_of s (records s 0)

-- the last value of the field number n; v where there is none
unfoldable pub last_from : ℕ → List Field → Option Value → Option Value
last_from n [] v = v
last_from n (f ∷ fs) v = last_from n fs (choose (eqb f.number n) (some f.value) v)

abbrev pub last : ℕ → List Field → Option Value
last n fs = last_from n fs none

-- a value as bytes, and as a number
abbrev pub bytes_in : Value → Bytes
bytes_in (varint_value n) = []
bytes_in (i64_value n) = []
bytes_in (len_value b) = b
bytes_in (i32_value n) = []

abbrev pub number_in : Value → ℕ
number_in (varint_value n) = n
number_in (i64_value n) = 0
number_in (len_value b) = 0
number_in (i32_value n) = 0

abbrev pub given {ℓ κ} : {A : Type ℓ} {B : Type κ} → (A → B) → Option A → Option B
given f none = none
given f (some a) = some (f a)

-- a string; a number of 32 bits: the low ones; a bool: false only for 0
abbrev pub text : Option Value → Option Bytes
text = given bytes_in

abbrev pub int32 : Option Value → Option ℕ
int32 = given (λ v. number_in v % 2 ^ 32)

abbrev pub bool : Option Value → Bool
bool none = false
bool (some v) = not (eqb (number_in v) 0)

-- the embedded messages with the field number n, in order
unfoldable pub parts : ℕ → List Field → List Bytes
parts n [] = []
parts n (f ∷ fs) = choose (eqb f.number n) (bytes_in f.value ∷ parts n fs) (parts n fs)

-- the fields of these messages, one behind the other
unfoldable pub joined : List Bytes → List Field
joined [] = []
joined (p ∷ ps) = entries p ++ joined ps

-- descriptor.proto, message by message

unfoldable pub decode_field_options : List Field → FieldOptions
decode_field_options fs = record { packed = bool (last 2 fs); deprecated = bool (last 3 fs) }

-- options that are given, though they be empty, differ from none
abbrev pub options_in : List Bytes → Option FieldOptions
options_in [] = none
options_in (p ∷ ps) = some (decode_field_options (joined (p ∷ ps)))

unfoldable pub field_in : List Field → FieldDescriptor
field_in fs =
    record {
      name = text (last 1 fs);
      number = int32 (last 3 fs);
      label = int32 (last 4 fs);
      type = int32 (last 5 fs);
      type_name = text (last 6 fs);
      default_value = text (last 7 fs);
      options = options_in (parts 8 fs);
      oneof_index = int32 (last 9 fs);
      proto3_optional = bool (last 17 fs);
    }

unfoldable pub value_in : List Field → ValueDescriptor
value_in fs = record { name = text (last 1 fs); number = int32 (last 2 fs); deprecated = bool (last 1 (joined (parts 3 fs))) }

unfoldable pub decode_field : Bytes → FieldDescriptor
decode_field s = field_in (entries s)

unfoldable pub decode_value : Bytes → ValueDescriptor
decode_value s = value_in (entries s)

unfoldable pub decode_enum : Bytes → EnumDescriptor
decode_enum s = record { name = text (last 1 (entries s)); values = map decode_value (parts 2 (entries s)) }

unfoldable pub decode_oneof : Bytes → Option Bytes
decode_oneof s = text (last 1 (entries s))

unfoldable pub decode_message : Bytes → MessageDescriptor
decode_message s =
    record {
      name = text (last 1 (entries s));
      fields = map decode_field (parts 2 (entries s));
      enums = map decode_enum (parts 4 (entries s));
      map_entry = bool (last 7 (joined (parts 7 (entries s))));
      oneofs = map decode_oneof (parts 8 (entries s));
    }

-- messages with what is nested in them, so many levels
unfoldable pub decode_messages : ℕ → List Bytes → Forest MessageDescriptor
decode_messages zero ps = done
decode_messages (suc n) [] = done
decode_messages (suc n) (p ∷ ps) = node (decode_message p) (decode_messages n (parts 3 (entries p))) (decode_messages (suc n) ps)

unfoldable pub decode_file : Bytes → FileDescriptor
decode_file s =
    record {
      package_name = text (last 2 (entries s));
      syntax = text (last 12 (entries s));
      messages = decode_messages 16 (parts 4 (entries s));
      enums = map decode_enum (parts 5 (entries s));
    }

unfoldable pub decode_set : Bytes → List FileDescriptor
decode_set s = map decode_file (parts 1 (entries s))

-- does a message lie deeper than so many levels?
unfoldable pub deeper : ℕ → List Bytes → Bool
deeper zero [] = false
deeper zero (p ∷ ps) = true
deeper (suc n) [] = false
deeper (suc n) (p ∷ ps) = deeper n (parts 3 (entries p)) || deeper (suc n) ps

unfoldable pub too_deep_file : Bytes → Bool
too_deep_file s = deeper 16 (parts 4 (entries s))
