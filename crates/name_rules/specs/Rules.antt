-- Refusal 6, as far as a declaration is judged by itself: names, package, syntax, required fields, type, label, number, oneof index, default,
-- and what a map entry holds.
use Rattle.std.specs.Prelude.{ℕ, ◌^◌, Bool, true, false, ◌&&◌, ◌||◌, not, List, [], ◌∷◌, Result, Ok, Err, eqb, ltb, leb, length}
use Rattle.std.proofs.Math.Option.{Option, none, some}
use Rattle.base.specs.Choose.{choose}
use Rattle.base.specs.Bytes.{b, same}
use Rattle.ident.specs.Name.{is_name, has_word}
use Rattle.utf8.specs.Utf8.{is_utf8}
use Rattle.syntax.specs.Syntax.{Syntax, Proto2, Proto3, Unknown, syntax_of}
use Rattle.field_types.specs.Types.{sort_of, integer, boolean}
use Rattle.field_types.specs.Types as types
use Rattle.descriptor.specs.Descriptor.{Bytes, Forest, done, node, FieldDescriptor, ValueDescriptor, EnumDescriptor, MessageDescriptor, FileDescriptor}
unfoldable pub use Rattle.descriptor.specs.Limits.{segments}
pub use Rattle.descriptor.specs.Limits.{on_first as onto}
use Rattle.base.specs.Lists.{all, is_empty}
use Rattle.name_rules.specs.declared.rules.IllFormed.{IllFormed}

-- a name: `[A-Za-z_][A-Za-z0-9_]*`, and not of underscores only
unfoldable pub good_name : Bytes → Bool
good_name s = is_name s && has_word s

-- a name is required
abbrev pub has_name : Option Bytes → Bool
has_name none = false
has_name (some s) = good_name s

-- a package: names joined by `.`; the empty one is one empty segment
abbrev pub package_good : Option Bytes → Bool
package_good none = true
package_good (some p) = all good_name (segments p)

abbrev pub is_known : Syntax → Bool
is_known Proto2 = true
is_known Proto3 = true
is_known Unknown = false

abbrev pub syntax_good : Option Bytes → Bool
syntax_good s = is_known (syntax_of s)

-- a number is required, from low to high
abbrev pub within : ℕ → ℕ → Option ℕ → Bool
within low high none = false
within low high (some n) = leb low n && leb n high

abbrev pub is_given : Option ℕ → Bool
is_given none = false
is_given (some n) = true

abbrev pub is_number : ℕ → Option ℕ → Bool
is_number n none = false
is_number n (some m) = eqb m n

-- a type name is needed for group (10), message (11) and enum (14)
abbrev pub type_name_good : Option ℕ → Option Bytes → Bool
type_name_good type none = not (is_number 10 type || (is_number 11 type || is_number 14 type))
type_name_good type (some name) = true

-- a oneof index is at least 0, below the count of oneofs, and its field is labelled optional (1)
abbrev pub oneof_index_good : ℕ → Option ℕ → Option ℕ → Bool
oneof_index_good oneofs label none = true
oneof_index_good oneofs label (some i) = ltb i (2 ^ 31) && (ltb i oneofs && is_number 1 label)

-- a default is UTF-8, and of an enum field a name
abbrev pub default_good : Option ℕ → Option Bytes → Bool
default_good type none = true
default_good type (some d) = is_utf8 d && (not (is_number 14 type) || good_name d)

-- what is made of that test, and document 01's number of the refusal
abbrev pub judged : Bool → Result Unit IllFormed
judged true = Ok tt
judged false = Err (record {})

abbrev pub refusal_number : IllFormed → ℕ
refusal_number x = 6

-- a field of a message with so many oneofs
unfoldable pub field_good : ℕ → FieldDescriptor → Bool
field_good oneofs f =
    has_name f.name
    && (within 1 536870911 f.number
    && (within 1 3 f.label
    && (within 1 18 f.type
    && (type_name_good f.type f.type_name
    && (oneof_index_good oneofs f.label f.oneof_index && default_good f.type f.default_value)))))

unfoldable pub value_good : ValueDescriptor → Bool
value_good v = has_name v.name && is_given v.number

unfoldable pub enum_good : EnumDescriptor → Bool
enum_good e = has_name e.name && all value_good e.values

unfoldable pub message_good : MessageDescriptor → Bool
message_good m =
    has_name m.name
    && (all (field_good (length m.oneofs)) m.fields && (all enum_good m.enums && all has_name m.oneofs))

-- a map entry holds exactly `key` (1) then `value` (2), both optional. The key is an integer type, bool or string, the value no group
abbrev pub is_text : Bytes → Option Bytes → Bool
is_text x none = false
is_text x (some y) = same y x

unfoldable pub key_type : Option ℕ → Bool
key_type none = false
key_type (some t) = eqb (sort_of t) integer || (eqb (sort_of t) boolean || eqb (sort_of t) types.text)

unfoldable pub key_good : FieldDescriptor → Bool
key_good f = is_text (b "key") f.name && (is_number 1 f.number && (is_number 1 f.label && key_type f.type))

unfoldable pub value_field_good : FieldDescriptor → Bool
value_field_good f = is_text (b "value") f.name && (is_number 2 f.number && (is_number 1 f.label && not (is_number 10 f.type)))

abbrev pub one_value : List FieldDescriptor → Bool
one_value [] = false
one_value (v ∷ fs) = value_field_good v && is_empty fs

abbrev pub key_and_value : List FieldDescriptor → Bool
key_and_value [] = false
key_and_value (k ∷ fs) = key_good k && one_value fs

abbrev pub none_nested : Forest MessageDescriptor → Bool
none_nested done = true
none_nested (node m nested following) = false

-- what a map entry holds, with the messages nested in it
unfoldable pub entry_good : MessageDescriptor → Forest MessageDescriptor → Bool
entry_good m nested = key_and_value m.fields && (is_empty m.enums && (is_empty m.oneofs && none_nested nested))

unfoldable pub messages_good : Forest MessageDescriptor → Bool
messages_good done = true
messages_good (node m nested following) =
    message_good m && (choose m.map_entry (entry_good m nested) true && (messages_good nested && messages_good following))

unfoldable pub file_good : FileDescriptor → Bool
file_good f = package_good f.package_name && (syntax_good f.syntax && (messages_good f.messages && all enum_good f.enums))
