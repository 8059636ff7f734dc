-- The known fields of descriptor.proto: document 01's list, one table. Every other field is unknown.
use Rattle.std.specs.Prelude.{ℕ, List, [], ◌∷◌, ◌==◌, if◌then◌else◌}
use Rattle.known_fields.specs.declared.Message.{Message}
use Rattle.known_fields.specs.declared.Message.TheVariants.{FileDescriptorSet, FileDescriptorProto, DescriptorProto, FieldDescriptorProto, OneofDescriptorProto, EnumDescriptorProto, EnumValueDescriptorProto, MessageOptions, FieldOptions, EnumValueOptions}
use Rattle.known_fields.specs.declared.Class.{Class}
use Rattle.known_fields.specs.declared.Class.TheVariants.{Unknown, Number, Bytes, Once, Repeated}

-- a field number, and its class
abbrev pub ◌is◌ : ℕ → Class → ℕ × Class
n is c = (n, c)

infix 40 ◌is◌
-- in turn:
-- FileDescriptorSet: files
-- FileDescriptorProto: package, messages, enums, syntax
-- DescriptorProto: name, fields, nested messages, enums, options, oneofs
-- MessageOptions: map_entry
-- FieldDescriptorProto: name, number, label, type, type name, default, options, oneof index, proto3_optional
-- FieldOptions: packed, deprecated
-- OneofDescriptorProto: name
-- EnumDescriptorProto: name, values
-- EnumValueDescriptorProto: name, number, options
-- EnumValueOptions: deprecated
unfoldable pub known : Message → List (ℕ × Class)
known FileDescriptorSet = (1 is Repeated FileDescriptorProto) ∷ []
known FileDescriptorProto = (2 is Bytes) ∷ (4 is Repeated DescriptorProto) ∷ (5 is Repeated EnumDescriptorProto) ∷ (12 is Bytes) ∷ []
known DescriptorProto =
    (1 is Bytes) ∷ (2 is Repeated FieldDescriptorProto) ∷ (3 is Repeated DescriptorProto) ∷ (4 is Repeated EnumDescriptorProto) ∷ (7 is Once MessageOptions) ∷ (8 is Repeated OneofDescriptorProto) ∷ []
known MessageOptions = (7 is Number) ∷ []
known FieldDescriptorProto =
    (1 is Bytes) ∷ (3 is Number) ∷ (4 is Number) ∷ (5 is Number) ∷ (6 is Bytes) ∷ (7 is Bytes) ∷ (8 is Once FieldOptions) ∷ (9 is Number) ∷ (17 is Number) ∷ []
known FieldOptions = (2 is Number) ∷ (3 is Number) ∷ []
known OneofDescriptorProto = (1 is Bytes) ∷ []
known EnumDescriptorProto = (1 is Bytes) ∷ (2 is Repeated EnumValueDescriptorProto) ∷ []
known EnumValueDescriptorProto = (1 is Bytes) ∷ (2 is Number) ∷ (3 is Once EnumValueOptions) ∷ []
known EnumValueOptions = (1 is Number) ∷ []

-- the class that stands by the number
unfoldable pub class_in : List (ℕ × Class) → ℕ → Class
class_in [] number = Unknown
class_in (k ∷ ks) number = if number == k.0 then k.1 else class_in ks number

unfoldable pub class : Message → ℕ → Class
class message number = class_in (known message) number
