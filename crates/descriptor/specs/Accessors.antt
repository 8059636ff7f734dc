-- prost-types' accessors of a descriptor: what a field that is missing reads as. Refusal 6 leaves none missing that is read here. Assumes nothing.
use Rattle.std.specs.Prelude.{ℕ, Bool, [], eqb}
use Rattle.std.proofs.Math.Option.{Option, some, none}
use Rattle.descriptor.specs.Descriptor.{Bytes, FieldDescriptor}

abbrev pub or_else : {A : Type 0} → A → Option A → A
or_else d none = d
or_else d (some x) = x

abbrev pub text : Option Bytes → Bytes
text = or_else []

abbrev pub number : FieldDescriptor → ℕ
number f = or_else 0 f.number

-- LABEL_OPTIONAL is 1, LABEL_REQUIRED 2, LABEL_REPEATED 3
abbrev pub label : FieldDescriptor → ℕ
label f = or_else 1 f.label

-- TYPE_DOUBLE is 1, TYPE_GROUP 10, TYPE_MESSAGE 11, TYPE_ENUM 14
abbrev pub type : FieldDescriptor → ℕ
type f = or_else 1 f.type

abbrev pub is_repeated : FieldDescriptor → Bool
is_repeated f = eqb (label f) 3

abbrev pub is_message : FieldDescriptor → Bool
is_message f = eqb (type f) 11

abbrev pub is_group : FieldDescriptor → Bool
is_group f = eqb (type f) 10

abbrev pub is_enum : FieldDescriptor → Bool
is_enum f = eqb (type f) 14
