-- The descriptors of a set, with descriptor.proto's names. What may be missing is an Option; numbers are the low 32 bits.
use Rattle.std.specs.Prelude.{Bool, List, [], ◌∷◌, ◌++◌, ℕ}
use Rattle.std.proofs.Math.Option.{Option}

-- first child, next sibling: a head, what is nested in it, and what follows it
pub data Forest (A : Type 0) : Type 0 where
  done : Forest A
  node : A → Forest A → Forest A → Forest A

-- in declaration order: each before what is nested in it
unfoldable pub preorder : {A : Type 0} → Forest A → List A
preorder done = []
preorder (node a nested following) = a ∷ (preorder nested ++ preorder following)

abbrev pub Bytes : Type 0
Bytes = List ℕ

pub record FieldOptions : Type 0 where
  pub packed : Bool
  pub deprecated : Bool

pub record FieldDescriptor : Type 0 where
  pub name : Option Bytes
  pub number : Option ℕ
  pub label : Option ℕ
  pub type : Option ℕ
  pub type_name : Option Bytes
  pub default_value : Option Bytes
  pub options : Option FieldOptions
  pub oneof_index : Option ℕ
  pub proto3_optional : Bool

pub record ValueDescriptor : Type 0 where
  pub name : Option Bytes
  pub number : Option ℕ
  pub deprecated : Bool

pub record EnumDescriptor : Type 0 where
  pub name : Option Bytes
  pub values : List ValueDescriptor

-- a message without those nested in it; a oneof is its name
pub record MessageDescriptor : Type 0 where
  pub name : Option Bytes
  pub fields : List FieldDescriptor
  pub enums : List EnumDescriptor
  pub map_entry : Bool
  pub oneofs : List (Option Bytes)

pub record FileDescriptor : Type 0 where
  pub package_name : Option Bytes
  pub syntax : Option Bytes
  pub messages : Forest MessageDescriptor
  pub enums : List EnumDescriptor

-- what messages and files say of themselves, without the declarations in them
pub record MessageHeader : Type 0 where
  pub name : Option Bytes
  pub map_entry : Bool

abbrev pub message_header : MessageDescriptor → MessageHeader
message_header m = record { name = m.name; map_entry = m.map_entry }

pub record FileHeader : Type 0 where
  pub package_name : Option Bytes
  pub syntax : Option Bytes

abbrev pub file_header : FileDescriptor → FileHeader
file_header f = record { package_name = f.package_name; syntax = f.syntax }
