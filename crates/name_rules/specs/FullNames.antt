-- Full names: of every message and enum of a set, and refusal 7. Assumes nothing.
use Rattle.std.specs.Prelude.{ℕ, ◌+◌, Bool, true, false, ◌&&◌, ◌||◌, not, List, [], ◌∷◌, ◌++◌}
use Rattle.std.proofs.Math.Option.{Option, some, none}
use Rattle.base.specs.Bytes.{same}
use Rattle.base.specs.Choose.{choose}
use Rattle.descriptor.specs.Descriptor.{Bytes, Forest, done, node, FieldDescriptor, EnumDescriptor, MessageDescriptor, FileDescriptor}
use Rattle.base.specs.Lists.{all}
use Rattle.name_rules.specs.Accessors.{text, is_message, is_group, is_enum}

-- a name in a scope: `.a.b` and T is `.a.b.T`
infixl 65 ◌·◌
abbrev pub ◌·◌ : Bytes → Bytes → Bytes
scope · name = scope ++ (46 ∷ name)

-- the scope of a file's declarations: its package behind a dot, or nothing
abbrev pub package_scope : Option Bytes → Bytes
package_scope none = []
package_scope (some p) = 46 ∷ p

-- every message of a set with its full name, in declaration order
pub record Entry : Type 0 where
  pub full : Bytes
  pub message : MessageDescriptor

unfoldable pub entries : Bytes → Forest MessageDescriptor → List Entry
entries scope done = []
entries scope (node m nested following) =
    record { full = scope · text m.name; message = m } ∷ (entries (scope · text m.name) nested ++ entries scope following)

unfoldable pub set_entries : List FileDescriptor → List Entry
set_entries [] = []
set_entries (f ∷ fs) = entries (package_scope f.package_name) f.messages ++ set_entries fs

-- a declaration: its full name, and its sort
pub record Declaration : Type 0 where
  pub full : Bytes
  pub is_enumeration : Bool

abbrev pub enum_declarations : Bytes → List EnumDescriptor → List Declaration
enum_declarations scope [] = []
enum_declarations scope (e ∷ es) = record { full = scope · text e.name; is_enumeration = true } ∷ enum_declarations scope es

-- those of messages: each, its enums, and those of the messages nested in it
abbrev pub entry_declarations : List Entry → List Declaration
entry_declarations [] = []
entry_declarations (e ∷ es) = record { full = e.full; is_enumeration = false } ∷ (enum_declarations e.full e.message.enums ++ entry_declarations es)

unfoldable pub file_declarations : FileDescriptor → List Declaration
file_declarations f =
    entry_declarations (entries (package_scope f.package_name) f.messages) ++ enum_declarations (package_scope f.package_name) f.enums

unfoldable pub set_declarations : List FileDescriptor → List Declaration
set_declarations [] = []
set_declarations (f ∷ fs) = file_declarations f ++ set_declarations fs

-- is a full name among these declarations?
unfoldable pub declared : Bytes → List Declaration → Bool
declared full [] = false
declared full (d ∷ ds) = same d.full full || declared full ds

-- with this sort?
abbrev pub equals : Bool → Bool → Bool
equals true y = y
equals false y = not y

unfoldable pub declared_as : Bool → Bytes → List Declaration → Bool
declared_as is_enumeration full [] = false
declared_as is_enumeration full (d ∷ ds) = (equals d.is_enumeration is_enumeration && same d.full full) || declared_as is_enumeration full ds

-- no full name was declared before
unfoldable pub fresh : List Declaration → List Declaration → Bool
fresh before [] = true
fresh before (d ∷ ds) = not (declared d.full before) && fresh (d ∷ before) ds

-- a message's, group's or enum's type name is declared in the set, with that sort
unfoldable pub type_declared : List Declaration → FieldDescriptor → Bool
type_declared ds f =
    choose (is_message f || is_group f) (declared_as false (text f.type_name) ds) (choose (is_enum f) (declared_as true (text f.type_name) ds) true)

unfoldable pub fields_of_entries : List Entry → List FieldDescriptor
fields_of_entries [] = []
fields_of_entries (e ∷ es) = e.message.fields ++ fields_of_entries es

-- the fields of a file, and of a set
abbrev pub file_fields : FileDescriptor → List FieldDescriptor
file_fields f = fields_of_entries (entries (package_scope f.package_name) f.messages)

abbrev pub set_fields : List FileDescriptor → List FieldDescriptor
set_fields fs = fields_of_entries (set_entries fs)

-- the index of the first file with refusal 7, and the count of files where there is none: given all declarations of the set, and those before
unfoldable pub first_undeclared : List Declaration → List Declaration → List FileDescriptor → ℕ
first_undeclared ds before [] = 0
first_undeclared ds before (f ∷ fs) =
    choose (fresh before (file_declarations f) && all (type_declared ds) (file_fields f)) (1 + first_undeclared ds (before ++ file_declarations f) fs) 0
