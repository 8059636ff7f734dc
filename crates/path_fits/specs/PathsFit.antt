-- What it is for a set's names to have room: a full name is of at most 256 bytes, a name of at most 64, so that a path of up to two names
-- behind a full name is whole in a buffer of 512, and a name in camel case too. Assumes nothing.
use Rattle.std.specs.Prelude.{ℕ, ◌≤◌, ◌≡◌, true, ◌⊎◌, [], length, take}
use Rattle.std.proofs.Math.Option.{Option}
use Rattle.base.specs.Lists.{Every}
use Rattle.ident.specs.Ident.{to_upper_camel}
use Rattle.descriptor.specs.Descriptor.{Bytes, Forest, done, node, FieldDescriptor, ValueDescriptor, EnumDescriptor, MessageDescriptor, FileDescriptor}
use Rattle.name_rules.specs.Accessors.{text}
use Rattle.name_rules.specs.FullNames.{◌·◌, package_scope}
use Rattle.joined.specs.Joined.{max_path, fits, ◌⊙◌}

abbrev pub max_short_name : ℕ
max_short_name = 64

-- limit 9 doesn't count the dot of a package that is given and empty
abbrev pub max_scope : ℕ
max_scope = 256

-- a name in a scope
pub record NameFits (scope name : Bytes) : Type 0 where
  pub short : length name ≤ max_short_name
  pub room : fits scope name ≡ true
  pub whole : scope ⊙ name ≡ scope · name
  pub camel : take max_path (to_upper_camel name) ≡ to_upper_camel name

-- full: the message's full name
pub record OneofFits (full : Bytes) (m : MessageDescriptor) (oneof : Option Bytes) : Type 0 where
  pub own : NameFits full (text oneof)
  pub fields : Every (λ (f : FieldDescriptor). NameFits (full · text oneof) (text f.name)) m.fields

pub record EnumFits (scope : Bytes) (e : EnumDescriptor) : Type 0 where
  pub own : NameFits scope (text e.name)
  pub few : length e.values ≤ 256
  pub values : Every (λ (v : ValueDescriptor). NameFits (scope · text e.name) (text v.name)) e.values

pub record MessageFits (scope : Bytes) (m : MessageDescriptor) : Type 0 where
  pub own : NameFits scope (text m.name)
  pub full : length (scope · text m.name) ≤ max_scope
  pub fields : Every (λ (f : FieldDescriptor). NameFits (scope · text m.name) (text f.name)) m.fields
  pub oneofs : Every (OneofFits (scope · text m.name) m) m.oneofs
  pub enums : Every (EnumFits (scope · text m.name)) m.enums

-- each message of a forest in its scope
abbrev pub PathsFit : Bytes → Forest MessageDescriptor → Type 0
PathsFit scope done = Unit {0}
PathsFit scope (node m nested following) = MessageFits scope m × (PathsFit (scope · text m.name) nested × PathsFit scope following)

-- a file that declares nothing may have a package of any length
pub record FileFits (f : FileDescriptor) : Type 0 where
  pub scope : ((f.messages ≡ done) × (f.enums ≡ [])) ⊎ (length (package_scope f.package_name) ≤ max_scope)
  pub messages : PathsFit (package_scope f.package_name) f.messages
  pub enums : Every (EnumFits (package_scope f.package_name)) f.enums
