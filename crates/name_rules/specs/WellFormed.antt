-- What refusal 6 leaves of a file, stated of each declaration. Assumes nothing.
use Rattle.std.specs.Prelude.{ℕ, ◌≤◌, ◌<◌, ◌≡◌, true, false, ◌||◌, [], ◌∷◌, ◌⊎◌, length}
use Rattle.std.proofs.Math.Option.{Option, some}
use Rattle.base.specs.Bytes.{b}
use Rattle.base.specs.Lists.{Every}
use Rattle.ident.specs.Name.{is_name, has_word}
use Rattle.utf8.specs.Utf8.{is_utf8}
use Rattle.syntax.specs.Syntax.{Proto2, Proto3, syntax_of}
use Rattle.descriptor.specs.Descriptor.{Bytes, Forest, done, node, preorder, FieldDescriptor, ValueDescriptor, EnumDescriptor, MessageDescriptor, FileDescriptor}
use Rattle.name_rules.specs.Accessors.{is_message, is_group, is_enum}
use Rattle.name_rules.specs.Rules.{segments, key_type, is_number}

-- an identifier with a letter or digit
pub record Name (s : Bytes) : Type 0 where
  pub identifier : is_name s ≡ true
  pub letter_or_digit : has_word s ≡ true

pub record Named (o : Option Bytes) : Type 0 where
  pub name : Bytes
  pub there : o ≡ some name
  pub good : Name name

pub record Given {ℓ} {A : Type ℓ} (o : Option A) : Type ℓ where
  pub value : A
  pub there : o ≡ some value

pub record Between (low high : ℕ) (o : Option ℕ) : Type 0 where
  pub value : ℕ
  pub there : o ≡ some value
  pub from : low ≤ value
  pub to : value ≤ high

-- a field of a message with so many oneofs
pub record GoodField (oneofs : ℕ) (f : FieldDescriptor) : Type 0 where
  pub named : Named f.name
  pub numbered : Between 1 536870911 f.number
  pub labelled : Between 1 3 f.label
  pub typed : Between 1 18 f.type
  pub type_named : (is_group f || (is_message f || is_enum f)) ≡ true → Given f.type_name
  pub in_oneof : (i : ℕ) → f.oneof_index ≡ some i → (i < oneofs) × (f.label ≡ some 1)
  pub default_utf8 : (d : Bytes) → f.default_value ≡ some d → is_utf8 d ≡ true
  pub default_named : (d : Bytes) → f.default_value ≡ some d → is_enum f ≡ true → Name d

pub record GoodValue (v : ValueDescriptor) : Type 0 where
  pub named : Named v.name
  pub numbered : Given v.number

pub record GoodEnum (e : EnumDescriptor) : Type 0 where
  pub named : Named e.name
  pub values : Every GoodValue e.values

pub record GoodMessage (m : MessageDescriptor) : Type 0 where
  pub named : Named m.name
  pub fields : Every (GoodField (length m.oneofs)) m.fields
  pub enums : Every GoodEnum m.enums
  pub oneofs : Every Named m.oneofs

-- a field of a map entry
pub record EntryField (name : Bytes) (number : ℕ) (f : FieldDescriptor) : Type 0 where
  pub named : f.name ≡ some name
  pub numbered : f.number ≡ some number
  pub optional : f.label ≡ some 1

-- a map entry holds a key and a value alone
pub record GoodEntry (m : MessageDescriptor) : Type 0 where
  pub key : FieldDescriptor
  pub value : FieldDescriptor
  pub two_fields : m.fields ≡ key ∷ (value ∷ [])
  pub no_enum : m.enums ≡ []
  pub no_oneof : m.oneofs ≡ []
  pub key_field : EntryField (b "key") 1 key
  pub key_typed : key_type key.type ≡ true
  pub value_field : EntryField (b "value") 2 value
  pub no_group : is_number 10 value.type ≡ false

-- what holds of each message and those nested in it
abbrev pub EveryNode : (MessageDescriptor → Forest MessageDescriptor → Type 0) → Forest MessageDescriptor → Type 0
EveryNode P done = Unit
EveryNode P (node m nested following) = P m nested × (EveryNode P nested × EveryNode P following)

pub record WellFormed (f : FileDescriptor) : Type 0 where
  pub package_names : (p : Bytes) → f.package_name ≡ some p → Every Name (segments p)
  pub known_syntax : (syntax_of f.syntax ≡ Proto2) ⊎ (syntax_of f.syntax ≡ Proto3)
  pub messages : Every GoodMessage (preorder f.messages)
  pub map_entries : Every (λ m. m.map_entry ≡ true → GoodEntry m) (preorder f.messages)
  pub nothing_nested : EveryNode (λ m nested. m.map_entry ≡ true → nested ≡ done) f.messages
  pub enums : Every GoodEnum f.enums
