-- What the tables say of messages and their fields, each of which fits its buffers. Assumes nothing.
use Rattle.std.specs.Prelude.{ℕ, suc, ◌<◌, ◌≡◌, true, false, List, [], ◌∷◌, length}
use Rattle.std.proofs.Math.Option.{some}
use Rattle.base.specs.Choose.{choose}
use Rattle.base.specs.Lists.{Every}
use Rattle.descriptor.specs.Descriptor.{Bytes, Forest, done, node, FieldDescriptor, MessageDescriptor}
use Rattle.descriptor.specs.Decode.{decode_set}
use Rattle.descriptor.specs.Seen.{option_seen}
use Rattle.options.specs.Settings.{Setting}
use Rattle.name_rules.specs.Accessors.{text, is_repeated}
use Rattle.name_rules.specs.FullNames.{◌·◌}
use Rattle.context.specs.Context.{has, should_box, can_message_derive_copy, can_field_derive_copy, can_message_derive_eq, can_field_derive_eq}
use Rattle.path_fits.specs.PathsFit.{MessageFits}
use Rattle.text_tables.specs.Rows.{message_row, field_row}
use Rattle.text_tables.specs.declared.MessageRow.{MessageRow}
use Rattle.text_tables.specs.declared.FieldRow.{FieldRow}
use Rattle.members.specs.Members.{field_at, map_entry_at}
use Rattle.code_generator.specs.MapFields.{map_entry_of}
use Rattle.code_generator.specs.Oneofs.{oneof_of}

-- a oneof's index is below a count
abbrev pub Below : ℕ → FieldDescriptor → Type 0
Below n f = (i : ℕ) → oneof_of f ≡ some i → i < n

-- of fields that stand one behind the other in a table, the first at k
abbrev pub From : (ℕ → FieldDescriptor → Type 0) → ℕ → List FieldDescriptor → Type 0
From P k [] = Unit {0}
From P k (f ∷ fs) = P k f × From P (suc k) fs

-- with one more fact of each field
pub from_with : {P R : ℕ → FieldDescriptor → Type 0} (Q : FieldDescriptor → Type 0) → ((k : ℕ) (f : FieldDescriptor) → P k f → Q f → R k f) → (k : ℕ) (fs : List FieldDescriptor) → From P k fs → Every Q fs → From R k fs
from_with Q both k [] h e = tt
from_with Q both k (f ∷ fs) h e = (both k f h.0 e.0, from_with Q both (suc k) fs h.1 e.1)

module _ (rs : List Setting) (set : List ℕ) (messages : List MessageRow) (t : List FieldRow) where
  -- row k is that of a field f of the message with the full name
  pub record FieldIs (full : Bytes) (nested : Forest MessageDescriptor) (k : ℕ) (f : FieldDescriptor) : Type 0 where
    pub there : field_at set t k ≡ f
    pub oneof : option_seen (field_row t k).oneof ≡ oneof_of f
    pub copy : (field_row t k).copy ≡ can_field_derive_copy rs (decode_set set) full f
    pub eq : (field_row t k).eq ≡ can_field_derive_eq (decode_set set) full f
    pub boxed : (at : Bytes) → should_box rs (decode_set set) full at f ≡ choose (is_repeated f) false (choose (field_row t k).looped true (has rs 4 (at · text f.name)))
    pub map_entry : map_entry_at set t k ≡ map_entry_of full nested f.type_name

  -- row i is that of the message with the full name
  pub record MessageIs (full : Bytes) (m : MessageDescriptor) (nested : Forest MessageDescriptor) (i : ℕ) : Type 0 where
    pub copy : (message_row messages i).copy ≡ can_message_derive_copy rs (decode_set set) full
    pub eq : (message_row messages i).eq ≡ can_message_derive_eq (decode_set set) full
    pub fields : From (FieldIs full nested) (message_row messages i).first m.fields
    pub below : Every (Below (length m.oneofs)) m.fields

  -- messages of a scope, the first with the number i: each fits, and its rows are its own; the next stands behind those nested in it
  abbrev pub Described : Bytes → ℕ → Forest MessageDescriptor → Type 0
  Described scope i done = Unit {0}
  Described scope i (node m nested following) =
      (MessageFits scope m × MessageIs (scope · text m.name) m nested i)
      × (Described (scope · text m.name) (suc i) nested × Described scope (message_row messages i).after following)
