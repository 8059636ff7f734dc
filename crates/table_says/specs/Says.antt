-- What the two tables that the text's writers read say of a set. Assumes nothing.
use Rattle.std.specs.Prelude.{ℕ, ◌+◌, ◌≡◌, refl, Bool, true, false, List, [], ◌∷◌, Some, None}
use Rattle.base.specs.Choose.{choose}
use Rattle.descriptor.specs.Descriptor.{Bytes, Forest, done, node, FieldDescriptor, MessageDescriptor, FileDescriptor}
use Rattle.descriptor.specs.Decode.{decode_field, decode_message, decode_set}
use Rattle.descriptor.specs.Seen.{option_seen}
use Rattle.index.specs.Tree.{size}
use Rattle.options.specs.Settings.{Setting}
use Rattle.name_rules.specs.Accessors.{text, is_repeated, is_message}
use Rattle.name_rules.specs.FullNames.{◌·◌, package_scope, Entry, set_entries}
use Rattle.context.specs.Context.{has, should_box, can_message_derive_copy, can_field_derive_copy, can_message_derive_eq, can_field_derive_eq}
use Rattle.context_laws.specs.At.{At}
use Rattle.context_laws.specs.Tables.{Row, rows_of, type_name_of}
use Rattle.context_laws.specs.Rows.{first_row}
use Rattle.text_tables.specs.Rows.{message_row, field_row, place_bytes}
use Rattle.text_tables.specs.declared.MessageRow.{MessageRow}
use Rattle.text_tables.specs.declared.Place.{Place}
use Rattle.text_tables.specs.declared.FieldRow.{FieldRow}
use Rattle.code_generator.specs.MapFields.{map_entry_of}
use Rattle.code_generator.specs.Oneofs.{oneof_of}
use Rattle.members.specs.Members.{map_entry_at}

-- ---- one row

-- a message's row says what it can derive and where its fields begin
pub record MessageSays (rs : List Setting) (ds : List FileDescriptor) (e : Entry) (i : ℕ) (row : MessageRow) : Type 0 where
  pub copy : row.copy ≡ can_message_derive_copy rs ds e.full
  pub eq : row.eq ≡ can_message_derive_eq ds e.full
  pub first : row.first ≡ first_row (set_entries ds) i

-- a field's row says what it can derive; with the setting at a path, it says whether it has a Box there
pub record FieldSays (rs : List Setting) (ds : List FileDescriptor) (r : Row) (row : FieldRow) : Type 0 where
  pub copy : row.copy ≡ can_field_derive_copy rs ds r.full r.field
  pub eq : row.eq ≡ can_field_derive_eq ds r.full r.field
  pub looped : (at : Bytes) → should_box rs ds r.full at r.field ≡ choose row.looped true (choose (is_repeated r.field) false (has rs 4 (at · text r.field.name)))

-- as the writers ask: not where the field is repeated, else by the loop, else by the setting
repeated_first : (repeated looped nested set : Bool) → choose repeated false nested ≡ choose looped true (choose repeated false set) → choose repeated false nested ≡ choose repeated false (choose looped true set)
unfolding choose
repeated_first true looped nested set e = refl
repeated_first false looped nested set e = e

pub boxed_by_row : {rs : List Setting} {ds : List FileDescriptor} {r : Row} {row : FieldRow} → FieldSays rs ds r row → (at : Bytes)
    → should_box rs ds r.full at r.field ≡ choose (is_repeated r.field) false (choose row.looped true (has rs 4 (at · text r.field.name)))
unfolding should_box
boxed_by_row {rs} {ds} {r} {row} says at = repeated_first (is_repeated r.field) row.looped _ (has rs 4 (at · text r.field.name)) (says.looped at)

-- where the field's own part lies, and its oneof
pub record FieldLies (set : List ℕ) (f : FieldDescriptor) (row : FieldRow) : Type 0 where
  pub there : decode_field (place_bytes set row.place) ≡ f
  pub oneof : option_seen row.oneof ≡ oneof_of f

-- of a field whose type is the message m: where it is repeated and m is a map entry, the row has the place where m lies; else it has none
pub record PlaceSays (set : List ℕ) (repeated : Bool) (m : MessageDescriptor) (row : FieldRow) : Type 0 where
  pub there : choose repeated m.map_entry false ≡ true → (place : Place) × ((row.entry ≡ Some place) × (decode_message (place_bytes set place) ≡ m))
  pub nowhere : choose repeated m.map_entry false ≡ false → row.entry ≡ None

-- ---- messages with what is nested in them

-- of each message its full name, itself, what is nested in it and its number: those of a scope, numbered from i on
abbrev pub Numbered : (Bytes → MessageDescriptor → Forest MessageDescriptor → ℕ → Type 0) → Bytes → ℕ → Forest MessageDescriptor → Type 0
Numbered P scope i done = Unit {0}
Numbered P scope i (node m nested following) =
    P (scope · text m.name) m nested i
    × (Numbered P (scope · text m.name) (i + 1) nested × Numbered P scope (i + 1 + size nested) following)

abbrev pub NumberedFiles : (Bytes → MessageDescriptor → Forest MessageDescriptor → ℕ → Type 0) → ℕ → List FileDescriptor → Type 0
NumberedFiles P i [] = Unit {0}
NumberedFiles P i (f ∷ fs) = Numbered P (package_scope f.package_name) i f.messages × NumberedFiles P (i + size f.messages) fs

-- message i stands among the set's; the number behind those nested in it; and the map entries that its fields name
pub record NodeSays (set : List ℕ) (messages : List MessageRow) (t : List FieldRow) (full : Bytes) (m : MessageDescriptor) (nested : Forest MessageDescriptor) (i : ℕ) : Type 0 where
  pub at : At (record { full = full; message = m }) (set_entries (decode_set set)) i
  pub after : (message_row messages i).after ≡ i + 1 + size nested
  pub map_entry : (f : FieldDescriptor) (j : ℕ) → At f m.fields j → map_entry_at set t (first_row (set_entries (decode_set set)) i + j) ≡ map_entry_of full nested f.type_name

-- ---- both tables

pub record Says (rs : List Setting) (set : List ℕ) (messages : List MessageRow) (t : List FieldRow) : Type 0 where
  pub message : (e : Entry) (i : ℕ) → At e (set_entries (decode_set set)) i → MessageSays rs (decode_set set) e i (message_row messages i)
  pub field : (r : Row) (k : ℕ) → At r (rows_of (set_entries (decode_set set))) k → FieldSays rs (decode_set set) r (field_row t k)
  pub lies : (r : Row) (k : ℕ) → At r (rows_of (set_entries (decode_set set))) k → FieldLies set r.field (field_row t k)
  pub place : (r : Row) (k : ℕ) → At r (rows_of (set_entries (decode_set set))) k → is_message r.field ≡ true → (e : Entry) (j : ℕ) → At e (set_entries (decode_set set)) j
      → e.full ≡ type_name_of r → PlaceSays set (is_repeated r.field) e.message (field_row t k)
  pub no_place : (r : Row) (k : ℕ) → At r (rows_of (set_entries (decode_set set))) k → is_message r.field ≡ false → (field_row t k).entry ≡ None
  pub nodes : NumberedFiles (NodeSays set messages t) 0 (decode_set set)
