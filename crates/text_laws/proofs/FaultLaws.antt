-- Refusals 8 and 9 of messages by the tables are code_generator's. Assumes nothing.
use Prim.Native.Nat.{ℕ, zero, suc}
use Rattle.std.specs.Prelude.{◌≡◌, Bool, true, false, ◌||◌, ◌&&◌, not}
use Rattle.std.proofs.Math.Path.{refl, ap₂}
use mathlib.Core.List.{List, [], ◌∷◌}
use Rattle.base.specs.Choose.{choose}
use Rattle.base.specs.Lists.{any, Every}
use Rattle.descriptor.specs.Descriptor.{Bytes, Forest, FieldDescriptor, MessageDescriptor}
use Rattle.descriptor.specs.Decode.{entries, parts, decode_oneof, decode_message, decode_messages}
use Rattle.options.specs.Settings.{Setting}
use Rattle.extern_paths.specs.ExternPaths.{taken}
use Rattle.name_rules.specs.Accessors.{text}
use Rattle.name_rules.specs.FullNames.{◌·◌}
use Rattle.path_fits.specs.PathsFit.{EnumFits, MessageFits}
use Rattle.text_tables.specs.Rows.{message_row}
use Rattle.text_tables.specs.declared.MessageRow.{MessageRow}
use Rattle.text_tables.specs.declared.FieldRow.{FieldRow}
use Rattle.file_faults.specs.FileFaults.{no_faults, ◌or◌, default_fails_at, Inner, own_faults, message_faults, faults_of, messages_faults}
use Rattle.file_faults.specs.declared.Faults.{Faults}
use Rattle.code_generator.specs.Oneofs.{plain_fields}
use Rattle.code_generator.specs.Refusals.{any_message, enum_overlaps, default_fails}
use Rattle.text_laws.specs.Pairwise.{pairwise_any}
use Rattle.text_laws.specs.Described.{MessageIs, Described}
use Rattle.text_laws.specs.EnumLaws.{enums_meet_is}
use Rattle.text_laws.proofs.FieldLaws.{FieldFits, PlainIs}
use Rattle.text_laws.proofs.MessageLaws.{plain_of}

-- what is left out has none
left_out : (out : Bool) (x : Faults) → choose out no_faults x ≡ record { overlap = not out && x.overlap; default = not out && x.default }
unfolding choose
left_out true x = refl
left_out false x = refl

module _ (rs : List Setting) (set : List ℕ) (messages : List MessageRow) (t : List FieldRow) where
  -- the tests of a message
  abbrev pub overlaps : Bytes → MessageDescriptor → Forest MessageDescriptor → Bool
  overlaps full m nested = any (enum_overlaps rs full) m.enums

  abbrev pub defaults : Bytes → MessageDescriptor → Forest MessageDescriptor → Bool
  defaults full m nested = any (default_fails full nested) (plain_fields m.fields)

  -- the faults of messages in a scope
  abbrev pub faults_in : Bytes → Forest MessageDescriptor → Faults
  faults_in scope F = record { overlap = any_message rs overlaps scope F; default = any_message rs defaults scope F }

  module _ (full : Bytes) (nested : Forest MessageDescriptor) (i : ℕ) (p : Bytes) (fields : Every (FieldFits full) (decode_message p).fields) (enums : Every (EnumFits full) (decode_message p).enums) (has : MessageIs rs set messages t full (decode_message p) nested i) where
    default_is : (k : ℕ) (f : FieldDescriptor) → PlainIs rs set messages t full nested k f → default_fails_at set t k ≡ default_fails full nested f
    unfolding default_fails_at default_fails
    default_is k f h = rw (h.row.map_entry, h.row.there)

    own_is : own_faults rs set messages t full i p ≡ record { overlap = overlaps full (decode_message p) nested; default = defaults full (decode_message p) nested }
    unfolding own_faults decode_message
    own_is =
        rw (enums_meet_is rs full (parts 4 (entries p)) enums, pairwise_any (default_fails_at set t) (default_fails full nested) default_is (plain_of rs set messages t full nested i p fields has))

  message_is : (scope : Bytes) (nested : Forest MessageDescriptor) (i : ℕ) (p : Bytes) → MessageFits scope (decode_message p) → MessageIs rs set messages t (scope · text (decode_message p).name) (decode_message p) nested i
      → (inner : Inner rs set messages t) → inner (scope · text (decode_message p).name) (suc i) (parts 3 (entries p)) ≡ faults_in (scope · text (decode_message p).name) nested
      → message_faults rs set messages t inner scope i p
      ≡ record {
        overlap = not ((decode_message p).map_entry || taken rs (scope · text (decode_message p).name)) && (overlaps (scope · text (decode_message p).name) (decode_message p) nested || any_message rs overlaps (scope · text (decode_message p).name) nested);
        default = not ((decode_message p).map_entry || taken rs (scope · text (decode_message p).name)) && (defaults (scope · text (decode_message p).name) (decode_message p) nested || any_message rs defaults (scope · text (decode_message p).name) nested);
      }
  unfolding message_faults decode_message decode_oneof
  message_is scope nested i p fit has inner inside =
      let full = scope · text (decode_message p).name in
      rw (fit.own.whole, own_is full nested i p fit.fields fit.enums has, inside)
      (left_out ((decode_message p).map_entry || taken rs full) _)

  pub messages_faults_are : (left : ℕ) (scope : Bytes) (i : ℕ) (ps : List Bytes) → Described rs set messages t scope i (decode_messages left ps)
      → messages_faults rs set messages t left scope i ps ≡ faults_in scope (decode_messages left ps)
  unfolding messages_faults faults_of any_message decode_messages
  messages_faults_are zero scope i ps h = refl
  messages_faults_are (suc left) scope i [] h = refl
  messages_faults_are (suc left) scope i (p ∷ ps) h =
      let full = scope · text (decode_message p).name in
      let nested = decode_messages left (parts 3 (entries p)) in
      ap₂ ◌or◌
      (message_is scope nested i p h.0.0 h.0.1 (messages_faults rs set messages t left) (messages_faults_are left full (suc i) (parts 3 (entries p)) h.1.0))
      (messages_faults_are (suc left) scope (message_row messages i).after ps h.1.1)
