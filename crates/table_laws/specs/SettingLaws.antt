-- The boxed settings that are written for a set's fields are those at full names, where every path fits its buffer. Assumes nothing.
use Rattle.std.specs.Prelude.{◌≡◌, Bool, length, take}
use Rattle.std.proofs.Math.Path.{refl, sym, ap}
use Rattle.std.proofs.Common.{◌∙◌, arith, take_all}
use mathlib.Core.List.{List, [], ◌∷◌, ◌++◌, map, map-map, append_assoc}
use Prim.Native.Nat.{ℕ, zero, suc, ◌≤◌}
use Rattle.std.proofs.Math.ListN.{length-append}
use Rattle.base.specs.Choose.{choose}
use Rattle.base.specs.Lists.{all_of, all_of_append}
use Rattle.descriptor.specs.Descriptor.{Bytes, FieldDescriptor}
use Rattle.descriptor.specs.Decode.{entries, parts, decode_field, decode_oneof, decode_message, decode_messages, decode_file, decode_set}
use Rattle.descriptor.specs.Decode as decode
use Rattle.options.specs.Settings.{Setting}
use Rattle.name_rules.specs.Accessors.{text}
use Rattle.name_rules.specs.FullNames.{◌·◌, package_scope, Entry, set_entries}
use Rattle.name_rules.specs.FullNames as names
use Rattle.context.specs.Context.{has}
use Rattle.walks.specs.Walked.{walked}
use Rattle.joined.specs.Joined.{max_path, ◌⊙◌, whole_path}
use Rattle.boxed_settings.specs.Flags.{name_in, flag, field_flag, stay, field_flags, messages_flags, file_flags, set_flags}
use Rattle.context_laws.specs.Tables.{Row, rows_from, is_set, settings_of}
use Rattle.context_laws.proofs.Rows.{column_entry}

-- ---- what fits

abbrev pub NamesFit : Bytes → List FieldDescriptor → Type 0
NamesFit full [] = Unit {0}
NamesFit full (f ∷ fs) = (length (full · text f.name) ≤ max_path) × NamesFit full fs

pub record EntryFits (e : Entry) : Type 0 where
  pub own : length e.full ≤ max_path
  pub fields : NamesFit e.full e.message.fields

-- the full names of the messages, and the paths of their fields
abbrev pub Fit : List Entry → Type 0
Fit [] = Unit {0}
Fit (e ∷ es) = EntryFits e × Fit es

fit_left : (xs ys : List Entry) → Fit (xs ++ ys) → Fit xs
fit_left [] ys h = tt
fit_left (x ∷ xs) ys h = (h.0, fit_left xs ys h.1)

fit_right : (xs ys : List Entry) → Fit (xs ++ ys) → Fit ys
fit_right [] ys h = h
fit_right (x ∷ xs) ys h = fit_right xs ys h.1

-- ---- the flags at full names

unfoldable pub bit : Bool → ℕ
bit b = choose b 1 0

module _ (rs : List Setting) where
  abbrev field_bit : Bytes → FieldDescriptor → ℕ
  field_bit full f = bit (has rs 4 (full · text f.name))

  abbrev entry_bits : Entry → List ℕ
  entry_bits e = map (field_bit e.full) e.message.fields

  rows_bits : (i : ℕ) (es : List Entry) → map (λ (r : Row). bit (is_set rs r)) (rows_from i es) ≡ all_of entry_bits es
  unfolding rows_from all_of
  rows_bits i [] = refl
  rows_bits i (e ∷ es) = column_entry (λ (r : Row). bit (is_set rs r)) i e es ∙ ap (λ (l : List ℕ). entry_bits e ++ l) (rows_bits (suc i) es)

  settings_bits : (es : List Entry) → map bit (settings_of rs es) ≡ all_of entry_bits es
  unfolding settings_of
  settings_bits es = map-map bit (is_set rs) (rows_from 0 es) ∙ rows_bits 0 es

  -- ---- the flags as they are written

  fields_are : (full : Bytes) (ps : List Bytes) → NamesFit full (map decode_field ps) → walked (field_flag rs full) stay 0 ps ≡ map (field_bit full) (map decode_field ps)
  unfolding walked field_flag flag bit decode_field decode.field_in decode_oneof
  fields_are full [] h = refl
  fields_are full (p ∷ ps) h = rw (whole_path full (name_in p) h.0, fields_are full ps h.1)

  name_fits : (scope p : Bytes) → EntryFits (record { full = scope · text (decode_message p).name; message = decode_message p }) → scope ⊙ name_in p ≡ scope · text (decode_message p).name
  unfolding decode_message decode_oneof
  name_fits scope p h = whole_path scope (name_in p) h.own

  own_fields : (full p : Bytes) → NamesFit full (decode_message p).fields → field_flags rs full p ≡ map (field_bit full) (decode_message p).fields
  unfolding field_flags decode_message
  own_fields full p h = fields_are full (parts 2 (entries p)) h

  messages_are : (k : ℕ) (scope : Bytes) (ps : List Bytes) → Fit (names.entries scope (decode_messages k ps)) → messages_flags k rs scope ps ≡ all_of entry_bits (names.entries scope (decode_messages k ps))
  unfolding messages_flags walked decode_messages names.entries all_of
  messages_are zero scope ps h = refl
  messages_are (suc k) scope [] h = refl
  messages_are (suc k) scope (p ∷ ps) h =
      let inner : Bytes = scope · text (decode_message p).name in
      let nested : List Entry = names.entries inner (decode_messages k (parts 3 (entries p))) in
      let following : List Entry = names.entries scope (decode_messages (suc k) ps) in
      let named : scope ⊙ name_in p ≡ inner = name_fits scope p h.0 in
      let own : field_flags rs inner p ≡ map (field_bit inner) (decode_message p).fields = own_fields inner p h.0.fields in
      rw (named, own, messages_are k inner (parts 3 (entries p)) (fit_left nested following h.1), messages_are (suc k) scope ps (fit_right nested following h.1), all_of_append entry_bits nested following)
      (append_assoc (map (field_bit inner) (decode_message p).fields) (all_of entry_bits nested) (all_of entry_bits following))

  -- a file's scope is cut only where it has no message
  scope_whole : (scope : Bytes) (ps : List Bytes) → Fit (names.entries scope (decode_messages 16 ps)) → messages_flags 16 rs (take max_path scope) ps ≡ messages_flags 16 rs scope ps
  unfolding messages_flags walked decode_messages names.entries
  scope_whole scope [] h = refl
  scope_whole scope (p ∷ ps) h =
      let l = length-append scope (46 ∷ text (decode_message p).name) in
      let own = h.0.own in
      ap (λ (x : Bytes). messages_flags 16 rs x (p ∷ ps)) (take_all max_path scope (omega arith))

  files_are : (ps : List Bytes) → Fit (set_entries (map decode_file ps)) → walked (file_flags rs) stay 0 ps ≡ all_of entry_bits (set_entries (map decode_file ps))
  unfolding walked file_flags set_entries decode_file all_of
  files_are [] h = refl
  files_are (p ∷ ps) h =
      let scope : Bytes = package_scope (decode_file p).package_name in
      let here : List Entry = names.entries scope (decode_messages 16 (parts 4 (entries p))) in
      let later : List Entry = set_entries (map decode_file ps) in
      rw (scope_whole scope (parts 4 (entries p)) (fit_left here later h), messages_are 16 scope (parts 4 (entries p)) (fit_left here later h), files_are ps (fit_right here later h))
      (sym (all_of_append entry_bits here later))

  pub set_flags_are : (set : Bytes) → Fit (set_entries (decode_set set)) → set_flags rs set ≡ map bit (settings_of rs (set_entries (decode_set set)))
  unfolding set_flags decode_set
  set_flags_are set h = files_are (parts 1 (entries set)) h ∙ sym (settings_bits (set_entries (decode_set set)))
