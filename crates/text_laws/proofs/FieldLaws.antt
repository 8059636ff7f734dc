-- A field's text by its row is its text by its descriptor: of a variant, a struct's field and a map field. Assumes nothing.
use Rattle.std.specs.Prelude.{ℕ, ◌≤◌, ◌≡◌, Bool, ◌&&◌, length}
use Rattle.std.proofs.Math.Path.{refl, ap₂}
use Rattle.std.proofs.Common.{sym, arith}
use Rattle.std.proofs.Math.Option.{Option, some, none}
use mathlib.Core.List.{List, [], ◌∷◌, ◌++◌}
use Rattle.base.specs.Bytes.{same}
use Rattle.base.specs.Choose.{choose_case}
use Rattle.base.specs.Lists.{Every}
use Rattle.descriptor.specs.Descriptor.{Bytes, Forest, done, node, FieldDescriptor, MessageDescriptor, FileDescriptor}
use Rattle.descriptor.specs.Decode.{decode_set}
use Rattle.options.specs.Settings.{Setting}
use Rattle.name_rules.specs.Accessors.{text}
use Rattle.name_rules.specs.FullNames.{◌·◌}
use Rattle.context.specs.Context.{should_box}
use Rattle.text_tables.specs.declared.MessageRow.{MessageRow}
use Rattle.text_tables.specs.declared.FieldRow.{FieldRow}
use Rattle.path_fits.specs.PathsFit.{max_scope, NameFits, MessageFits}
use Rattle.path_fits.proofs.FitLaws.{name_fits}
use Rattle.members.specs.Members.{boxed_at}
use Rattle.variants.specs.Variants.{variant_text, variant_texts}
use Rattle.struct_fields.specs.StructFields.{attributes_at, plain_text, map_text, field_or_map, field_text, field_texts}
use Rattle.map_fields.proofs.FullNames.{any_field_line, any_map_line}
use Rattle.code_generator.specs.Piece.{flat}
use Rattle.code_generator.specs.Fields.{append_field}
use Rattle.code_generator.specs.MapFields.{MapEntry, entry_of, map_entry_of, append_map_field}
use Rattle.code_generator.specs.Oneofs.{OneofField, variant_line, append_variant, append_variants}
use Rattle.code_generator.specs.Generate.{append_fields}
use Rattle.code_generator.specs.Generate as generate
use Rattle.text_laws.specs.Pairwise.{Pairwise}
use Rattle.text_laws.specs.Pairwise.Pairwise.{nil, cons}
use Rattle.text_laws.specs.Described.{From, FieldIs, from_with}
use Rattle.text_laws.proofs.NestedLaws.{Siblings}

-- the bytes of a variant's line are the same for any full name
any_variant_line : (rs : List Setting) (d : ℕ) (scope full : Bytes) (f : FieldDescriptor) (boxed as_bytes : Bool) → flat (variant_line rs d scope [] f boxed as_bytes) ≡ flat (variant_line rs d scope full f boxed as_bytes)
unfolding variant_line
any_variant_line rs d scope full f boxed as_bytes = refl

-- the path of a field in a scope, which is a message's full name or a oneof's
abbrev pub FieldFits : Bytes → FieldDescriptor → Type 0
FieldFits scope f = NameFits scope (text f.name)

-- ---- the fields of a nested map entry have paths in its message too

abbrev EntryFits : Bytes → Option MapEntry → Type 0
EntryFits full none = Unit {0}
EntryFits full (some e) = FieldFits full e.key × FieldFits full e.value

module _ (full : Bytes) (room : length full ≤ max_scope) where
  fits_above : (scope : Bytes) (f : FieldDescriptor) → FieldFits scope f → FieldFits full f
  fits_above scope f h = name_fits full (text f.name) (omega arith) h.short

  entry_of_fits : (scope : Bytes) (fs : List FieldDescriptor) → Every (FieldFits scope) fs → EntryFits full (entry_of fs)
  entry_of_fits scope [] h = tt
  entry_of_fits scope (k ∷ []) h = tt
  entry_of_fits scope (k ∷ (v ∷ fs)) h = (fits_above scope k h.0, fits_above scope v h.1.0)

  map_entry_fits : (nested : Forest MessageDescriptor) (x : Option Bytes) → Siblings (MessageFits full) nested → EntryFits full (map_entry_of full nested x)
  unfolding map_entry_of
  map_entry_fits done x s = tt
  map_entry_fits (node m nested following) x s =
      choose_case (EntryFits full) (m.map_entry && same (full · text m.name) (text x)) (λ _. entry_of_fits (full · text m.name) m.fields s.0.fields) (λ _. map_entry_fits following x s.1)

module _ (rs : List Setting) (set : List ℕ) (messages : List MessageRow) (t : List FieldRow) (full : Bytes) (nested : Forest MessageDescriptor) where
  abbrev ds : List FileDescriptor
  ds = decode_set set

  boxed_is : (at : Bytes) {k : ℕ} {f : FieldDescriptor} → FieldIs rs set messages t full nested k f → FieldFits at f → boxed_at rs set t k at ≡ should_box rs ds full at f
  unfolding boxed_at
  boxed_is at h fit = rw (h.there, fit.whole) (sym (h.boxed at))

  -- a field's row, and its path
  pub record PlainIs (k : ℕ) (f : FieldDescriptor) : Type 0 where
    pub row : FieldIs rs set messages t full nested k f
    pub fits : FieldFits full f

  pub plain_rows : (k : ℕ) (fs : List FieldDescriptor) → From (FieldIs rs set messages t full nested) k fs → Every (FieldFits full) fs → From PlainIs k fs
  plain_rows = from_with (FieldFits full) (λ k f h q. record { row = h; fits = q })

  -- ---- variants

  -- a field of the oneof with this name
  pub record VariantIs (name : Bytes) (k : ℕ) (f : FieldDescriptor) : Type 0 where
    pub plain : PlainIs k f
    pub fits : FieldFits (full · name) f

  variant_is : (d : ℕ) (x : OneofField) {k : ℕ} {f : FieldDescriptor} → VariantIs x.name k f
      → flat (variant_text rs set t d full (full · x.name) k) ≡ flat (append_variant rs ds d full x f)
  unfolding variant_text append_variant
  variant_is d x h =
      rw (h.plain.row.there, boxed_is (full · x.name) h.plain.row h.fits, h.fits.room, h.plain.fits.whole, any_variant_line rs d full full)

  pub variants_are : (d : ℕ) (x : OneofField) {ks : List ℕ} {fs : List FieldDescriptor} → Pairwise (VariantIs x.name) ks fs
      → flat (variant_texts rs set t d full (full · x.name) ks) ≡ flat (append_variants rs ds d full x fs)
  unfolding variant_texts append_variants
  variants_are d x nil = refl
  variants_are d x (cons h hs) = ap₂ ◌++◌ (variant_is d x h) (variants_are d x hs)

  -- ---- fields of a struct

  plain_is : (proto3 : Bool) (d : ℕ) (scope : Bytes) {k : ℕ} {f : FieldDescriptor} → PlainIs k f
      → flat (plain_text rs set t proto3 d scope full k) ≡ flat (append_field rs ds proto3 d scope full f)
  unfolding plain_text attributes_at append_field
  plain_is proto3 d scope h =
      rw (h.row.there, boxed_is full h.row h.fits, h.fits.room, h.fits.whole, any_field_line rs d scope full)

  map_is : (proto3 : Bool) (d : ℕ) (scope : Bytes) (e : MapEntry) → FieldFits full e.key → FieldFits full e.value → {k : ℕ} {f : FieldDescriptor} → PlainIs k f
      → flat (map_text rs set t proto3 d scope full k e) ≡ flat (append_map_field rs d scope full f e)
  unfolding map_text attributes_at append_map_field
  map_is proto3 d scope e key value h =
      rw (h.row.there, h.fits.room, h.fits.whole, key.whole, value.whole, any_map_line rs d scope full)

  field_or_map_is : (proto3 : Bool) (d : ℕ) (scope : Bytes) (o : Option MapEntry) → EntryFits full o → {k : ℕ} {f : FieldDescriptor} → PlainIs k f
      → flat (field_or_map rs set t proto3 d scope full k o) ≡ flat (generate.field_or_map rs ds proto3 d scope full f o)
  field_or_map_is proto3 d scope none fit h = plain_is proto3 d scope h
  field_or_map_is proto3 d scope (some e) fit h = map_is proto3 d scope e fit.0 fit.1 h

  module _ (proto3 : Bool) (d : ℕ) (scope : Bytes) (room : length full ≤ max_scope) (s : Siblings (MessageFits full) nested) where
    field_is : {k : ℕ} {f : FieldDescriptor} → PlainIs k f → flat (field_text rs set t proto3 d scope full k) ≡ flat (generate.field_or_map rs ds proto3 d scope full f (map_entry_of full nested f.type_name))
    unfolding field_text
    field_is {f = f} h = rw h.row.map_entry (field_or_map_is proto3 d scope (map_entry_of full nested f.type_name) (map_entry_fits full room nested f.type_name s) h)

    pub fields_are : {ks : List ℕ} {fs : List FieldDescriptor} → Pairwise PlainIs ks fs → flat (field_texts rs set t proto3 d scope full ks) ≡ flat (append_fields rs ds proto3 d scope full nested fs)
    unfolding field_texts append_fields
    fields_are nil = refl
    fields_are (cons h hs) = ap₂ ◌++◌ (field_is h) (fields_are hs)
