-- The texts of a message's oneofs, its enums and the struct's fields for them, are code_generator's. Assumes nothing.
use Rattle.std.specs.Prelude.{ℕ, suc, ◌≡◌, Bool, not, eqb}
use Rattle.std.proofs.Math.Path.{refl, sym, ap₂}
use Rattle.std.proofs.Common.{ap, ◌∙◌}
use Rattle.std.proofs.Math.Bool.{true, false}
use Rattle.std.proofs.Math.Option.{Option}
use mathlib.Core.List.{List, [], ◌∷◌, ◌++◌, map}
use Rattle.base.specs.Choose.{choose}
use Rattle.base.specs.Lists.{is_empty, Every}
use Rattle.writer.specs.Text.{pick}
use Rattle.descriptor.specs.Descriptor.{Bytes, Forest, FieldDescriptor, MessageDescriptor, FileDescriptor}
use Rattle.descriptor.specs.Decode.{entries, parts, decode_oneof, decode_message, decode_messages, decode_set}
use Rattle.options.specs.Settings.{Setting}
use Rattle.name_rules.specs.Accessors.{text}
use Rattle.name_rules.specs.FullNames.{◌·◌}
use Rattle.context.specs.Context.{can_field_derive_copy, can_field_derive_eq}
use Rattle.walks.specs.Walked.{walked}
use Rattle.path_fits.specs.PathsFit.{NameFits, OneofFits, MessageFits}
use Rattle.text_tables.specs.Rows.{message_row, field_row, is_in}
use Rattle.text_tables.specs.declared.MessageRow.{MessageRow}
use Rattle.text_tables.specs.declared.FieldRow.{FieldRow}
use Rattle.members.specs.Members.{name_in, field_at, members, cut_camel}
use Rattle.oneof_text.specs.OneofText.{oneof_text, oneof_part, oneof_texts}
use Rattle.oneof_fields.specs.OneofFields.{oneof_of_numbers, oneof_field_text, oneof_field_part, oneof_field_texts}
use Rattle.code_generator.specs.Piece.{flat}
use Rattle.code_generator.specs.Oneofs.{fields_at, OneofField, meets, oneofs_from, oneof_fields, oneof_tag, oneof_line, append_oneof_field, append_oneof_fields, append_oneof, append_oneofs}
use Rattle.text_laws.specs.Pairwise.{Pairwise, pairwise_empty, pairwise_map, pairwise_all}
use Rattle.text_laws.specs.Described.{MessageIs, from_with}
use Rattle.text_laws.proofs.MemberLaws.{oneof_members}
use Rattle.text_laws.proofs.NestedLaws.{Siblings, conflict_is}
use Rattle.text_laws.proofs.FieldLaws.{FieldFits, plain_rows, VariantIs, variants_are}

-- ---- texts of the oneofs that are left with fields

module _ (m : MessageDescriptor) (nested : Forest MessageDescriptor) where
  -- the oneof with the index x
  abbrev pub oneof_at : ℕ → Option Bytes → OneofField
  oneof_at x n = record { name = text n; fields = fields_at x m.fields; has_type_name_conflict = meets m nested (text n) }

  module _ (texts : List OneofField → Bytes) (one : OneofField → Bytes) (on_nil : texts [] ≡ []) (on_cons : (r : OneofField) (rest : List OneofField) → texts (r ∷ rest) ≡ one r ++ texts rest) where
    one_more : (empty : Bool) (r : OneofField) (rest : List OneofField) → pick empty [] (one r) ++ texts rest ≡ texts (choose empty rest (r ∷ rest))
    unfolding choose
    one_more true r rest = refl
    one_more false r rest = sym (on_cons r rest)

    pub walked_is : (g : ℕ → Bytes → Bytes) (Q : Option Bytes → Type 0)
        → ((x : ℕ) (q : Bytes) → Q (decode_oneof q) → g x q ≡ pick (is_empty (fields_at x m.fields)) [] (one (oneof_at x (decode_oneof q))))
        → (x : ℕ) (qs : List Bytes) → Every Q (map decode_oneof qs) → walked g (λ x q. suc x) x qs ≡ texts (oneofs_from m nested x (map decode_oneof qs))
    unfolding walked oneofs_from
    walked_is g Q is x [] h = sym on_nil
    walked_is g Q is x (q ∷ qs) h =
        ap₂ ◌++◌ (is x q h.0) (walked_is g Q is (suc x) qs h.1)
        ∙ one_more (is_empty (fields_at x m.fields)) (oneof_at x (decode_oneof q)) (oneofs_from m nested (suc x) (map decode_oneof qs))

-- the bytes are the same for any full name
any_oneof_tag : (full message : Bytes) (x : OneofField) → flat (oneof_tag [] message x) ≡ flat (oneof_tag full message x)
unfolding oneof_tag
any_oneof_tag full message x = refl

any_oneof_line : (d : ℕ) (full message : Bytes) (x : OneofField) → flat (oneof_line d [] message x) ≡ flat (oneof_line d full message x)
unfolding oneof_line
any_oneof_line d full message x = refl

module _ (rs : List Setting) (set : List ℕ) (messages : List MessageRow) (t : List FieldRow) (full : Bytes) where
  abbrev ds : List FileDescriptor
  ds = decode_set set

  -- one oneof, by the numbers of its fields
  module _ (nested : Forest MessageDescriptor) (x : OneofField) (fit : NameFits full x.name) {ks : List ℕ} (hs : Pairwise (VariantIs rs set messages t full nested x.name) ks x.fields) where
    oneof_is : (d : ℕ) → flat (oneof_text rs set messages t d full x.name x.has_type_name_conflict ks) ≡ flat (append_oneof rs ds d full x)
    unfolding oneof_text append_oneof
    oneof_is d =
        rw (
          fit.whole,
          pairwise_all (λ (k : ℕ). (field_row t k).copy) (can_field_derive_copy rs ds full) (λ k f h. h.plain.row.copy) hs,
          pairwise_all (λ (k : ℕ). (field_row t k).eq) (can_field_derive_eq ds full) (λ k f h. h.plain.row.eq) hs,
          variants_are rs set messages t full nested (suc d) x hs,
        )

    by_numbers : oneof_of_numbers rs set messages t x.name x.has_type_name_conflict ks ≡ x
    by_numbers =
        ap (λ (fs : List FieldDescriptor). record { name = x.name; fields = fs; has_type_name_conflict = x.has_type_name_conflict })
        (pairwise_map (field_at set t) (λ k f h. h.plain.row.there) hs)

    oneof_field_is : (d : ℕ) (message : Bytes) → flat (oneof_field_text rs set messages t d full message x.name x.has_type_name_conflict ks) ≡ flat (append_oneof_field rs d full message x)
    unfolding oneof_field_text append_oneof_field
    oneof_field_is d message = rw (by_numbers, fit.room, any_oneof_tag full message, any_oneof_line d full message)

-- ---- the oneofs of message i, whose part p is, with so many levels below it

module _ (rs : List Setting) (set : List ℕ) (messages : List MessageRow) (t : List FieldRow) (scope : Bytes) (d left i : ℕ) (p : Bytes) (fit : MessageFits scope (decode_message p))
    (s : Siblings (MessageFits (scope · text (decode_message p).name)) (decode_messages left (parts 3 (entries p))))
    (has : MessageIs rs set messages t (scope · text (decode_message p).name) (decode_message p) (decode_messages left (parts 3 (entries p))) i) where
  abbrev full : Bytes
  full = scope · text (decode_message p).name

  abbrev m : MessageDescriptor
  m = decode_message p

  abbrev nested : Forest MessageDescriptor
  nested = decode_messages left (parts 3 (entries p))

  abbrev Fits : Option Bytes → Type 0
  Fits = OneofFits full m

  variants_of : (x : ℕ) (n : Option Bytes) → Fits n → Pairwise (VariantIs rs set messages t full nested (text n)) (members (is_in x) messages t i p) (fields_at x m.fields)
  variants_of x n h =
      let k = (message_row messages i).first in
      let rows = plain_rows rs set messages t full nested k m.fields has.fields fit.fields in
      oneof_members t (λ k f v. v.plain.row.oneof) messages i p (from_with (FieldFits (full · text n)) (λ k f v q. record { plain = v; fits = q }) k m.fields rows h.fields) x

  abbrev deeper : Bool
  deeper = not (eqb left 0)

  part_is : (x : ℕ) (q : Bytes) → Fits (decode_oneof q) → oneof_part rs set messages t d full deeper i p x q ≡ pick (is_empty (fields_at x m.fields)) [] (flat (append_oneof rs (decode_set set) d full (oneof_at m nested x (decode_oneof q))))
  unfolding oneof_part cut_camel
  part_is x q h =
      let hs = variants_of x (decode_oneof q) h in
      rw (conflict_is (name_in q) h.own.camel scope left p fit s, oneof_is rs set messages t full nested (oneof_at m nested x (decode_oneof q)) h.own hs d, pairwise_empty hs)

  field_part_is : (x : ℕ) (q : Bytes) → Fits (decode_oneof q) → oneof_field_part rs set messages t d full deeper i p x q ≡ pick (is_empty (fields_at x m.fields)) [] (flat (append_oneof_field rs d full (text m.name) (oneof_at m nested x (decode_oneof q))))
  unfolding oneof_field_part decode_message decode_oneof cut_camel
  field_part_is x q h =
      let hs = variants_of x (decode_oneof q) h in
      rw (conflict_is (name_in q) h.own.camel scope left p fit s, oneof_field_is rs set messages t full nested (oneof_at m nested x (decode_oneof q)) h.own hs d (name_in p), pairwise_empty hs)

  pub oneof_texts_are : oneof_texts rs set messages t d full deeper i p ≡ flat (append_oneofs rs (decode_set set) d full (oneof_fields m nested))
  unfolding oneof_texts append_oneofs decode_message
  oneof_texts_are =
      walked_is m nested (λ l. flat (append_oneofs rs (decode_set set) d full l)) (λ r. flat (append_oneof rs (decode_set set) d full r)) refl (λ r rest. refl)
      (oneof_part rs set messages t d full deeper i p) Fits part_is 0 (parts 8 (entries p)) fit.oneofs

  pub oneof_field_texts_are : oneof_field_texts rs set messages t d full deeper i p ≡ flat (append_oneof_fields rs d full (text m.name) (oneof_fields m nested))
  unfolding oneof_field_texts append_oneof_fields decode_message
  oneof_field_texts_are =
      walked_is m nested (λ l. flat (append_oneof_fields rs d full (text m.name) l)) (λ r. flat (append_oneof_field rs d full (text m.name) r)) refl (λ r rest. refl)
      (oneof_field_part rs set messages t d full deeper i p) Fits field_part_is 0 (parts 8 (entries p)) fit.oneofs
