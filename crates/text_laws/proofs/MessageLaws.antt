-- The text of messages by the tables is code_generator's. Assumes nothing.
use Prim.Native.Nat.{ℕ, zero, suc}
use Rattle.std.specs.Prelude.{◌≡◌, Bool, true, false, ◌||◌, not, eqb}
use Rattle.std.proofs.Math.Path.{refl, ap₂}
use mathlib.Core.List.{List, [], ◌∷◌, ◌++◌}
use Rattle.base.specs.Lists.{Every}
use Rattle.writer.specs.Text.{pick}
use Rattle.descriptor.specs.Descriptor.{Bytes, Forest, MessageDescriptor, FileDescriptor}
use Rattle.descriptor.specs.Decode.{entries, parts, decode_oneof, decode_message, decode_messages, decode_set}
use Rattle.options.specs.Settings.{Setting}
use Rattle.extern_paths.specs.ExternPaths.{taken}
use Rattle.name_rules.specs.Accessors.{text}
use Rattle.name_rules.specs.FullNames.{◌·◌}
use Rattle.walks.specs.Walked.{walked}
use Rattle.path_fits.specs.PathsFit.{MessageFits}
use Rattle.text_tables.specs.Rows.{message_row, is_plain}
use Rattle.text_tables.specs.declared.MessageRow.{MessageRow}
use Rattle.text_tables.specs.declared.FieldRow.{FieldRow}
use Rattle.members.specs.Members.{members}
use Rattle.struct_text.specs.StructText.{struct_head, struct_text}
use Rattle.message_text.specs.MessageText.{Inner, module_text, message_text, message_texts}
use Rattle.code_generator.specs.Piece.{flat}
use Rattle.code_generator.specs.Attributes.{end}
use Rattle.code_generator.specs.Oneofs.{plain_fields, oneof_fields, append_oneofs}
use Rattle.code_generator.specs.Enums.{append_enums}
use Rattle.code_generator.specs.Generate.{has_module, push_mod, append_struct, append_messages}
use Rattle.text_laws.specs.Pairwise.{Pairwise}
use Rattle.text_laws.specs.Described.{MessageIs, Described}
use Rattle.text_laws.specs.EnumLaws.{enums_are}
use Rattle.text_laws.proofs.MemberLaws.{plain_members}
use Rattle.text_laws.proofs.NestedLaws.{Siblings, siblings_fit, module_is}
use Rattle.text_laws.proofs.FieldLaws.{FieldFits, PlainIs, plain_rows, fields_are}
use Rattle.text_laws.proofs.OneofLaws.{oneof_texts_are, oneof_field_texts_are}

pick_not : (test : Bool) (x : Bytes) → pick test [] x ≡ pick (not test) x []
pick_not true x = refl
pick_not false x = refl

module _ (rs : List Setting) (set : List ℕ) (messages : List MessageRow) (t : List FieldRow) where
  abbrev ds : List FileDescriptor
  ds = decode_set set

  -- the fields in no oneof of message i, whose part p is
  pub plain_of : (full : Bytes) (nested : Forest MessageDescriptor) (i : ℕ) (p : Bytes) → Every (FieldFits full) (decode_message p).fields → MessageIs rs set messages t full (decode_message p) nested i
      → Pairwise (PlainIs rs set messages t full nested) (members is_plain messages t i p) (plain_fields (decode_message p).fields)
  plain_of full nested i p fit has =
      plain_members t (λ k f v. v.row.oneof) messages i p (plain_rows rs set messages t full nested (message_row messages i).first (decode_message p).fields has.fields fit)

  -- message i, whose part p is, with so many levels below it
  module _ (proto3 : Bool) (scope : Bytes) (left i : ℕ) (p : Bytes) (fit : MessageFits scope (decode_message p))
      (s : Siblings (MessageFits (scope · text (decode_message p).name)) (decode_messages left (parts 3 (entries p))))
      (has : MessageIs rs set messages t (scope · text (decode_message p).name) (decode_message p) (decode_messages left (parts 3 (entries p))) i) where
    abbrev full : Bytes
    full = scope · text (decode_message p).name

    abbrev m : MessageDescriptor
    m = decode_message p

    abbrev nested : Forest MessageDescriptor
    nested = decode_messages left (parts 3 (entries p))

    abbrev deeper : Bool
    deeper = not (eqb left 0)

    struct_is : (d : ℕ) → struct_text rs set messages t proto3 d scope full deeper i p ≡ flat (append_struct rs ds proto3 d scope full m nested)
    unfolding struct_text struct_head append_struct decode_message decode_oneof
    struct_is d =
        rw (has.copy, has.eq, fields_are rs set messages t full nested proto3 (suc d) scope fit.full s (plain_of full nested i p fit.fields has), oneof_field_texts_are rs set messages t scope (suc d) left i p fit s has)

    module _ (inner : Inner rs set messages t proto3) (d : ℕ) (inside : inner (suc d) full (suc i) (parts 3 (entries p)) ≡ flat (append_messages rs ds proto3 (suc d) full nested)) where
      module_text_is : module_text rs set messages t proto3 inner d full deeper i p
          ≡ flat (push_mod d (text m.name)) ++ flat (append_messages rs ds proto3 (suc d) full nested) ++ flat (append_enums rs (suc d) full m.enums) ++ flat (append_oneofs rs ds (suc d) full (oneof_fields m nested)) ++ flat (end d)
      unfolding module_text decode_message decode_oneof
      module_text_is = rw (inside, enums_are rs full (suc d) m.enums fit.enums, oneof_texts_are rs set messages t scope (suc d) left i p fit s has)

  -- what is written for a message, its full name being given, where it is not left out
  abbrev written : Bool → ℕ → Bytes → Bytes → MessageDescriptor → Forest MessageDescriptor → Bytes
  written proto3 d scope full m nested =
      flat (append_struct rs ds proto3 d scope full m nested)
      ++ pick (has_module m nested)
      (flat (push_mod d (text m.name))
      ++ flat (append_messages rs ds proto3 (suc d) full nested)
      ++ flat (append_enums rs (suc d) full m.enums)
      ++ flat (append_oneofs rs ds (suc d) full (oneof_fields m nested))
      ++ flat (end d))
      []

  message_is : (proto3 : Bool) (scope : Bytes) (left i : ℕ) (p : Bytes) → MessageFits scope (decode_message p)
      → Siblings (MessageFits (scope · text (decode_message p).name)) (decode_messages left (parts 3 (entries p)))
      → MessageIs rs set messages t (scope · text (decode_message p).name) (decode_message p) (decode_messages left (parts 3 (entries p))) i
      → (inner : Inner rs set messages t proto3) (d : ℕ)
      → inner (suc d) (scope · text (decode_message p).name) (suc i) (parts 3 (entries p)) ≡ flat (append_messages rs ds proto3 (suc d) (scope · text (decode_message p).name) (decode_messages left (parts 3 (entries p))))
      → message_text rs set messages t proto3 inner d scope (not (eqb left 0)) i p ≡ pick (not ((decode_message p).map_entry || taken rs (scope · text (decode_message p).name))) (written proto3 d scope (scope · text (decode_message p).name) (decode_message p) (decode_messages left (parts 3 (entries p)))) []
  unfolding message_text decode_message decode_oneof
  message_is proto3 scope left i p fit s has inner d inside =
      let full = scope · text (decode_message p).name in
      rw (fit.own.whole, struct_is proto3 scope left i p fit s has d, module_is rs set messages t full left i p s has, module_text_is proto3 scope left i p fit s has inner d inside)
      (pick_not ((decode_message p).map_entry || taken rs full) (written proto3 d scope full (decode_message p) (decode_messages left (parts 3 (entries p)))))

  pub message_texts_are : (proto3 : Bool) (left d : ℕ) (scope : Bytes) (i : ℕ) (ps : List Bytes) → Described rs set messages t scope i (decode_messages left ps)
      → message_texts rs set messages t proto3 left d scope i ps ≡ flat (append_messages rs ds proto3 d scope (decode_messages left ps))
  unfolding message_texts walked append_messages decode_messages
  message_texts_are proto3 zero d scope i ps h = refl
  message_texts_are proto3 (suc left) d scope i [] h = refl
  message_texts_are proto3 (suc left) d scope i (p ∷ ps) h =
      let full = scope · text (decode_message p).name in
      let nested = decode_messages left (parts 3 (entries p)) in
      ap₂ ◌++◌
      (message_is proto3 scope left i p h.0.0 (siblings_fit rs set messages t full (suc i) nested h.1.0) h.0.1 (message_texts rs set messages t proto3 left) d
      (message_texts_are proto3 left (suc d) full (suc i) (parts 3 (entries p)) h.1.0))
      (message_texts_are proto3 (suc left) d scope (message_row messages i).after ps h.1.1)
