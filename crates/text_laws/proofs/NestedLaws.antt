-- Tests over the parts of nested messages and enums are those over what they hold. Assumes nothing.
use Prim.Native.Nat.{ℕ, zero, suc}
use Rattle.std.specs.Prelude.{◌≡◌, Bool, false, ◌&&◌, eqb, length}
use Rattle.std.proofs.Math.Path.{refl, sym, ap, ap₂}
use Rattle.std.proofs.Common.{◌∙◌}
use Rattle.std.proofs.Math.Bool.{◌||◌, not}
use mathlib.Core.List.{List, [], ◌∷◌, map}
use Rattle.std.proofs.Math.Dec.{eqb-suc-zero}
use Rattle.base.specs.Bytes.{same}
use Rattle.base.specs.Lists.{any, is_empty, Every, map_length, empty_map}
use Rattle.ident.specs.Ident.{to_upper_camel}
use Rattle.descriptor.specs.Descriptor.{Bytes, Forest, done, node, MessageDescriptor}
use Rattle.descriptor.specs.Decode.{entries, parts, decode_field, decode_oneof, decode_enum, decode_message, decode_messages}
use Rattle.options.specs.Settings.{Setting}
use Rattle.name_rules.specs.Accessors.{text}
use Rattle.name_rules.specs.FullNames.{◌·◌}
use Rattle.path_fits.specs.PathsFit.{EnumFits, MessageFits}
use Rattle.text_tables.specs.Rows.{message_row}
use Rattle.text_tables.specs.declared.MessageRow.{MessageRow}
use Rattle.text_tables.specs.declared.FieldRow.{FieldRow}
use Rattle.members.specs.Members.{name_in, in_oneofs, cut_camel, meets_part, conflict}
use Rattle.message_text.specs.MessageText.{is_entry, module_for}
use Rattle.code_generator.specs.Oneofs.{nested_meets, enum_meets, meets, oneof_fields}
use Rattle.code_generator.specs.Generate.{has_nested_types, has_module}
use Rattle.text_laws.specs.Described.{MessageIs, Described}
use Rattle.text_laws.proofs.MemberLaws.{in_oneofs_is, has_oneof_fields}

-- what holds of messages that stand side by side
abbrev pub Siblings : (MessageDescriptor → Type 0) → Forest MessageDescriptor → Type 0
Siblings Q done = Unit {0}
Siblings Q (node m nested following) = Q m × Siblings Q following

pub siblings_fit : (rs : List Setting) (set : List ℕ) (messages : List MessageRow) (t : List FieldRow) (scope : Bytes) (i : ℕ) (F : Forest MessageDescriptor) → Described rs set messages t scope i F → Siblings (MessageFits scope) F
siblings_fit rs set messages t scope i done h = tt
siblings_fit rs set messages t scope i (node m nested following) h =
    (h.0.0, siblings_fit rs set messages t scope (message_row messages i).after following h.1.1)

-- a test of each part, and one of what it holds: where no level is left, nothing is nested
module _ (g : Bytes → Bool) (h : MessageDescriptor → Bool) (some_of : Forest MessageDescriptor → Bool) (Q : MessageDescriptor → Type 0)
    (on_done : some_of done ≡ false) (on_node : (m : MessageDescriptor) (nested following : Forest MessageDescriptor) → some_of (node m nested following) ≡ (h m || some_of following))
    (is : (q : Bytes) → Q (decode_message q) → g q ≡ h (decode_message q)) where
  any_part : (n : ℕ) (ps : List Bytes) → Siblings Q (decode_messages (suc n) ps) → any g ps ≡ some_of (decode_messages (suc n) ps)
  unfolding any decode_messages
  any_part n [] s = sym on_done
  any_part n (p ∷ ps) s = ap₂ ◌||◌ (is p s.0) (any_part n ps s.1) ∙ sym (on_node (decode_message p) (decode_messages n (parts 3 (entries p))) (decode_messages (suc n) ps))

  any_nested : (left : ℕ) (ps : List Bytes) → Siblings Q (decode_messages left ps) → (not (eqb left 0) && any g ps) ≡ some_of (decode_messages left ps)
  unfolding decode_messages
  any_nested zero ps s = sym on_done
  any_nested (suc n) ps s = rw (eqb-suc-zero n) (any_part n ps s)

-- ---- has_type_name_conflict

-- the name is whole in its buffer
module _ (name : Bytes) (whole : cut_camel name ≡ to_upper_camel name) where
  meets_name : (q : Bytes) → cut_camel (name_in q) ≡ to_upper_camel (name_in q) → meets_part name q ≡ same (to_upper_camel (name_in q)) (to_upper_camel name)
  unfolding meets_part
  meets_name q h = ap₂ same h whole

  nested_meets_is : (scope : Bytes) (left : ℕ) (ps : List Bytes) → Siblings (MessageFits scope) (decode_messages left ps)
      → (not (eqb left 0) && any (meets_part name) ps) ≡ nested_meets (to_upper_camel name) (decode_messages left ps)
  unfolding nested_meets decode_message decode_oneof cut_camel
  nested_meets_is scope =
      any_nested (meets_part name) (λ m. same (to_upper_camel (text m.name)) (to_upper_camel name)) (nested_meets (to_upper_camel name)) (MessageFits scope) refl
      (λ m nested following. refl) (λ q h. meets_name q h.own.camel)

  enum_meets_is : (scope : Bytes) (qs : List Bytes) → Every (EnumFits scope) (map decode_enum qs) → any (meets_part name) qs ≡ enum_meets (to_upper_camel name) (map decode_enum qs)
  unfolding any enum_meets decode_enum decode_oneof cut_camel
  enum_meets_is scope [] h = refl
  enum_meets_is scope (q ∷ qs) h = ap₂ ◌||◌ (meets_name q h.0.own.camel) (enum_meets_is scope qs h.1)

  pub conflict_is : (scope : Bytes) (left : ℕ) (p : Bytes) → MessageFits scope (decode_message p) → Siblings (MessageFits (scope · text (decode_message p).name)) (decode_messages left (parts 3 (entries p)))
      → conflict (not (eqb left 0)) p name ≡ meets (decode_message p) (decode_messages left (parts 3 (entries p))) name
  unfolding conflict decode_message
  conflict_is scope left p fit s =
      ap₂ ◌||◌ (nested_meets_is (scope · text (decode_message p).name) left (parts 3 (entries p)) s) (enum_meets_is (scope · text (decode_message p).name) (parts 4 (entries p)) fit.enums)

-- ---- a message's module

module _ (rs : List Setting) (set : List ℕ) (messages : List MessageRow) (t : List FieldRow) (full : Bytes) (left i : ℕ) (p : Bytes) (s : Siblings (MessageFits full) (decode_messages left (parts 3 (entries p))))
    (has : MessageIs rs set messages t full (decode_message p) (decode_messages left (parts 3 (entries p))) i) where
  nested_types : (not (eqb left 0) && any (λ (q : Bytes). not (is_entry q)) (parts 3 (entries p))) ≡ has_nested_types (decode_messages left (parts 3 (entries p)))
  unfolding has_nested_types
  nested_types =
      any_nested (λ (q : Bytes). not (is_entry q)) (λ m. not m.map_entry) has_nested_types (MessageFits full) refl (λ m nested following. refl) (λ q h. refl)
      left (parts 3 (entries p)) s

  in_oneofs_are : in_oneofs t (length (parts 2 (entries p))) (message_row messages i).first ≡ not (is_empty (oneof_fields (decode_message p) (decode_messages left (parts 3 (entries p)))))
  unfolding decode_message
  in_oneofs_are =
      ap (λ (n : ℕ). in_oneofs t n (message_row messages i).first) (sym (map_length decode_field (parts 2 (entries p))))
      ∙ in_oneofs_is t (λ k f h. h.oneof) (message_row messages i).first (decode_message p).fields has.fields
      ∙ has_oneof_fields (decode_message p) (decode_messages left (parts 3 (entries p))) has.below

  pub module_is : module_for messages t (not (eqb left 0)) i p ≡ has_module (decode_message p) (decode_messages left (parts 3 (entries p)))
  unfolding module_for decode_message
  module_is = ap₂ ◌||◌ (ap not (sym (empty_map decode_enum (parts 4 (entries p))))) (ap₂ ◌||◌ nested_types in_oneofs_are)
