-- What the reader sees in a message: its struct, and its module with all inside it. Assumes nothing.
use Rattle.std.specs.Prelude.{◌≡◌, ℕ, suc, Bool, true, false, not, ◌&&◌, ◌||◌, ◌⊎◌, List, [], ◌∷◌, ◌==◌, nat_eq}
use Rattle.std.proofs.Math.Path.{refl}
use Rattle.std.proofs.Common.{sym, subst, inl, inr, eqb-true}
use Rattle.std.proofs.Math.Option.{Option, some, none}
use Rattle.base.specs.Bytes.{b, same}
use Rattle.base.specs.Choose.{choose, choose_case}
use Rattle.base.specs.Lists.{is_empty, Every}
use Rattle.base.specs.Tests.{both_ways, and_left, or_cases}
use Rattle.heck.specs.Case.{between}
use Rattle.ident.specs.Name.{name_start, name_part}
use Rattle.ident.specs.Ident.{to_snake, to_upper_camel}
use Rattle.field_types.specs.Types.{sort_of, integer, boolean, enumerated}
use Rattle.field_types.specs.Types as types
use Rattle.descriptor.specs.Descriptor.{Bytes, Forest, done, node, FieldDescriptor, MessageDescriptor, FileDescriptor}
use Rattle.options.specs.Settings.{Setting}
use Rattle.extern_paths.specs.ExternPaths.{taken}
use Rattle.name_rules.specs.Accessors.{text, or_else}
use Rattle.name_rules.specs.Accessors as accessors
use Rattle.name_rules.specs.FullNames.{◌·◌}
use Rattle.name_rules.specs.Rules.{key_type}
use Rattle.name_rules.specs.WellFormed.{Named, GoodMessage, GoodEntry, EveryNode}
use Rattle.context.specs.Context.{type_attributes, message_attributes, enum_attributes, should_skip_debug, can_message_derive_copy, can_message_derive_eq}
use Rattle.code_generator.specs.Piece.{piece, ◌⟫◌, raw, opaque, mod_open, decl_open, snake, camel, type, choice, lit}
use Rattle.code_generator.specs.Attributes.{append_type_attributes, append_message_attributes, append_enum_attributes, append_skip_debug, derive}
use Rattle.code_generator.specs.MapFields.{MapEntry, entry_of, map_entry_of}
use Rattle.code_generator.specs.Oneofs.{OneofField, oneof_of, is_plain, is_at, plain_fields, fields_at, oneofs_from, oneof_fields, type_name, can_oneof_derive_copy, can_oneof_derive_eq, append_oneof, append_oneofs}
use Rattle.code_generator.specs.Generate.{has_module, push_mod, field_or_map, append_fields, append_struct, append_messages}
use Rattle.sights.specs.Events.{open_module, open_declaration}
use Rattle.text_reader.specs.Tokens.{code, code_word, comment}
use Rattle.text_reader.specs.Reader.{Body, module_body, struct_body, start, naming, attribute, other_key}
use Rattle.reading.specs.Reading.{Point, point, Reads, ◌▸◌, still, reads_when, regrouped}
use Rattle.reading.specs.Words.{name_parts, in_code, word_read, indent_read}
use Rattle.reading.specs.Strings.{comment_read}
use Rattle.field_reading.specs.Readable.{Converts, ReadableField, snake_word, camel_word, oneof_word}
use Rattle.field_reading.specs.TypeReading.{prost_then}
use Rattle.field_reading.proofs.FieldReading.{between_two, attributes_read, field_read, map_read, variants_read, ReadableOneof, oneof_fields_read}
use Rattle.see_file.specs.EnumReading.{named_text, end_read, Items, outermost, inner, enum_opened, path_attribute_read, enums_read}

-- ---- what the names of a message have to be
pub record ReadableMessage (m : MessageDescriptor) : Type 0 where
  pub message : GoodMessage m
  pub fields : Every ReadableField m.fields
  pub entry : m.map_entry ≡ true → GoodEntry m

-- ---- map entries
record ReadableEntry (e : MapEntry) : Type 0 where
  key : ReadableField e.key
  value : ReadableField e.value
  scalar : nat_eq (sort_of (accessors.type e.key)) enumerated ≡ false

abbrev IfGiven : Option MapEntry → Type 0
IfGiven none = Unit
IfGiven (some e) = ReadableEntry e

no_enum : (o : Option ℕ) → key_type o ≡ true → (sort_of (or_else 1 o) == enumerated) ≡ false
unfolding key_type
no_enum none h = both_ways h refl
no_enum (some t) h = on (or_cases (sort_of t == integer) (sort_of t == boolean || sort_of t == types.text) h)
  where
    is : (n : ℕ) → (n == enumerated) ≡ false → (sort_of t == n) ≡ true → (sort_of t == enumerated) ≡ false
    is n f e = subst (λ (z : ℕ). (z == enumerated) ≡ false) (sym (eqb-true (sort_of t) n e)) f

    two : ((sort_of t == boolean) ≡ true) ⊎ ((sort_of t == types.text) ≡ true) → (sort_of t == enumerated) ≡ false
    two (inl e) = is boolean refl e
    two (inr e) = is types.text refl e

    on : ((sort_of t == integer) ≡ true) ⊎ ((sort_of t == boolean || sort_of t == types.text) ≡ true) → (sort_of t == enumerated) ≡ false
    on (inl e) = is integer refl e
    on (inr e) = two (or_cases (sort_of t == boolean) (sort_of t == types.text) e)

entry_given : (fs : List FieldDescriptor) → Every ReadableField fs → (k v : FieldDescriptor) → fs ≡ k ∷ (v ∷ []) → key_type k.type ≡ true → IfGiven (entry_of fs)
entry_given fs h k v e t =
    let g : Every ReadableField (k ∷ (v ∷ [])) = rw e at h in
    rw e (record { key = g.0; value = g.1.0; scalar = no_enum k.type t })

entry_readable : (full : Bytes) (F : Forest MessageDescriptor) (x : Option Bytes) → EveryNode (λ m nested. ReadableMessage m) F → IfGiven (map_entry_of full F x)
unfolding map_entry_of
entry_readable full done x h = tt
entry_readable full (node m nested following) x h =
    choose_case IfGiven (m.map_entry && same (full · text m.name) (text x))
    (λ e. let g = h.0.entry (and_left m.map_entry (same (full · text m.name) (text x)) e) in
    entry_given m.fields h.0.fields g.key g.value g.two_fields g.key_typed)
    (λ _. entry_readable full following x h.1.1)

-- ---- the fields in no oneof, and the oneofs
plain_readable : (fs : List FieldDescriptor) → Every ReadableField fs → Every ReadableField (plain_fields fs)
unfolding plain_fields
plain_readable [] h = tt
plain_readable (f ∷ fs) h =
    choose_case (Every ReadableField) (is_plain (oneof_of f)) (λ _. (h.0, plain_readable fs h.1)) (λ _. plain_readable fs h.1)

members_readable : (i : ℕ) (fs : List FieldDescriptor) → Every ReadableField fs → Every ReadableField (fields_at i fs)
unfolding fields_at
members_readable i [] h = tt
members_readable i (f ∷ fs) h =
    choose_case (Every ReadableField) (is_at i (oneof_of f)) (λ _. (h.0, members_readable i fs h.1)) (λ _. members_readable i fs h.1)

oneofs_readable : (m : MessageDescriptor) (nested : Forest MessageDescriptor) → Every ReadableField m.fields → (i : ℕ) (ns : List (Option Bytes)) → Every Named ns → Every ReadableOneof (oneofs_from m nested i ns)
unfolding oneofs_from
oneofs_readable m nested h i [] g = tt
oneofs_readable m nested h i (n ∷ ns) g =
    choose_case (Every ReadableOneof) (is_empty (fields_at i m.fields)) (λ _. oneofs_readable m nested h (suc i) ns g.1)
    (λ _. (record { named = (named_text n g.0).letter_or_digit; fields = members_readable i m.fields h }, oneofs_readable m nested h (suc i) ns g.1))

-- ---- attributes
module _ (rs : List Setting) {bs : List Body} (d : ℕ) where
  derive_read : (copy eq : Bool) (what : Bytes) → ((v : Bytes) → Reads (point bs (attribute 1 other_key) code) (piece (opaque v) ⟫ piece (raw what)) (between_two bs))
      → Reads (point bs (attribute 1 other_key) code) (lit "::prost" ⟫ piece (raw what)) (between_two bs) → Reads (between_two bs) (derive rs d copy eq what) (between_two bs)
  unfolding derive choose same name_part name_start between
  derive_read copy eq what f g = regrouped (indent_read d ▸ opens ▸ reads_when copy copies ▸ partial ▸ reads_when eq equals ▸ prost_then rs f g)
    where
      in_derive : Point
      in_derive = point bs (attribute 1 other_key) code

      opens : Reads (between_two bs) (lit "#[derive(Clone, ") in_derive
      opens = record { seen = []; onward = λ s. refl; complete = refl }

      copies : Reads in_derive (lit "Copy, ") in_derive
      copies = record { seen = []; onward = λ s. refl; complete = refl }

      partial : Reads in_derive (lit "PartialEq, ") in_derive
      partial = record { seen = []; onward = λ s. refl; complete = refl }

      equals : Reads in_derive (lit "Eq, Hash, ") in_derive
      equals = record { seen = []; onward = λ s. refl; complete = refl }

  skip_debug_read : (full : Bytes) → Reads (between_two bs) (append_skip_debug rs d full) (between_two bs)
  unfolding append_skip_debug choose same name_part name_start between
  skip_debug_read full = reads_when (should_skip_debug rs full) (indent_read d ▸ here)
    where
      here : Reads (between_two bs) (lit "#[prost(skip_debug)]\n") (between_two bs)
      here = record { seen = []; onward = λ s. refl; complete = refl }

-- ---- a oneof's enum
module _ (rs : List Setting) (set : List FileDescriptor) {bs : List Body} (i : Items bs) (d : ℕ) (full : Bytes) where
  oneof_read : (x : OneofField) → ReadableOneof x → Reads (between_two bs) (append_oneof rs set d full x) (between_two bs)
  unfolding append_oneof append_type_attributes append_enum_attributes choose same name_part name_start between
  oneof_read x h =
      enum_opened
      (attributes_read d (type_attributes rs (full · x.name))
      ▸ attributes_read d (enum_attributes rs (full · x.name))
      ▸ derive_read rs d (can_oneof_derive_copy rs set full x) (can_oneof_derive_eq rs set full x) (b "::Oneof)]\n")
      (λ v. record { seen = []; onward = λ s. refl; complete = refl }) (record { seen = []; onward = λ s. refl; complete = refl })
      ▸ path_attribute_read rs
      ▸ skip_debug_read rs d full)
      i d (choice full x.name) (type_name x) (oneof_word x.has_type_name_conflict x.name h.named)
      ▸ variants_read rs set (suc d) full x x.fields h.fields
      ▸ end_read d

  oneofs_read : (xs : List OneofField) → Every ReadableOneof xs → Reads (between_two bs) (append_oneofs rs set d full xs) (between_two bs)
  unfolding append_oneofs
  oneofs_read [] h = still
  oneofs_read (x ∷ xs) h = oneof_read x h.0 ▸ oneofs_read xs h.1

-- ---- a struct
struct_keyword : {bs : List Body} → Items bs → Reads (between_two bs) (lit "pub struct ") (point bs (naming struct_body) code)
unfolding choose same name_part name_start between
struct_keyword outermost = record { seen = []; onward = λ s. refl; complete = refl }
struct_keyword inner = record { seen = []; onward = λ s. refl; complete = refl }

module _ (rs : List Setting) (set : List FileDescriptor) (proto3 : Bool) where
  fields_read : {bs : List Body} (d : ℕ) (scope full : Bytes) (nested : Forest MessageDescriptor) → EveryNode (λ m nested. ReadableMessage m) nested
      → (fs : List FieldDescriptor) → Every ReadableField fs → Reads (between_two (struct_body ∷ bs)) (append_fields rs set proto3 d scope full nested fs) (between_two (struct_body ∷ bs))
  unfolding append_fields
  fields_read d scope full nested n [] h = still
  fields_read {bs} d scope full nested n (f ∷ fs) h = on (map_entry_of full nested f.type_name) (entry_readable full nested f.type_name n) ▸ fields_read d scope full nested n fs h.1
    where
      on : (o : Option MapEntry) → IfGiven o → Reads (between_two (struct_body ∷ bs)) (field_or_map rs set proto3 d scope full f o) (between_two (struct_body ∷ bs))
      on none g = field_read rs d scope full f h.0 set proto3
      on (some e) g = map_read rs d scope full f e h.0.named g.key g.value g.scalar

  struct_read : {bs : List Body} → Items bs → (d : ℕ) (scope full : Bytes) (m : MessageDescriptor) (nested : Forest MessageDescriptor)
      → ReadableMessage m → EveryNode (λ m nested. ReadableMessage m) nested → Reads (between_two bs) (append_struct rs set proto3 d scope full m nested) (between_two bs)
  unfolding append_struct append_type_attributes append_message_attributes choose same name_part name_start between
  struct_read {bs} i d scope full m nested h n =
      attributes_read d (type_attributes rs full)
      ▸ attributes_read d (message_attributes rs full)
      ▸ derive_read rs d (can_message_derive_copy rs set full) (can_message_derive_eq set full) (b "::Message)]\n")
      (λ v. record { seen = []; onward = λ s. refl; complete = refl }) (record { seen = []; onward = λ s. refl; complete = refl })
      ▸ path_attribute_read rs
      ▸ skip_debug_read rs d full
      ▸ (indent_read d ▸ struct_keyword i)
      ▸ word_read in_code (decl_open (type full) (camel (text m.name))) (to_upper_camel (text m.name)) refl (camel_word (text m.name) c)
      ▸ brace
      ▸ fields_read (suc d) scope full nested n (plain_fields m.fields) (plain_readable m.fields h.fields)
      ▸ oneof_fields_read rs (suc d) full (text m.name) c (oneof_fields m nested) (oneofs_readable m nested h.fields 0 m.oneofs h.message.oneofs)
      ▸ end_read d
    where
      c : Converts (text m.name)
      c = (named_text m.name h.message.named).letter_or_digit

      brace : Reads (record { bodies = bs; at = naming struct_body; lexing = code_word (to_upper_camel (text m.name)); owed = open_declaration none (to_upper_camel (text m.name)) ∷ [] }) (lit " {\n") (between_two (struct_body ∷ bs))
      brace = record { seen = open_declaration none (to_upper_camel (text m.name)) ∷ []; onward = λ s. refl; complete = refl }

-- ---- a module
mod_keyword : {bs : List Body} → Items bs → Reads (between_two bs) (lit "pub mod ") (point bs (naming module_body) code)
unfolding choose same name_part name_start between
mod_keyword outermost = record { seen = []; onward = λ s. refl; complete = refl }
mod_keyword inner = record { seen = []; onward = λ s. refl; complete = refl }

mod_opened : {bs : List Body} → Items bs → (d : ℕ) (m : MessageDescriptor) → Named m.name → Reads (between_two bs) (push_mod d (text m.name)) (between_two (module_body ∷ bs))
unfolding push_mod choose same name_part name_start between
mod_opened {bs} i d m h =
    indent_read d
    ▸ opens
    ▸ comment_read n (name_parts n (named_text m.name h).identifier)
    ▸ closes
    ▸ (indent_read d ▸ mod_keyword i)
    ▸ word_read in_code (mod_open (snake n)) (to_snake n) refl (snake_word n (named_text m.name h).letter_or_digit)
    ▸ brace
  where
    n : Bytes
    n = text m.name

    opens : Reads (between_two bs) (lit "/// Nested message and enum types in `") (point bs start comment)
    opens = record { seen = []; onward = λ s. refl; complete = refl }

    closes : Reads (point bs start comment) (lit "`.\n") (between_two bs)
    closes = record { seen = []; onward = λ s. refl; complete = refl }

    brace : Reads (record { bodies = bs; at = naming module_body; lexing = code_word (to_snake n); owed = open_module (to_snake n) ∷ [] }) (lit " {\n") (between_two (module_body ∷ bs))
    brace = record { seen = open_module (to_snake n) ∷ []; onward = λ s. refl; complete = refl }

module _ (rs : List Setting) (set : List FileDescriptor) (proto3 : Bool) where
  pub messages_read : {bs : List Body} → Items bs → (d : ℕ) (scope : Bytes) (F : Forest MessageDescriptor) → EveryNode (λ m nested. ReadableMessage m) F
      → Reads (between_two bs) (append_messages rs set proto3 d scope F) (between_two bs)
  unfolding append_messages
  messages_read i d scope done h = still
  messages_read i d scope (node m nested following) h =
      let full = scope · text m.name in
      reads_when (not (m.map_entry || taken rs full))
      (struct_read rs set proto3 i d scope full m nested h.0 h.1.0
      ▸ reads_when (has_module m nested)
      (mod_opened i d m h.0.message.named
      ▸ messages_read inner (suc d) full nested h.1.0
      ▸ enums_read rs inner (suc d) full m.enums h.0.message.enums
      ▸ oneofs_read rs set inner (suc d) full (oneof_fields m nested) (oneofs_readable m nested h.0.fields 0 m.oneofs h.0.message.oneofs)
      ▸ end_read d))
      ▸ messages_read i d scope following h.1.1
