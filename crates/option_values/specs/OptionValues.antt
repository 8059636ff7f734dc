-- Every opaque piece of a text is an option's value. Assumes nothing.
use Rattle.std.specs.Prelude.{ℕ, suc, ◌+◌, ◌≡◌, Bool, true, false, ◌&&◌, eqb}
use Rattle.std.proofs.Math.Path.{refl}
use Rattle.std.proofs.Common.{sym, ap, ◌∙◌}
use Rattle.std.proofs.Math.Option.{Option, some, none}
use mathlib.Core.List.Memᴰ
use mathlib.Core.List.{List, [], ◌∷◌, ◌++◌, map, append-nil, Memᴰ}
use Rattle.base.specs.Bytes.{b}
use Rattle.base.specs.Choose.{choose, choose_case}
use Rattle.base.specs.Lists.{Every, every_append, every_to}
use Rattle.base.specs.Tests.{both_ways}
use Rattle.syntax.specs.Syntax.{syntax_of}
use Rattle.descriptor.specs.Descriptor.{Bytes, Forest, done, node, FieldDescriptor, ValueDescriptor, EnumDescriptor, MessageDescriptor, FileDescriptor}
use Rattle.options.specs.Settings.{Setting, first_of_kind, found_at, value_of, or_else, prost_path}
use Rattle.path.specs.Forms.{sub_path_iter, prefixes, among}
use Rattle.path.specs.PathMap.{get_in, first_with, find_best}
use Rattle.extern_paths.specs.ExternPaths.{Segment, extern_paths, taken, resolve_ident as extern_ident}
use Rattle.name_rules.specs.Accessors.{text}
use Rattle.name_rules.specs.FullNames.{◌·◌, package_scope}
use Rattle.context.specs.Context.{type_attributes, message_attributes, enum_attributes, field_attributes, bytes_type, map_type, should_box_message_field, should_box_oneof_field, can_message_derive_copy, can_message_derive_eq}
use Rattle.code_generator.specs.Piece.{Piece, raw, opaque, extern, name, mod_open, decl_open, label, path, mark, Text, nothing, piece, ◌⟫◌, when, either, ◌▹◌, ◌◃◌, written, pieces, bytes_of, same_bytes}
use Rattle.code_generator.specs.Resolve.{prost, resolve_ident, resolve_bytes, resolve_type, tag_ident, field_type_tag, map_value_type_tag}
use Rattle.code_generator.specs.Attributes.{attributes, append_deprecated, append_type_attributes, append_message_attributes, append_enum_attributes, append_field_attributes, derive, append_prost_path_attribute, append_skip_debug}
use Rattle.code_generator.specs.Fields.{label_tag, bytes_annotation, default_text, default_given, default_tag, field_tag, shape_open, shape_close, box_open, box_close, field_line, append_field}
use Rattle.code_generator.specs.MapFields.{MapEntry, map_entry_of, map_tag, map_open, map_line, append_map_field}
use Rattle.code_generator.specs.Oneofs.{OneofField, plain_fields, oneof_fields, more_tags, tags, oneof_tag, oneof_line, append_oneof_field, append_oneof_fields, variant_tag, variant_line, append_variant, append_variants, append_oneof, append_oneofs, can_oneof_derive_copy, can_oneof_derive_eq}
use Rattle.code_generator.specs.Enums.{build_enum_value_mappings, variant_lines, enum_variant, enum_variants, as_str_arm, as_str_arms, from_str_arm, from_str_arms, enum_derive, as_str_name, from_str_name, enum_impl, enum_declaration, append_enum, append_enums}
use Rattle.code_generator.specs.Generate.{push_mod, field_or_map, append_fields, append_struct, append_messages, is_proto3, generate, file_text}
use Rattle.text_reader.specs.Symbols.{Symbol, chars, chars_append, piece_symbols, symbols_before, text_symbols}

-- ---- the values of options
-- the value of a row
abbrev pub RowValue : List Setting → Bytes → Type 0
RowValue rs v = Memᴰ v (map (λ (r : Setting). r.value) rs)

-- what an extern path stands for, for a full name that it takes
pub record ExternValue (rs : List Setting) (xs : List Segment) : Type 0 where
  pub ident : Bytes
  pub takes : taken rs ident ≡ true
  pub is : xs ≡ extern_ident rs ident

-- of the pieces, opaque ones are values of rows, and extern ones stand for what an extern path takes
abbrev pub OfOptions : List Setting → Piece → Type 0
OfOptions rs (raw x) = Unit
OfOptions rs (opaque v) = RowValue rs v
OfOptions rs (extern xs) = ExternValue rs xs
OfOptions rs (name n) = Unit
OfOptions rs (mod_open n) = Unit
OfOptions rs (decl_open r n) = Unit
OfOptions rs (label o n) = Unit
OfOptions rs (path r w) = Unit
OfOptions rs (mark m) = Unit

-- ---- of a text: each of its opaque pieces is such a value
module _ (rs : List Setting) where
  abbrev Valued : Text → Type 0
  Valued nothing = Unit
  Valued (piece p) = OfOptions rs p
  Valued (x ⟫ y) = Valued x × Valued y
  Valued (when t x) = t ≡ true → Valued x
  Valued (either t x y) = (t ≡ true → Valued x) × (t ≡ false → Valued y)
  Valued (m ▹ x) = Valued x
  Valued (x ◃ m) = Valued x

  valued_pieces : (x : Text) → Valued x → Every (OfOptions rs) (pieces x)
  valued_pieces nothing h = tt
  valued_pieces (piece p) h = (h, tt)
  valued_pieces (x ⟫ y) h = every_append (OfOptions rs) (pieces x) (pieces y) (valued_pieces x h.0) (valued_pieces y h.1)
  valued_pieces (when true x) h = valued_pieces x (h refl)
  valued_pieces (when false x) h = tt
  valued_pieces (either true x y) h = valued_pieces x (h.0 refl)
  valued_pieces (either false x y) h = valued_pieces y (h.1 refl)
  valued_pieces (m ▹ x) h = (tt, valued_pieces x h)
  valued_pieces (x ◃ m) h = every_append (OfOptions rs) (pieces x) (mark m ∷ []) (valued_pieces x h) (tt, tt)

infixl 60 ◌&◌
◌&◌ : {A B : Type 0} → A → B → A × B
x & y = (x, y)

-- ---- what the settings give
found_value : (kind i : ℕ) (rs : List Setting) (d : Bytes) → (first_of_kind kind i rs).found ≡ true → RowValue rs (or_else (value_of kind rs) d)
unfolding first_of_kind value_of choose
found_value kind i [] d h = both_ways h refl
found_value kind i (r ∷ rs) d h = on (eqb r.kind kind) h (found_value kind (i + 1) rs d)
  where
    on : (t : Bool) → (choose t (found_at i) (first_of_kind kind (i + 1) rs)).found ≡ true
        → ((first_of_kind kind (i + 1) rs).found ≡ true → RowValue rs (or_else (value_of kind rs) d)) → RowValue (r ∷ rs) (or_else (choose t (some r.value) (value_of kind rs)) d)
    on true h others = Memᴰ.head refl
    on false h others = Memᴰ.tail (others h)

got_values : (kind : ℕ) (forms : List Bytes) (rs : List Setting) → Every (RowValue rs) (get_in kind forms rs)
unfolding get_in
got_values kind forms [] = tt
got_values kind forms (r ∷ rs) =
    let others = every_to (λ (v : Bytes) m. Memᴰ.tail m) (get_in kind forms rs) (got_values kind forms rs) in
    choose_case (Every (RowValue (r ∷ rs))) (eqb r.kind kind && among r.path forms) (λ _. (Memᴰ.head refl, others)) (λ _. others)

module _ (rs : List Setting) where
  attributes_valued : (d : ℕ) (vs : List Bytes) → Every (RowValue rs) vs → Valued rs (attributes d vs)
  unfolding attributes
  attributes_valued d [] h = tt
  attributes_valued d (v ∷ vs) h = tt & h.0 & tt & attributes_valued d vs h.1

  type_attributes_valued : (d : ℕ) (full : Bytes) → Valued rs (append_type_attributes rs d full)
  unfolding append_type_attributes
  type_attributes_valued d full = attributes_valued d (type_attributes rs full) (got_values 5 (sub_path_iter full) rs)

  message_attributes_valued : (d : ℕ) (full : Bytes) → Valued rs (append_message_attributes rs d full)
  unfolding append_message_attributes
  message_attributes_valued d full = attributes_valued d (message_attributes rs full) (got_values 7 (sub_path_iter full) rs)

  enum_attributes_valued : (d : ℕ) (full : Bytes) → Valued rs (append_enum_attributes rs d full)
  unfolding append_enum_attributes
  enum_attributes_valued d full = attributes_valued d (enum_attributes rs full) (got_values 8 (sub_path_iter full) rs)

  field_attributes_valued : (d : ℕ) (full field : Bytes) → Valued rs (append_field_attributes rs d full field)
  unfolding append_field_attributes
  field_attributes_valued d full field = attributes_valued d (field_attributes rs full field) (got_values 6 (sub_path_iter (full · field)) rs)

  prost_valued : Valued rs (prost rs)
  unfolding prost prost_path
  prost_valued = (λ h. found_value 10 0 rs (b "::prost") h) & (λ _. tt)

  path_attribute_valued : Valued rs (append_prost_path_attribute rs)
  unfolding append_prost_path_attribute prost_path
  path_attribute_valued h = tt & found_value 10 0 rs (b "::prost") h & tt

  skip_debug_valued : (d : ℕ) (full : Bytes) → Valued rs (append_skip_debug rs d full)
  unfolding append_skip_debug
  skip_debug_valued d full _ = tt & tt

  derive_valued : (d : ℕ) (copy eq : Bool) (what : Bytes) → Valued rs (derive rs d copy eq what)
  unfolding derive
  derive_valued d copy eq what = tt & tt & (λ _. tt) & tt & (λ _. tt) & prost_valued & tt

  deprecated_valued : (d : ℕ) (f : FieldDescriptor) → Valued rs (append_deprecated d f)
  unfolding append_deprecated
  deprecated_valued d f _ = tt & tt

  -- ---- types and tags
  ident_valued : (scope ident : Bytes) → Valued rs (resolve_ident rs scope ident)
  unfolding resolve_ident
  ident_valued scope ident = (λ h. record { ident = ident; takes = h; is = refl }) & (λ _. tt)

  type_valued : (scope : Bytes) (as_bytes : Bool) (f : FieldDescriptor) → Valued rs (resolve_type rs scope as_bytes f)
  unfolding resolve_type resolve_bytes
  type_valued scope as_bytes f =
      (λ _. prost_valued & tt)
      & (λ _. (λ _. (λ _. prost_valued & tt) & (λ _. prost_valued & tt & tt)) & (λ _. (λ _. ident_valued scope (text f.type_name)) & (λ _. tt)))

  type_tag_valued : (scope : Bytes) (f : FieldDescriptor) → Valued rs (field_type_tag rs scope f)
  unfolding field_type_tag tag_ident
  type_tag_valued scope f = (λ _. tt & ident_valued scope (text f.type_name) & tt) & (λ _. tt)

  value_tag_valued : (scope : Bytes) (f : FieldDescriptor) → Valued rs (map_value_type_tag rs scope f)
  unfolding map_value_type_tag tag_ident
  value_tag_valued scope f = (λ _. tt & ident_valued scope (text f.type_name) & tt) & (λ _. type_tag_valued scope f)

  default_valued : (f : FieldDescriptor) (o : Option Bytes) → Valued rs (default_given rs f o)
  unfolding default_text
  default_valued f none = tt
  default_valued f (some v) = tt & ((λ _. tt & tt & tt) & (λ _. (λ _. tt) & (λ _. tt)))

  tag_valued : (proto3 : Bool) (scope : Bytes) (f : FieldDescriptor) (boxed as_bytes : Bool) → Valued rs (field_tag rs proto3 scope f boxed as_bytes)
  unfolding field_tag bytes_annotation label_tag default_tag
  tag_valued proto3 scope f boxed as_bytes =
      type_tag_valued scope f
      & (λ _. tt & tt & tt)
      & ((λ _ _. tt) & (λ _. (λ _. tt) & (λ _. tt & (λ _. tt))))
      & (λ _. tt)
      & tt
      & tt
      & default_valued f f.default_value
      & tt

  -- ---- lines
  box_open_valued : (boxed : Bool) → Valued rs (box_open rs boxed)
  unfolding box_open
  box_open_valued boxed _ = prost_valued & tt

  line_valued : (proto3 : Bool) (d : ℕ) (scope full : Bytes) (f : FieldDescriptor) (boxed as_bytes : Bool) → Valued rs (field_line rs proto3 d scope full f boxed as_bytes)
  unfolding field_line shape_open shape_close box_close
  line_valued proto3 d scope full f boxed as_bytes =
      tt & tt & tt & tt
      & ((λ _. prost_valued & tt) & (λ _ _. tt))
      & box_open_valued boxed
      & type_valued scope as_bytes f
      & (λ _. tt)
      & (λ _. tt)
      & tt

  field_valued : (set : List FileDescriptor) (proto3 : Bool) (d : ℕ) (scope full : Bytes) (f : FieldDescriptor) → Valued rs (append_field rs set proto3 d scope full f)
  unfolding append_field
  field_valued set proto3 d scope full f =
      deprecated_valued d f
      & (tt & tt)
      & tag_valued proto3 scope f (should_box_message_field rs set full f) (bytes_type rs full (text f.name))
      & field_attributes_valued d full (text f.name)
      & line_valued proto3 d scope full f (should_box_message_field rs set full f) (bytes_type rs full (text f.name))

  map_tag_valued : (scope : Bytes) (f : FieldDescriptor) (e : MapEntry) (btree : Bool) → Valued rs (map_tag rs scope f e btree)
  unfolding map_tag
  map_tag_valued scope f e btree = tt & tt & type_tag_valued scope e.key & tt & value_tag_valued scope e.value & tt & tt & tt

  map_line_valued : (d : ℕ) (scope full : Bytes) (f : FieldDescriptor) (e : MapEntry) (btree key_bytes value_bytes : Bool) → Valued rs (map_line rs d scope full f e btree key_bytes value_bytes)
  unfolding map_line map_open
  map_line_valued d scope full f e btree key_bytes value_bytes =
      tt & tt & tt & tt & ((λ _. prost_valued & tt) & (λ _. tt)) & type_valued scope key_bytes e.key & tt & type_valued scope value_bytes e.value & tt & tt

  map_valued : (d : ℕ) (scope full : Bytes) (f : FieldDescriptor) (e : MapEntry) → Valued rs (append_map_field rs d scope full f e)
  unfolding append_map_field
  map_valued d scope full f e =
      tt & tt
      & map_tag_valued scope f e (map_type rs full (text f.name))
      & field_attributes_valued d full (text f.name)
      & map_line_valued d scope full f e (map_type rs full (text f.name)) (bytes_type rs full (text e.key.name)) (bytes_type rs full (text e.value.name))

  -- ---- oneofs
  more_tags_valued : (fs : List FieldDescriptor) → Valued rs (more_tags fs)
  unfolding more_tags
  more_tags_valued [] = tt
  more_tags_valued (f ∷ fs) = tt & tt & more_tags_valued fs

  tags_valued : (fs : List FieldDescriptor) → Valued rs (tags fs)
  unfolding tags
  tags_valued [] = tt
  tags_valued (f ∷ fs) = tt & more_tags_valued fs

  oneof_field_valued : (d : ℕ) (full message : Bytes) (x : OneofField) → Valued rs (append_oneof_field rs d full message x)
  unfolding append_oneof_field oneof_tag oneof_line
  oneof_field_valued d full message x =
      tt & tt & (tt & tt & tt & tags_valued x.fields & tt) & field_attributes_valued d full x.name & (tt & tt & tt & tt & tt & tt & tt & tt)

  oneof_fields_valued : (d : ℕ) (full message : Bytes) (xs : List OneofField) → Valued rs (append_oneof_fields rs d full message xs)
  unfolding append_oneof_fields
  oneof_fields_valued d full message [] = tt
  oneof_fields_valued d full message (x ∷ xs) = oneof_field_valued d full message x & oneof_fields_valued d full message xs

  variant_line_valued : (d : ℕ) (scope full : Bytes) (f : FieldDescriptor) (boxed as_bytes : Bool) → Valued rs (variant_line rs d scope full f boxed as_bytes)
  unfolding variant_line box_close
  variant_line_valued d scope full f boxed as_bytes = tt & tt & tt & box_open_valued boxed & type_valued scope as_bytes f & (λ _. tt) & tt

  -- ---- enums
  module _ (enum : Bytes) where
    enum_variants_valued : (d : ℕ) (full : Bytes) (vs : List ValueDescriptor) → Valued rs (enum_variants rs d full enum vs)
    unfolding enum_variants enum_variant variant_lines
    enum_variants_valued d full [] = tt
    enum_variants_valued d full (v ∷ vs) =
        field_attributes_valued d full (text v.name) & ((λ _. tt & tt) & tt & tt & tt & tt & tt) & enum_variants_valued d full vs

    as_str_valued : (d : ℕ) (vs : List ValueDescriptor) → Valued rs (as_str_arms rs d enum vs)
    unfolding as_str_arms as_str_arm
    as_str_valued d [] = tt
    as_str_valued d (v ∷ vs) = (λ _. tt & tt) & (tt & tt) & tt & tt & tt & tt & as_str_valued d vs

    from_str_valued : (d : ℕ) (vs : List ValueDescriptor) → Valued rs (from_str_arms rs d enum vs)
    unfolding from_str_arms from_str_arm
    from_str_valued d [] = tt
    from_str_valued d (v ∷ vs) = tt & tt & tt & tt & (λ _. tt) & tt & tt & tt & from_str_valued d vs

    impl_valued : (d : ℕ) (vs : List ValueDescriptor) → Valued rs (enum_impl rs d enum vs)
    unfolding enum_impl as_str_name from_str_name
    impl_valued d vs =
        tt & tt & tt & tt
        & (tt & tt & (tt & tt) & (tt & tt) & (tt & tt) & (tt & tt) & (tt & tt) & as_str_valued (suc (suc (suc d))) vs & (tt & tt) & (tt & tt))
        & (tt & tt & (tt & tt) & (tt & tt) & from_str_valued (suc (suc (suc d))) vs & (tt & tt) & (tt & tt) & (tt & tt))
        & (tt & tt)

    declaration_valued : (d : ℕ) (full : Bytes) (vs : List ValueDescriptor) → Valued rs (enum_declaration rs d full enum vs)
    unfolding enum_declaration enum_derive
    declaration_valued d full vs =
        type_attributes_valued d full
        & enum_attributes_valued d full
        & (tt & tt & (λ _. tt) & tt & prost_valued & tt)
        & path_attribute_valued
        & (tt & tt)
        & (tt & tt)
        & tt
        & tt
        & enum_variants_valued (suc d) full vs
        & (tt & tt)

  enums_valued : (d : ℕ) (scope : Bytes) (es : List EnumDescriptor) → Valued rs (append_enums rs d scope es)
  unfolding append_enums append_enum
  enums_valued d scope [] = tt
  enums_valued d scope (e ∷ es) =
      (λ _. declaration_valued (text e.name) d (scope · text e.name) (build_enum_value_mappings e.values) & impl_valued (text e.name) d (build_enum_value_mappings e.values))
      & enums_valued d scope es

  -- ---- messages
  module _ (set : List FileDescriptor) where
    variants_valued : (d : ℕ) (full : Bytes) (x : OneofField) (fs : List FieldDescriptor) → Valued rs (append_variants rs set d full x fs)
    unfolding append_variants append_variant variant_tag
    variants_valued d full x [] = tt
    variants_valued d full x (f ∷ fs) =
        deprecated_valued d f
        & (tt & tt)
        & (type_tag_valued full f & tt & tt & tt)
        & field_attributes_valued d (full · x.name) (text f.name)
        & variant_line_valued d full full f (should_box_oneof_field rs set full x.name f) (bytes_type rs full (text f.name))
        & variants_valued d full x fs

    oneofs_valued : (d : ℕ) (full : Bytes) (xs : List OneofField) → Valued rs (append_oneofs rs set d full xs)
    unfolding append_oneofs append_oneof
    oneofs_valued d full [] = tt
    oneofs_valued d full (x ∷ xs) =
        type_attributes_valued d (full · x.name)
        & enum_attributes_valued d (full · x.name)
        & derive_valued d (can_oneof_derive_copy rs set full x) (can_oneof_derive_eq rs set full x) (b "::Oneof)]\n")
        & path_attribute_valued
        & skip_debug_valued d full
        & (tt & tt)
        & tt
        & tt
        & variants_valued (suc d) full x x.fields
        & (tt & tt)
        & oneofs_valued d full xs

    module _ (proto3 : Bool) where
      choice_valued : (d : ℕ) (scope full : Bytes) (f : FieldDescriptor) (o : Option MapEntry) → Valued rs (field_or_map rs set proto3 d scope full f o)
      choice_valued d scope full f none = field_valued set proto3 d scope full f
      choice_valued d scope full f (some e) = map_valued d scope full f e

      fields_valued : (d : ℕ) (scope full : Bytes) (nested : Forest MessageDescriptor) (fs : List FieldDescriptor) → Valued rs (append_fields rs set proto3 d scope full nested fs)
      unfolding append_fields
      fields_valued d scope full nested [] = tt
      fields_valued d scope full nested (f ∷ fs) = choice_valued d scope full f (map_entry_of full nested f.type_name) & fields_valued d scope full nested fs

      struct_valued : (d : ℕ) (scope full : Bytes) (m : MessageDescriptor) (nested : Forest MessageDescriptor) → Valued rs (append_struct rs set proto3 d scope full m nested)
      unfolding append_struct
      struct_valued d scope full m nested =
          type_attributes_valued d full
          & message_attributes_valued d full
          & derive_valued d (can_message_derive_copy rs set full) (can_message_derive_eq set full) (b "::Message)]\n")
          & path_attribute_valued
          & skip_debug_valued d full
          & (tt & tt)
          & tt
          & tt
          & fields_valued (suc d) scope full nested (plain_fields m.fields)
          & oneof_fields_valued (suc d) full (text m.name) (oneof_fields m nested)
          & (tt & tt)

      messages_valued : (d : ℕ) (scope : Bytes) (F : Forest MessageDescriptor) → Valued rs (append_messages rs set proto3 d scope F)
      unfolding append_messages push_mod
      messages_valued d scope done = tt
      messages_valued d scope (node m nested following) =
          (λ _. struct_valued d scope (scope · text m.name) m nested
          & (λ _. (tt & tt & tt & tt & (tt & tt) & tt & tt)
          & messages_valued (suc d) (scope · text m.name) nested
          & enums_valued (suc d) (scope · text m.name) m.enums
          & oneofs_valued (suc d) (scope · text m.name) (oneof_fields m nested)
          & (tt & tt)))
          & messages_valued d scope following

-- every opaque piece of a file's text is an option's value
pub option_values : (rs : List Setting) (set : List FileDescriptor) (f : FileDescriptor) → Every (OfOptions rs) (pieces (generate rs set f))
unfolding generate
option_values rs set f =
    valued_pieces rs (generate rs set f)
    (messages_valued rs set (is_proto3 (syntax_of f.syntax)) 0 (package_scope f.package_name) f.messages & enums_valued rs 0 (package_scope f.package_name) f.enums)

-- ---- without options
none_best : (forms : List Bytes) → (find_best 1 forms 0 []).found ≡ false
unfolding find_best first_with choose
none_best [] = refl
none_best (f ∷ fs) = none_best fs

none_taken : (ident : Bytes) → taken [] ident ≡ false
unfolding taken extern_paths value_of
none_taken ident = none_best (ident ∷ prefixes ident)

chars_only : (ps : List Piece) → Every (OfOptions []) ps → (s : List Symbol) → symbols_before ps s ≡ chars (bytes_of ps) ++ s
chars_only [] h s = refl
chars_only (p ∷ ps) h s = ap (λ (l : List Symbol). piece_symbols p ++ l) (chars_only ps h.1 s) ∙ one p h.0 ∙ sym (chars_append (written p) (bytes_of ps) s)
  where
    one : (p : Piece) → OfOptions [] p → piece_symbols p ++ (chars (bytes_of ps) ++ s) ≡ chars (written p) ++ (chars (bytes_of ps) ++ s)
    one (raw x) h = refl
    one (opaque v) h = absurd (Memᴰ.not-nil h)
    one (extern xs) h = both_ways h.takes (none_taken h.ident)
    one (name n) h = refl
    one (mod_open n) h = refl
    one (decl_open r n) h = refl
    one (label o n) h = refl
    one (path r w) h = refl
    one (mark m) h = refl

-- the reader is given the bytes of the text, and nothing else
pub all_chars : (set : List FileDescriptor) (f : FileDescriptor) → text_symbols [] set f ≡ chars (file_text [] set f)
all_chars set f =
    chars_only (pieces (generate [] set f)) (option_values [] set f) []
    ∙ append-nil (chars (bytes_of (pieces (generate [] set f))))
    ∙ ap chars (same_bytes (generate [] set f))
