-- What is seen in the text of a field, a map, a variant and a oneof's field. Assumes nothing.
use Rattle.std.specs.Prelude.{◌≡◌, ℕ, Bool, true, false, ◌||◌, List, [], ◌∷◌, ◌++◌, ◌==◌}
use Rattle.std.proofs.Math.Path.{refl}
use Rattle.std.proofs.Math.Option.{Option, some, none}
use Rattle.std.proofs.Common.{eqb-true}
use Rattle.base.specs.Choose.{choose}
use Rattle.field_types.specs.Types.{sort_of, text as string, bytes, group, message}
use Rattle.descriptor.specs.Descriptor.{Bytes, FieldDescriptor, FileDescriptor}
use Rattle.options.specs.Settings.{Setting}
use Rattle.extern_paths.specs.ExternPaths.{taken}
use Rattle.name_rules.specs.Accessors.{text, type as type_of, is_repeated}
use Rattle.context.specs.Context.{bytes_type, map_type, should_box_message_field, should_box_oneof_field}
use Rattle.code_generator.specs.Piece.{nothing, piece, ◌⟫◌, when, either, ◌◃◌, label, path, Ref, Way, Owned, Spelling, snake, camel, spelt, type, choice, opt, vec, box, table, comma, tag_open, tag_close, wrap_open, wrap_close, lit}
use Rattle.code_generator.specs.Resolve.{way, prost, resolve_ident, resolve_bytes, resolve_type, tag_ident, field_type_tag, map_value_type_tag}
use Rattle.code_generator.specs.Attributes.{attributes, append_deprecated, append_field_attributes}
use Rattle.code_generator.specs.Fields.{optional, label_tag, bytes_annotation, default_text, default_given, default_tag, field_tag, shape_open, shape_close, box_open, box_close, field_line, append_field}
use Rattle.code_generator.specs.MapFields.{MapEntry, map_tag, map_open, map_line, append_map_field}
use Rattle.code_generator.specs.Oneofs.{OneofField, more_tags, tags, oneof_tag, oneof_line, append_oneof_field, variant_tag, variant_line, append_variant}
use Rattle.sights.specs.Events.{written_path}
use Rattle.sights.specs.Sights.{Sight, a_path, Frame, in_field, in_tag, in_wrap, use_at}
use Rattle.text_sights.specs.Reading.{Quiet, quiet, quiet_then, Reads, silent, ◌then◌, ◌then_quiet◌, ◌then_closed◌, when_true, either_true, reads_either, reads_both, seen_as, mark_before, mark_behind, quiet_mark}
use Rattle.text_sights.specs.Written.{names_struct, names_enum, label_of, in_shape, in_box, box_sights, oneof_way, ident_sights, type_sights, tag_sights, field_sights, map_sights, variant_sights, oneof_field_sights}

-- ---- quiet texts
pub quiet_attributes : (d : ℕ) (vs : List Bytes) → Quiet (attributes d vs)
unfolding attributes
quiet_attributes d [] = quiet nothing refl
quiet_attributes d (v ∷ vs) = quiet_then (quiet _ refl) (quiet_attributes d vs)

quiet_more_tags : (fs : List FieldDescriptor) → Quiet (more_tags fs)
unfolding more_tags
quiet_more_tags [] = quiet nothing refl
quiet_more_tags (f ∷ fs) = quiet_then (quiet _ refl) (quiet_more_tags fs)

quiet_tags : (fs : List FieldDescriptor) → Quiet (tags fs)
unfolding tags
quiet_tags [] = quiet nothing refl
quiet_tags (f ∷ fs) = quiet_then (quiet _ refl) (quiet_more_tags fs)

quiet_default : (rs : List Setting) (f : FieldDescriptor) (v : Option Bytes) → Quiet (default_given rs f v)
unfolding default_text
quiet_default rs f none = quiet nothing refl
quiet_default rs f (some v) = quiet _ refl

module _ (rs : List Setting) where
  pub quiet_prost : Quiet (prost rs)
  unfolding prost
  quiet_prost = quiet _ refl

  quiet_deprecated : (d : ℕ) (f : FieldDescriptor) → Quiet (append_deprecated d f)
  unfolding append_deprecated
  quiet_deprecated d f = quiet _ refl

  quiet_field_attributes : (d : ℕ) (full name : Bytes) → Quiet (append_field_attributes rs d full name)
  unfolding append_field_attributes
  quiet_field_attributes d full name = quiet_attributes d _

module _ (rs : List Setting) (base : List Bytes) where
  -- ---- paths
  reads_path : (fs : List Frame) (r : Ref) (w : Way) → Reads base fs (piece (path r w)) fs (a_path (use_at base fs (some r) (written_path w)) ∷ [])
  reads_path fs r w = record { reads = λ rest. refl }

  reads_ident : (fs : List Frame) (scope ident : Bytes) → Reads base fs (resolve_ident rs scope ident) fs (ident_sights rs base fs scope ident)
  unfolding resolve_ident ident_sights
  reads_ident fs scope ident = reads_either (taken rs ident) (silent (quiet _ refl)) (reads_path fs (type ident) (way scope ident))

  reads_bytes : (fs : List Frame) (as_bytes : Bool) → Reads base fs (resolve_bytes rs as_bytes) fs []
  unfolding resolve_bytes
  reads_bytes fs as_bytes =
      reads_both as_bytes (silent (quiet_then (quiet_prost rs) (quiet _ refl)))
      ((silent (quiet_prost rs) then quiet_mark (wrap_open vec) refl (silent (quiet _ refl))) then quiet_mark wrap_close refl (silent (quiet _ refl)))

  -- strings and bytes are no structs
  struct_last : (t : ℕ) (ss : List Sight)
      → choose (t == string) [] (choose (t == bytes) [] (choose (t == group || t == message) ss [])) ≡ choose (t == group || t == message) ss []
  unfolding choose
  struct_last t ss = go (t == string) refl (t == bytes) refl
    where
      go : (c : Bool) → (t == string) ≡ c → (d : Bool) → (t == bytes) ≡ d
          → choose c [] (choose d [] (choose (t == group || t == message) ss [])) ≡ choose (t == group || t == message) ss []
      go true e d f = rw (eqb-true t string e) refl
      go false e true f = rw (eqb-true t bytes f) refl
      go false e false f = refl

  reads_type : (fs : List Frame) (scope : Bytes) (as_bytes : Bool) (f : FieldDescriptor) → Reads base fs (resolve_type rs scope as_bytes f) fs (type_sights rs base fs scope f)
  unfolding resolve_type type_sights
  reads_type fs scope as_bytes f =
      seen_as (struct_last (sort_of (type_of f)) (ident_sights rs base fs scope (text f.type_name)))
      (reads_either (sort_of (type_of f) == string) (silent (quiet_then (quiet_prost rs) (quiet _ refl)))
      (reads_either (sort_of (type_of f) == bytes) (reads_bytes fs as_bytes)
      (reads_either (names_struct f) (reads_ident fs scope (text f.type_name)) (silent (quiet _ refl)))))

  reads_tag_ident : (fs : List Frame) (scope : Bytes) (f : FieldDescriptor) → Reads base fs (tag_ident rs scope f) fs (ident_sights rs base (in_tag ∷ fs) scope (text f.type_name))
  unfolding tag_ident
  reads_tag_ident fs scope f = quiet_mark tag_close refl (mark_before tag_open (reads_ident (in_tag ∷ fs) scope (text f.type_name)))

  reads_type_tag : (fs : List Frame) (scope : Bytes) (f : FieldDescriptor) → Reads base fs (field_type_tag rs scope f) fs (tag_sights rs base fs scope f)
  unfolding field_type_tag tag_sights
  reads_type_tag fs scope f =
      reads_either (names_enum f) ((silent (quiet _ refl) then reads_tag_ident fs scope f) then_quiet quiet _ refl) (silent (quiet _ refl))

  enum_twice : (c : Bool) (ss : List Sight) → choose c ss (choose c ss []) ≡ choose c ss []
  unfolding choose
  enum_twice true ss = refl
  enum_twice false ss = refl

  reads_value_tag : (fs : List Frame) (scope : Bytes) (f : FieldDescriptor) → Reads base fs (map_value_type_tag rs scope f) fs (tag_sights rs base fs scope f)
  unfolding map_value_type_tag tag_sights
  reads_value_tag fs scope f =
      seen_as (enum_twice (names_enum f) (ident_sights rs base (in_tag ∷ fs) scope (text f.type_name)))
      (reads_either (names_enum f) ((silent (quiet _ refl) then reads_tag_ident fs scope f) then_quiet quiet _ refl) (reads_type_tag fs scope f))

  -- ---- what stands around a type
  reads_box_open : (fs : List Frame) (boxed : Bool) → Reads base fs (box_open rs boxed) (in_box boxed fs) (box_sights boxed fs)
  unfolding box_open choose
  reads_box_open fs true = when_true (silent (quiet_prost rs) then mark_behind (wrap_open box) (silent (quiet _ refl)))
  reads_box_open fs false = record { reads = λ rest. refl }

  reads_box_close : (fs : List Frame) (boxed : Bool) → Reads base (in_box boxed fs) (box_close boxed) fs []
  unfolding box_close choose
  reads_box_close fs true = record { reads = λ rest. refl }
  reads_box_close fs false = record { reads = λ rest. refl }

  reads_shape_open : (proto3 : Bool) (f : FieldDescriptor) (fs : List Frame) → Reads base fs (shape_open rs proto3 f) (in_shape proto3 f fs) []
  unfolding shape_open choose
  reads_shape_open proto3 f fs = go (is_repeated f) (optional proto3 f)
    where
      go : (r o : Bool) → Reads base fs (either r (prost rs ⟫ (lit "::alloc::vec::Vec<" ◃ wrap_open vec)) (when o (lit "::core::option::Option<" ◃ wrap_open opt))) (choose r (in_wrap vec ∷ fs) (choose o (in_wrap opt ∷ fs) fs)) []
      go true o = either_true (silent (quiet_prost rs) then quiet_mark (wrap_open vec) refl (silent (quiet _ refl)))
      go false true = record { reads = λ rest. refl }
      go false false = record { reads = λ rest. refl }

  reads_shape_close : (proto3 : Bool) (f : FieldDescriptor) (fs : List Frame) → Reads base (in_shape proto3 f fs) (shape_close proto3 f) fs []
  unfolding shape_close choose
  reads_shape_close proto3 f fs = go (is_repeated f) (optional proto3 f)
    where
      go : (r o : Bool) → Reads base (choose r (in_wrap vec ∷ fs) (choose o (in_wrap opt ∷ fs) fs)) (when (r || o) (lit ">" ◃ wrap_close)) fs []
      go true o = record { reads = λ rest. refl }
      go false true = record { reads = λ rest. refl }
      go false false = record { reads = λ rest. refl }

  reads_label : (fs : List Frame) (o : Option Owned) (n : Spelling) → Reads base fs (piece (label o n)) (in_field (record { name = spelt n; mark = o }) ∷ fs) []
  reads_label fs o n = record { reads = λ rest. refl }

  -- ---- a field
  module _ (set : List FileDescriptor) (proto3 : Bool) (d : ℕ) (fs : List Frame) (scope full : Bytes) (f : FieldDescriptor) where
    reads_tag : (boxed as_bytes : Bool) → Reads base fs (field_tag rs proto3 scope f boxed as_bytes) fs (tag_sights rs base fs scope f)
    unfolding field_tag bytes_annotation label_tag default_tag
    reads_tag boxed as_bytes =
        reads_type_tag fs scope f
        then_quiet quiet _ refl
        then_quiet quiet _ refl
        then_quiet quiet _ refl
        then_quiet quiet _ refl
        then_quiet quiet _ refl
        then_quiet quiet_default rs f f.default_value
        then_quiet quiet _ refl

    reads_line : (boxed as_bytes : Bool) → let inside = in_shape proto3 f (in_field (label_of full f (snake (text f.name))) ∷ fs) in
        Reads base fs (field_line rs proto3 d scope full f boxed as_bytes) fs (box_sights boxed inside ++ type_sights rs base (in_box boxed inside) scope f)
    unfolding field_line
    reads_line boxed as_bytes =
        let named = in_field (label_of full f (snake (text f.name))) ∷ fs in
        let inside = in_shape proto3 f named in
        quiet_mark comma refl
        (silent (quiet _ refl)
        then reads_label fs (some (record { message = full; field = f })) (snake (text f.name))
        then_quiet quiet _ refl
        then reads_shape_open proto3 f named
        then reads_box_open inside boxed
        then reads_type (in_box boxed inside) scope as_bytes f
        then_closed reads_box_close inside boxed
        then_closed reads_shape_close proto3 f named
        then_quiet quiet _ refl)

    pub reads_field : Reads base fs (append_field rs set proto3 d scope full f) fs (field_sights rs base set proto3 fs scope full f)
    unfolding append_field field_sights
    reads_field =
        silent (quiet_then (quiet_deprecated rs d f) (quiet _ refl))
        then reads_tag (should_box_message_field rs set full f) (bytes_type rs full (text f.name))
        then_quiet quiet_field_attributes rs d full (text f.name)
        then reads_line (should_box_message_field rs set full f) (bytes_type rs full (text f.name))

  -- ---- a map
  module _ (d : ℕ) (fs : List Frame) (scope full : Bytes) (f : FieldDescriptor) (e : MapEntry) where
    reads_map_open : (btree : Bool) (gs : List Frame) → Reads base gs (map_open rs btree) (in_wrap table ∷ gs) []
    unfolding map_open
    reads_map_open btree gs = quiet_mark (wrap_open table) refl (reads_both btree (silent (quiet_then (quiet_prost rs) (quiet _ refl))) (silent (quiet _ refl)))

    reads_map_tag : (btree : Bool) → Reads base fs (map_tag rs scope f e btree) fs (tag_sights rs base fs scope e.key ++ tag_sights rs base fs scope e.value)
    unfolding map_tag
    reads_map_tag btree =
        silent (quiet_then (quiet _ refl) (quiet _ refl))
        then reads_type_tag fs scope e.key
        then_quiet quiet _ refl
        then reads_value_tag fs scope e.value
        then_quiet quiet _ refl
        then_quiet quiet _ refl
        then_quiet quiet _ refl

    reads_map_line : (btree key_bytes value_bytes : Bool) → let inside = in_wrap table ∷ in_field (label_of full f (snake (text f.name))) ∷ fs in
        Reads base fs (map_line rs d scope full f e btree key_bytes value_bytes) fs (type_sights rs base inside scope e.key ++ type_sights rs base inside scope e.value)
    unfolding map_line
    reads_map_line btree key_bytes value_bytes =
        let named = in_field (label_of full f (snake (text f.name))) ∷ fs in
        quiet_mark comma refl
        (silent (quiet _ refl)
        then reads_label fs (some (record { message = full; field = f })) (snake (text f.name))
        then_quiet quiet _ refl
        then reads_map_open btree named
        then reads_type (in_wrap table ∷ named) scope key_bytes e.key
        then_quiet quiet _ refl
        then reads_type (in_wrap table ∷ named) scope value_bytes e.value
        then_closed quiet_mark wrap_close refl (silent (quiet _ refl))
        then_quiet quiet _ refl)

    pub reads_map : Reads base fs (append_map_field rs d scope full f e) fs (map_sights rs base fs scope full f e)
    unfolding append_map_field map_sights
    reads_map =
        silent (quiet _ refl)
        then reads_map_tag (map_type rs full (text f.name))
        then_quiet quiet_field_attributes rs d full (text f.name)
        then reads_map_line (map_type rs full (text f.name)) (bytes_type rs full (text e.key.name)) (bytes_type rs full (text e.value.name))

  -- ---- a variant
  module _ (d : ℕ) (fs : List Frame) (full : Bytes) (f : FieldDescriptor) where
    reads_variant_tag : Reads base fs (variant_tag rs full f) fs (tag_sights rs base fs full f)
    unfolding variant_tag
    reads_variant_tag = reads_type_tag fs full f then_quiet quiet _ refl then_quiet quiet _ refl then_quiet quiet _ refl

    reads_variant_line : (boxed as_bytes : Bool) → let inside = in_field (label_of full f (camel (text f.name))) ∷ fs in
        Reads base fs (variant_line rs d full full f boxed as_bytes) fs (box_sights boxed inside ++ type_sights rs base (in_box boxed inside) full f)
    unfolding variant_line
    reads_variant_line boxed as_bytes =
        let inside = in_field (label_of full f (camel (text f.name))) ∷ fs in
        quiet_mark comma refl
        (silent (quiet _ refl)
        then reads_label fs (some (record { message = full; field = f })) (camel (text f.name))
        then_quiet quiet _ refl
        then reads_box_open inside boxed
        then reads_type (in_box boxed inside) full as_bytes f
        then_closed reads_box_close inside boxed
        then_quiet quiet _ refl)

    pub reads_variant : (set : List FileDescriptor) (x : OneofField) → Reads base fs (append_variant rs set d full x f) fs (variant_sights rs base set fs full x f)
    unfolding append_variant variant_sights
    reads_variant set x =
        silent (quiet_then (quiet_deprecated rs d f) (quiet _ refl))
        then reads_variant_tag
        then_quiet quiet_field_attributes rs d _ (text f.name)
        then reads_variant_line (should_box_oneof_field rs set full x.name f) (bytes_type rs full (text f.name))

  -- ---- a oneof's field
  module _ (d : ℕ) (fs : List Frame) (full message : Bytes) (x : OneofField) where
    pub reads_oneof_field : Reads base fs (append_oneof_field rs d full message x) fs (oneof_field_sights rs base fs full message x)
    unfolding append_oneof_field oneof_tag oneof_line oneof_field_sights
    reads_oneof_field =
        silent (quiet _ refl)
        then (silent (quiet _ refl)
        then quiet_mark tag_close refl (mark_before tag_open (reads_path (in_tag ∷ fs) (choice full x.name) (oneof_way message x)))
        then_quiet quiet _ refl
        then_quiet quiet_tags x.fields
        then_quiet quiet _ refl)
        then_quiet quiet_field_attributes rs d full x.name
        then quiet_mark comma refl
        (silent (quiet _ refl)
        then reads_label fs none (snake x.name)
        then_quiet quiet _ refl
        then quiet_mark (wrap_open opt) refl (silent (quiet _ refl))
        then reads_path (in_wrap opt ∷ in_field (record { name = spelt (snake x.name); mark = none }) ∷ fs) (choice full x.name) (oneof_way message x)
        then_closed quiet_mark wrap_close refl (silent (quiet _ refl))
        then_quiet quiet _ refl)
