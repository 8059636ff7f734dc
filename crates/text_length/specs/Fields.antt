-- How long the text of a field can be. Assumes nothing.
use Rattle.std.specs.Prelude.{Bool, true, false, ℕ, ◌*◌, ◌≤◌}
use Rattle.std.proofs.Math.Option.{Option, some, none}
use mathlib.Core.List.{List, [], ◌∷◌}
use Rattle.std.proofs.Common.{arith}
use Rattle.std.proofs.Math.ListN.{length}
use Rattle.base.specs.Lists.{Every}
use Rattle.descriptor.specs.Descriptor.{Bytes, FieldDescriptor, FileDescriptor}
use Rattle.collections.specs.Collections.{map_type, map_annotation, bytes_type, bytes_annotation as bytes_word}
use Rattle.options.specs.Settings.{Setting}
use Rattle.name_rules.specs.Accessors.{text, number, type}
use Rattle.code_generator.specs.Piece.{snake}
use Rattle.code_generator.specs.Resolve.{prost, resolve_ident, resolve_bytes, resolve_type, tag_ident, field_type_tag, map_value_type_tag}
use Rattle.code_generator.specs.Attributes.{attributes, append_deprecated, append_field_attributes, append_type_attributes, append_message_attributes, append_enum_attributes, derive, append_prost_path_attribute, append_skip_debug}
use Rattle.code_generator.specs.Fields.{label_tag, bytes_annotation, enum_value, default_text, default_given, default_tag, field_tag, shape_open, shape_close, box_open, box_close, field_line, append_field}
use Rattle.code_generator.specs.MapFields.{MapEntry, map_tag, map_open, map_line, append_map_field}
use Rattle.text_length.specs.Lengths.{AtMost, ◌then◌, none_long, piece_long, when_long, either_long, behind_mark, before_mark, wider, indent_long}
use Rattle.text_length.specs.Names.{spelling_long, decimal_long, tag_word_long, rust_word_long, escape_text_long, escape_bytes_long}
use Rattle.text_length.specs.Paths.{way_long, Small, prost_short, FewValues, values_few, extern_long}

-- no text of the set is longer than a set can be
pub record FieldShort (f : FieldDescriptor) : Type 0 where
  pub named : length (text f.name) ≤ 32768
  pub typed : length (text f.type_name) ≤ 32768
  pub defaulted : length (text f.default_value) ≤ 32768

pub box_close_long : (boxed : Bool) → AtMost 1 (box_close boxed)
unfolding box_close
box_close_long boxed = when_long boxed (before_mark _ (piece_long {n = 1} _ (omega arith)))

-- the words for collection types
map_word_long : (btree : Bool) → length (map_annotation (map_type btree)) ≤ 20
map_word_long true = omega arith
map_word_long false = omega arith

bytes_word_long : (as_bytes : Bool) → length (bytes_word (bytes_type as_bytes)) ≤ 20
bytes_word_long true = omega arith
bytes_word_long false = omega arith

-- a default that is given
given_long : (rs : List Setting) (f : FieldDescriptor) (v : Bytes) → length v ≤ 32768 → AtMost 5200000 (default_text rs f v)
unfolding default_text enum_value
given_long rs f v h =
    let m = escape_bytes_long v in
    let n = escape_text_long v in
    let e = spelling_long (enum_value rs f v) in
    wider 5200000
    (either_long _ (piece_long {n = 20} _ (omega arith) then piece_long {n = 4718592} _ (omega arith) then piece_long {n = 20} _ (omega arith))
    (either_long _ (piece_long {n = 66000} _ (omega arith)) (piece_long {n = 393216} _ (omega arith))))
    (omega arith)

module _ {rs : List Setting} (small : Small rs) where
  pub prost_long : AtMost 5000 (prost rs)
  unfolding prost
  prost_long = let h = prost_short small in wider 5000 (either_long _ (piece_long _ h) (piece_long {n = 10} _ (omega arith))) (omega arith)

  -- ---- attributes
  attributes_long : (d : ℕ) → d ≤ 25 → (vs : List Bytes) → Every (λ (v : Bytes). length v ≤ 4096) vs → AtMost (length vs * 4200) (attributes d vs)
  unfolding attributes
  attributes_long d deep [] h = none_long
  attributes_long d deep (v ∷ vs) h =
      wider _ ((indent_long d deep then piece_long {n = 4096} _ h.0 then piece_long {n = 1} _ (omega arith)) then attributes_long d deep vs h.1) (omega arith)

  few_long : (d : ℕ) → d ≤ 25 → (vs : List Bytes) → FewValues 64 vs → AtMost 300000 (attributes d vs)
  few_long d deep vs h = let k = h.few in wider 300000 (attributes_long d deep vs h.short) (omega arith)

  pub type_attributes_long : (d : ℕ) → d ≤ 25 → (full : Bytes) → AtMost 300000 (append_type_attributes rs d full)
  unfolding append_type_attributes
  type_attributes_long d deep full = few_long d deep _ (values_few small 5 full)

  pub message_attributes_long : (d : ℕ) → d ≤ 25 → (full : Bytes) → AtMost 300000 (append_message_attributes rs d full)
  unfolding append_message_attributes
  message_attributes_long d deep full = few_long d deep _ (values_few small 7 full)

  pub enum_attributes_long : (d : ℕ) → d ≤ 25 → (full : Bytes) → AtMost 300000 (append_enum_attributes rs d full)
  unfolding append_enum_attributes
  enum_attributes_long d deep full = few_long d deep _ (values_few small 8 full)

  pub field_attributes_long : (d : ℕ) → d ≤ 25 → (full name : Bytes) → AtMost 300000 (append_field_attributes rs d full name)
  unfolding append_field_attributes
  field_attributes_long d deep full name = few_long d deep _ (values_few small 6 _)

  pub derive_long : (d : ℕ) → d ≤ 25 → (copy eq : Bool) (what : Bytes) → length what ≤ 100 → AtMost 6000 (derive rs d copy eq what)
  unfolding derive
  derive_long d deep copy eq what h =
      wider 6000
      ((indent_long d deep then piece_long {n = 100} _ (omega arith))
      then when_long copy (piece_long {n = 100} _ (omega arith))
      then piece_long {n = 100} _ (omega arith)
      then when_long eq (piece_long {n = 100} _ (omega arith))
      then prost_long
      then piece_long {n = 100} _ h)
      (omega arith)

  pub prost_path_long : AtMost 5000 (append_prost_path_attribute rs)
  unfolding append_prost_path_attribute
  prost_path_long =
      let h = prost_short small in
      wider 5000 (when_long _ (piece_long {n = 100} _ (omega arith) then piece_long {n = 4096} _ h then piece_long {n = 100} _ (omega arith))) (omega arith)

  pub skip_debug_long : (d : ℕ) → d ≤ 25 → (full : Bytes) → AtMost 200 (append_skip_debug rs d full)
  unfolding append_skip_debug
  skip_debug_long d deep full = wider 200 (when_long _ (indent_long d deep then piece_long {n = 100} _ (omega arith))) (omega arith)

  pub box_open_long : (boxed : Bool) → AtMost 6000 (box_open rs boxed)
  unfolding box_open
  box_open_long boxed = wider 6000 (when_long boxed (prost_long then before_mark _ (piece_long {n = 100} _ (omega arith)))) (omega arith)

  -- ---- types and paths; scope: where they stand
  module _ (scope : Bytes) (near : length scope ≤ 600000) where
    ident_long : (ident : Bytes) → length ident ≤ 32768 → AtMost 10000000 (resolve_ident rs scope ident)
    unfolding resolve_ident
    ident_long ident h =
        let k = extern_long small ident in
        let m = way_long scope ident in
        wider 10000000 (either_long _ (piece_long {n = 400000} _ (omega arith)) (piece_long {n = 9500000} _ (omega arith))) (omega arith)

    bytes_long : (as_bytes : Bool) → AtMost 11000 (resolve_bytes rs as_bytes)
    unfolding resolve_bytes
    bytes_long as_bytes =
        wider 11000
        (either_long as_bytes (prost_long then piece_long {n = 100} _ (omega arith))
        (prost_long then before_mark _ (piece_long {n = 100} _ (omega arith)) then before_mark _ (piece_long {n = 100} _ (omega arith))))
        (omega arith)

    module _ {f : FieldDescriptor} (short : FieldShort f) where
      pub type_long : (as_bytes : Bool) → AtMost 10100000 (resolve_type rs scope as_bytes f)
      unfolding resolve_type
      type_long as_bytes =
          let w = rust_word_long (type f) in
          wider 10100000
          (either_long _ (prost_long then piece_long {n = 100} _ (omega arith))
          (either_long _ (bytes_long as_bytes) (either_long _ (ident_long _ short.typed) (piece_long {n = 10} _ w))))
          (omega arith)

      tag_ident_long : AtMost 10000000 (tag_ident rs scope f)
      unfolding tag_ident
      tag_ident_long = before_mark _ (behind_mark _ (ident_long _ short.typed))

      pub type_tag_long : AtMost 10100000 (field_type_tag rs scope f)
      unfolding field_type_tag
      type_tag_long =
          let w = tag_word_long (type f) in
          wider 10100000
          (either_long _ (piece_long {n = 100} _ (omega arith) then tag_ident_long then piece_long {n = 100} _ (omega arith)) (piece_long {n = 10} _ w))
          (omega arith)

      value_tag_long : AtMost 20300000 (map_value_type_tag rs scope f)
      unfolding map_value_type_tag
      value_tag_long =
          wider 20300000
          (either_long _ (piece_long {n = 100} _ (omega arith) then tag_ident_long then piece_long {n = 100} _ (omega arith)) type_tag_long)
          (omega arith)

    -- ---- a field
    module _ {f : FieldDescriptor} (short : FieldShort f) where
      pub deprecated_long : (d : ℕ) → d ≤ 25 → AtMost 200 (append_deprecated d f)
      unfolding append_deprecated
      deprecated_long d deep = wider 200 (when_long _ (indent_long d deep then piece_long {n = 100} _ (omega arith))) (omega arith)

      label_long : (proto3 : Bool) → AtMost 100 (label_tag proto3 f)
      unfolding label_tag
      label_long proto3 =
          wider 100
          (either_long _ (when_long _ (piece_long {n = 20} _ (omega arith)))
          (either_long _ (piece_long {n = 20} _ (omega arith)) (piece_long {n = 20} _ (omega arith) then when_long _ (piece_long {n = 20} _ (omega arith)))))
          (omega arith)

      annotation_long : (as_bytes : Bool) → AtMost 100 (bytes_annotation f as_bytes)
      unfolding bytes_annotation
      annotation_long as_bytes =
          wider 100 (when_long _ (piece_long {n = 20} _ (omega arith) then piece_long {n = 20} _ (bytes_word_long as_bytes) then piece_long {n = 20} _ (omega arith))) (omega arith)

      default_long : AtMost 5300000 (default_tag rs f)
      unfolding default_tag
      default_long = on f.default_value short.defaulted
        where
          on : (o : Option Bytes) → length (text o) ≤ 32768 → AtMost 5300000 (default_given rs f o)
          on none h = wider 5300000 none_long (omega arith)
          on (some v) h = wider 5300000 (piece_long {n = 20} _ (omega arith) then given_long rs f v h) (omega arith)

      tag_long : (proto3 boxed as_bytes : Bool) → AtMost 15500000 (field_tag rs proto3 scope f boxed as_bytes)
      unfolding field_tag
      tag_long proto3 boxed as_bytes =
          let n = decimal_long (number f) in
          wider 15500000
          (type_tag_long short
          then annotation_long as_bytes
          then label_long proto3
          then when_long boxed (piece_long {n = 20} _ (omega arith))
          then piece_long {n = 20} _ (omega arith)
          then piece_long {n = 10} _ n
          then default_long
          then piece_long {n = 20} _ (omega arith))
          (omega arith)

      open_long : (proto3 : Bool) → AtMost 6000 (shape_open rs proto3 f)
      unfolding shape_open
      open_long proto3 =
          wider 6000
          (either_long _ (prost_long then before_mark _ (piece_long {n = 100} _ (omega arith))) (when_long _ (before_mark _ (piece_long {n = 100} _ (omega arith)))))
          (omega arith)

      close_long : (proto3 : Bool) → AtMost 1 (shape_close proto3 f)
      unfolding shape_close
      close_long proto3 = when_long _ (before_mark _ (piece_long {n = 1} _ (omega arith)))

      line_long : (proto3 : Bool) (d : ℕ) → d ≤ 25 → (full : Bytes) (boxed as_bytes : Bool) → AtMost 10300000 (field_line rs proto3 d scope full f boxed as_bytes)
      unfolding field_line
      line_long proto3 d deep full boxed as_bytes =
          let n = spelling_long (snake (text f.name)) in
          let m = short.named in
          wider 10300000
          (before_mark _
          ((indent_long d deep then piece_long {n = 10} _ (omega arith))
          then piece_long {n = 66000} _ (omega arith)
          then piece_long {n = 10} _ (omega arith)
          then open_long proto3
          then box_open_long boxed
          then type_long short as_bytes
          then box_close_long boxed
          then close_long proto3
          then piece_long {n = 10} _ (omega arith)))
          (omega arith)

      pub field_long : (set : List FileDescriptor) (proto3 : Bool) (d : ℕ) → d ≤ 25 → (full : Bytes) → AtMost 30000000 (append_field rs set proto3 d scope full f)
      unfolding append_field
      field_long set proto3 d deep full =
          wider 30000000
          (deprecated_long d deep
          then (indent_long d deep then piece_long {n = 20} _ (omega arith))
          then tag_long proto3 _ _
          then field_attributes_long d deep full _
          then line_long proto3 d deep full _ _)
          (omega arith)

      -- ---- a map field
      module _ {e : MapEntry} (key : FieldShort e.key) (value : FieldShort e.value) where
        map_tag_long : (btree : Bool) → AtMost 31000000 (map_tag rs scope f e btree)
        unfolding map_tag
        map_tag_long btree =
            let n = decimal_long (number f) in
            wider 31000000
            (piece_long {n = 20} _ (map_word_long btree)
            then piece_long {n = 20} _ (omega arith)
            then type_tag_long key
            then piece_long {n = 20} _ (omega arith)
            then value_tag_long value
            then piece_long {n = 20} _ (omega arith)
            then piece_long {n = 10} _ n
            then piece_long {n = 20} _ (omega arith))
            (omega arith)

        map_open_long : (btree : Bool) → AtMost 6000 (map_open rs btree)
        unfolding map_open
        map_open_long btree =
            wider 6000
            (before_mark _ (either_long btree (prost_long then piece_long {n = 100} _ (omega arith)) (piece_long {n = 100} _ (omega arith))))
            (omega arith)

        map_line_long : (d : ℕ) → d ≤ 25 → (full : Bytes) (btree key_bytes value_bytes : Bool) → AtMost 20400000 (map_line rs d scope full f e btree key_bytes value_bytes)
        unfolding map_line
        map_line_long d deep full btree key_bytes value_bytes =
            let n = spelling_long (snake (text f.name)) in
            let m = short.named in
            wider 20400000
            (before_mark _
            ((indent_long d deep then piece_long {n = 10} _ (omega arith))
            then piece_long {n = 66000} _ (omega arith)
            then piece_long {n = 10} _ (omega arith)
            then map_open_long btree
            then type_long key key_bytes
            then piece_long {n = 10} _ (omega arith)
            then type_long value value_bytes
            then before_mark _ (piece_long {n = 1} _ (omega arith))
            then piece_long {n = 10} _ (omega arith)))
            (omega arith)

        pub map_field_long : (d : ℕ) → d ≤ 25 → (full : Bytes) → AtMost 60000000 (append_map_field rs d scope full f e)
        unfolding append_map_field
        map_field_long d deep full =
            wider 60000000
            ((indent_long d deep then piece_long {n = 20} _ (omega arith))
            then map_tag_long _
            then field_attributes_long d deep full _
            then map_line_long d deep full _ _ _)
            (omega arith)
