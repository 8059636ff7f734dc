-- How long the text of a oneof and of an enum can be. Assumes nothing.
use mathlib.Core.List.{List, [], ◌∷◌, ◌++◌}
use Rattle.std.specs.Prelude.{ℕ, suc, ◌+◌, ◌*◌, ◌≤◌, length}
use Rattle.std.proofs.Common.{arith}
use Rattle.std.proofs.Math.ListN.{length-append}
use Rattle.base.specs.Bytes.{b}
use Rattle.base.specs.Choose.{choose_case}
use Rattle.base.specs.Lists.{Every}
use Rattle.ident.specs.Ident.{to_snake}
use Rattle.descriptor.specs.Descriptor.{Bytes, FieldDescriptor, ValueDescriptor, EnumDescriptor, FileDescriptor}
use Rattle.options.specs.Settings.{Setting}
use Rattle.name_rules.specs.Accessors.{text, number}
use Rattle.name_rules.specs.FullNames.{◌·◌}
use Rattle.code_generator.specs.Piece.{through, way_text, camel, snake, spelt}
use Rattle.code_generator.specs.Oneofs.{OneofField, type_name, more_tags, tags, oneof_path, oneof_tag, oneof_line, append_oneof_field, variant_tag, variant_line, append_variant, append_variants, append_oneof}
use Rattle.code_generator.specs.Enums.{value_number, is_used, mappings_from, build_enum_value_mappings, generated_variant_name, variant_lines, enum_variant, enum_variants, as_str_arm, as_str_arms, from_str_arm, from_str_arms, enum_derive, as_str_name, from_str_name, enum_impl, enum_declaration, append_enum, append_enums}
use Rattle.text_length.specs.Lengths.{AtMost, ◌then◌, none_long, piece_long, when_long, behind_mark, before_mark, wider, indent_long}
use Rattle.text_length.specs.Names.{snake_long, spelling_long, decimal_long, signed_long}
use Rattle.text_length.specs.Paths.{Small}
use Rattle.text_length.specs.Fields.{FieldShort, prost_long, type_attributes_long, enum_attributes_long, field_attributes_long, derive_long, prost_path_long, skip_debug_long, box_open_long, box_close_long, type_long, type_tag_long, deprecated_long}

-- ---- oneofs
tags_long : (fs : List FieldDescriptor) → AtMost (length fs * 12) (more_tags fs)
unfolding more_tags
tags_long [] = none_long
tags_long (f ∷ fs) =
    let n = decimal_long (number f) in
    wider _ ((piece_long {n = 2} _ (omega arith) then piece_long {n = 10} _ n) then tags_long fs) (omega arith)

all_tags_long : (fs : List FieldDescriptor) → AtMost (length fs * 12) (tags fs)
unfolding tags
all_tags_long [] = none_long
all_tags_long (f ∷ fs) = let n = decimal_long (number f) in wider _ (piece_long {n = 10} _ n then tags_long fs) (omega arith)

module _ (full message : Bytes) (short : length message ≤ 32768) (x : OneofField) (named : length x.name ≤ 32768) where
  path_long : AtMost 140000 (oneof_path full message x)
  unfolding through way_text
  path_long =
      let s = snake_long message in
      let n = spelling_long (type_name x) in
      let e = length-append (to_snake message ++ b "::") [] in
      let f = length-append (to_snake message) (b "::") in
      let g = length-append (to_snake message ++ b "::" ++ []) (spelt (type_name x)) in
      piece_long {n = 140000} _ (omega arith)

  oneof_tag_long : AtMost (length x.fields * 12 + 150000) (oneof_tag full message x)
  unfolding oneof_tag
  oneof_tag_long =
      wider _
      (piece_long {n = 20} _ (omega arith)
      then before_mark _ (behind_mark _ path_long)
      then piece_long {n = 20} _ (omega arith)
      then all_tags_long x.fields
      then piece_long {n = 20} _ (omega arith))
      (omega arith)

  oneof_line_long : (d : ℕ) → d ≤ 25 → AtMost 220000 (oneof_line d full message x)
  unfolding oneof_line
  oneof_line_long d deep =
      let n = spelling_long (snake x.name) in
      wider 220000
      (before_mark _
      ((indent_long d deep then piece_long {n = 10} _ (omega arith))
      then piece_long {n = 66000} _ (omega arith)
      then piece_long {n = 10} _ (omega arith)
      then before_mark _ (piece_long {n = 50} _ (omega arith))
      then path_long
      then before_mark _ (piece_long {n = 1} _ (omega arith))
      then piece_long {n = 10} _ (omega arith)))
      (omega arith)

  pub oneof_field_long : {rs : List Setting} → Small rs → (d : ℕ) → d ≤ 25 → AtMost (length x.fields * 12 + 1000000) (append_oneof_field rs d full message x)
  unfolding append_oneof_field
  oneof_field_long small d deep =
      wider _
      ((indent_long d deep then piece_long {n = 20} _ (omega arith)) then oneof_tag_long then field_attributes_long small d deep full _ then oneof_line_long d deep)
      (omega arith)

module _ {rs : List Setting} (small : Small rs) (set : List FileDescriptor) (full : Bytes) (near : length full ≤ 600000) where
  variant_long : (d : ℕ) → d ≤ 25 → (x : OneofField) {f : FieldDescriptor} → FieldShort f → AtMost 21000000 (append_variant rs set d full x f)
  unfolding append_variant variant_tag variant_line
  variant_long d deep x {f} short =
      let n = decimal_long (number f) in
      let m = spelling_long (camel (text f.name)) in
      let k = short.named in
      wider 21000000
      (deprecated_long small full near short d deep
      then (indent_long d deep then piece_long {n = 20} _ (omega arith))
      then (type_tag_long small full near short then piece_long {n = 20} _ (omega arith) then piece_long {n = 10} _ n then piece_long {n = 20} _ (omega arith))
      then field_attributes_long small d deep _ _
      then before_mark _
      (indent_long d deep
      then piece_long {n = 66000} _ (omega arith)
      then piece_long {n = 10} _ (omega arith)
      then box_open_long small _
      then type_long small full near short _
      then box_close_long _
      then piece_long {n = 10} _ (omega arith)))
      (omega arith)

  variants_long : (d : ℕ) → d ≤ 25 → (x : OneofField) (fs : List FieldDescriptor) → Every FieldShort fs → AtMost (length fs * 21000000) (append_variants rs set d full x fs)
  unfolding append_variants
  variants_long d deep x [] h = none_long
  variants_long d deep x (f ∷ fs) h = wider _ (variant_long d deep x h.0 then variants_long d deep x fs h.1) (omega arith)

  pub oneof_long : (d : ℕ) → d ≤ 24 → (x : OneofField) → length x.name ≤ 32768 → Every FieldShort x.fields → AtMost (length x.fields * 21000000 + 1000000) (append_oneof rs set d full x)
  unfolding append_oneof
  oneof_long d deep x named short =
      let n = spelling_long (type_name x) in
      wider _
      (type_attributes_long small d (omega arith) _
      then enum_attributes_long small d (omega arith) _
      then derive_long small d (omega arith) _ _ _ (omega arith)
      then prost_path_long small
      then skip_debug_long small d (omega arith) full
      then (indent_long d (omega arith) then piece_long {n = 20} _ (omega arith))
      then piece_long {n = 66000} _ (omega arith)
      then piece_long {n = 10} _ (omega arith)
      then variants_long (suc d) (omega arith) x x.fields short
      then before_mark _ (indent_long d (omega arith) then piece_long {n = 10} _ (omega arith)))
      (omega arith)

-- ---- enums
pub record ValueShort (v : ValueDescriptor) : Type 0 where
  pub named : length (text v.name) ≤ 32768

pub record EnumShort (e : EnumDescriptor) : Type 0 where
  pub named : length (text e.name) ≤ 32768
  pub short : Every ValueShort e.values
  pub few : length e.values ≤ 32768

-- the values that are left
pub record Left (n : ℕ) (vs : List ValueDescriptor) : Type 0 where
  pub few : length vs ≤ n
  pub short : Every ValueShort vs

left : (used : List ℕ) (vs : List ValueDescriptor) → Every ValueShort vs → Left (length vs) (mappings_from used vs)
unfolding mappings_from
left used [] h = record { few = omega arith; short = tt }
left used (v ∷ vs) h =
    choose_case (λ (l : List ValueDescriptor). Left (suc (length vs)) l) (is_used (value_number v) used)
    (λ _. let k = left used vs h.1 in let n = k.few in record { few = omega arith; short = k.short })
    (λ _. let k = left (value_number v ∷ used) vs h.1 in let n = k.few in record { few = omega arith; short = (h.0, k.short) })

module _ {rs : List Setting} (small : Small rs) (enum : Bytes) where
  module _ (d : ℕ) (deep : d ≤ 25) {v : ValueDescriptor} (short : ValueShort v) where
    abbrev named_long : length (spelt (generated_variant_name rs enum v)) ≤ 66000
    named_long = let n = spelling_long (generated_variant_name rs enum v) in let k = short.named in omega arith

    variant_text_long : (full : Bytes) → AtMost 400000 (enum_variant rs d full enum v)
    unfolding enum_variant variant_lines
    variant_text_long full =
        let n = signed_long (value_number v) in
        wider 400000
        (field_attributes_long small d deep full _
        then (when_long _ (indent_long d deep then piece_long {n = 20} _ (omega arith))
        then indent_long d deep
        then piece_long {n = 66000} _ named_long
        then piece_long {n = 10} _ (omega arith)
        then piece_long {n = 11} _ n
        then piece_long {n = 10} _ (omega arith)))
        (omega arith)

    as_str_long : AtMost 100000 (as_str_arm rs d enum v)
    unfolding as_str_arm
    as_str_long =
        wider 100000
        (when_long _ (indent_long d deep then piece_long {n = 30} _ (omega arith))
        then (indent_long d deep then piece_long {n = 10} _ (omega arith))
        then piece_long {n = 66000} _ named_long
        then piece_long {n = 10} _ (omega arith)
        then piece_long {n = 32768} _ short.named
        then piece_long {n = 10} _ (omega arith))
        (omega arith)

    from_str_long : AtMost 100000 (from_str_arm rs d enum v)
    unfolding from_str_arm
    from_str_long =
        wider 100000
        ((indent_long d deep then piece_long {n = 10} _ (omega arith))
        then piece_long {n = 32768} _ short.named
        then piece_long {n = 20} _ (omega arith)
        then when_long _ (piece_long {n = 30} _ (omega arith))
        then piece_long {n = 10} _ (omega arith)
        then piece_long {n = 66000} _ named_long
        then piece_long {n = 10} _ (omega arith))
        (omega arith)

  variants_text_long : (d : ℕ) → d ≤ 25 → (full : Bytes) (vs : List ValueDescriptor) → Every ValueShort vs → AtMost (length vs * 400000) (enum_variants rs d full enum vs)
  unfolding enum_variants
  variants_text_long d deep full [] h = none_long
  variants_text_long d deep full (v ∷ vs) h = wider _ (variant_text_long d deep h.0 full then variants_text_long d deep full vs h.1) (omega arith)

  as_str_arms_long : (d : ℕ) → d ≤ 25 → (vs : List ValueDescriptor) → Every ValueShort vs → AtMost (length vs * 100000) (as_str_arms rs d enum vs)
  unfolding as_str_arms
  as_str_arms_long d deep [] h = none_long
  as_str_arms_long d deep (v ∷ vs) h = wider _ (as_str_long d deep h.0 then as_str_arms_long d deep vs h.1) (omega arith)

  from_str_arms_long : (d : ℕ) → d ≤ 25 → (vs : List ValueDescriptor) → Every ValueShort vs → AtMost (length vs * 100000) (from_str_arms rs d enum vs)
  unfolding from_str_arms
  from_str_arms_long d deep [] h = none_long
  from_str_arms_long d deep (v ∷ vs) h = wider _ (from_str_long d deep h.0 then from_str_arms_long d deep vs h.1) (omega arith)

  module _ (d : ℕ) (deep : d ≤ 20) (vs : List ValueDescriptor) (short : Every ValueShort vs) where
    -- a line at the depth d, or one or two deeper
    as_str_name_long : AtMost (length vs * 100000 + 2000) (as_str_name rs d enum vs)
    unfolding as_str_name
    as_str_name_long =
        wider _
        ((indent_long d (omega arith) then piece_long {n = 100} _ (omega arith))
        then (indent_long d (omega arith) then piece_long {n = 100} _ (omega arith))
        then (indent_long d (omega arith) then piece_long {n = 100} _ (omega arith))
        then (indent_long d (omega arith) then piece_long {n = 100} _ (omega arith))
        then before_mark _ (indent_long d (omega arith) then piece_long {n = 100} _ (omega arith))
        then before_mark _ (indent_long (suc d) (omega arith) then piece_long {n = 100} _ (omega arith))
        then as_str_arms_long (suc (suc d)) (omega arith) vs short
        then before_mark _ (indent_long (suc d) (omega arith) then piece_long {n = 10} _ (omega arith))
        then before_mark _ (indent_long d (omega arith) then piece_long {n = 10} _ (omega arith)))
        (omega arith)

    from_str_name_long : AtMost (length vs * 100000 + 2000) (from_str_name rs d enum vs)
    unfolding from_str_name
    from_str_name_long =
        wider _
        ((indent_long d (omega arith) then piece_long {n = 100} _ (omega arith))
        then before_mark _ (indent_long d (omega arith) then piece_long {n = 100} _ (omega arith))
        then before_mark _ (indent_long (suc d) (omega arith) then piece_long {n = 100} _ (omega arith))
        then from_str_arms_long (suc (suc d)) (omega arith) vs short
        then (indent_long (suc (suc d)) (omega arith) then piece_long {n = 20} _ (omega arith))
        then before_mark _ (indent_long (suc d) (omega arith) then piece_long {n = 10} _ (omega arith))
        then before_mark _ (indent_long d (omega arith) then piece_long {n = 10} _ (omega arith)))
        (omega arith)

  module _ (named : length enum ≤ 32768) (d : ℕ) (deep : d ≤ 19) (vs : List ValueDescriptor) (short : Every ValueShort vs) where
    impl_long : AtMost (length vs * 200000 + 100000) (enum_impl rs d enum vs)
    unfolding enum_impl
    impl_long =
        let n = spelling_long (camel enum) in
        wider _
        (before_mark _ ((indent_long d (omega arith) then piece_long {n = 10} _ (omega arith)) then piece_long {n = 66000} _ (omega arith) then piece_long {n = 10} _ (omega arith))
        then as_str_name_long (suc d) (omega arith) vs short
        then from_str_name_long (suc d) (omega arith) vs short
        then before_mark _ (indent_long d (omega arith) then piece_long {n = 10} _ (omega arith)))
        (omega arith)

    declaration_long : (full : Bytes) → AtMost (length vs * 400000 + 1000000) (enum_declaration rs d full enum vs)
    unfolding enum_declaration enum_derive
    declaration_long full =
        let n = spelling_long (camel enum) in
        wider _
        (type_attributes_long small d (omega arith) full
        then enum_attributes_long small d (omega arith) full
        then ((indent_long d (omega arith) then piece_long {n = 50} _ (omega arith))
        then when_long _ (piece_long {n = 20} _ (omega arith))
        then piece_long {n = 50} _ (omega arith)
        then prost_long small
        then piece_long {n = 20} _ (omega arith))
        then prost_path_long small
        then (indent_long d (omega arith) then piece_long {n = 20} _ (omega arith))
        then (indent_long d (omega arith) then piece_long {n = 20} _ (omega arith))
        then piece_long {n = 66000} _ (omega arith)
        then piece_long {n = 10} _ (omega arith)
        then variants_text_long (suc d) (omega arith) full vs short
        then before_mark _ (indent_long d (omega arith) then piece_long {n = 10} _ (omega arith)))
        (omega arith)

module _ {rs : List Setting} (small : Small rs) where
  enum_long : (d : ℕ) → d ≤ 19 → (scope : Bytes) (e : EnumDescriptor) → EnumShort e → AtMost 20000000000 (append_enum rs d scope e)
  unfolding append_enum
  enum_long d deep scope e h =
      let vs = build_enum_value_mappings e.values in
      let k = left [] e.values h.short in
      let n = k.few in
      let m = h.few in
      wider _
      (when_long _
      (declaration_long small (text e.name) h.named d deep vs k.short (scope · text e.name) then impl_long small (text e.name) h.named d deep vs k.short))
      (omega arith)

  pub enums_long : (d : ℕ) → d ≤ 19 → (scope : Bytes) (es : List EnumDescriptor) → Every EnumShort es → AtMost (length es * 20000000000) (append_enums rs d scope es)
  unfolding append_enums
  enums_long d deep scope [] h = none_long
  enums_long d deep scope (e ∷ es) h = wider _ (enum_long d deep scope e h.0 then enums_long d deep scope es h.1) (omega arith)
