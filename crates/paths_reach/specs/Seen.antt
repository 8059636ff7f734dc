-- What is seen of a message, item by item and path by path. Assumes nothing.
use Rattle.std.specs.Prelude.{◌≡◌, refl, Bool, true, false, ◌||◌}
use Rattle.std.proofs.Common.{ap, ◌∙◌, ⊎_elim}
use Rattle.std.proofs.Math.Option.{Option, some, none}
use mathlib.Core.List.Memᴰ
use mathlib.Core.List.{List, [], ◌∷◌, ◌++◌, Memᴰ}
use Rattle.base.specs.Choose.{choose_case}
use Rattle.base.specs.Tests.{or_left, or_right}
use Rattle.base.specs.Lists.{Every, every_append, every_of, all_of}
use Rattle.descriptor.specs.Descriptor.{Bytes, Forest, FieldDescriptor, MessageDescriptor, FileDescriptor}
use Rattle.options.specs.Settings.{Setting}
use Rattle.extern_paths.specs.ExternPaths.{taken}
use Rattle.name_rules.specs.Accessors.{text, is_repeated}
use Rattle.context.specs.Context.{should_box_message_field, should_box_oneof_field}
use Rattle.code_generator.specs.Piece.{type, choice, snake, camel, spelt, opt, table}
use Rattle.code_generator.specs.Resolve.{way}
use Rattle.code_generator.specs.Fields.{optional}
use Rattle.code_generator.specs.MapFields.{MapEntry, map_entry_of}
use Rattle.code_generator.specs.Oneofs.{OneofField, plain_fields, oneof_fields}
use Rattle.sights.specs.Events.{written_path}
use Rattle.sights.specs.Sights.{Item, Use, Sight, an_item, a_path, a_box, Frame, in_declaration, in_field, in_tag, in_wrap, place_of, use_at, items, uses}
use Rattle.text_sights.specs.Written.{names_struct, names_enum, label_of, in_shape, in_box, box_sights, oneof_way, ident_sights, type_sights, tag_sights, field_sights, map_sights, variant_sights, oneof_field_sights, field_or_map_sights, struct_item, oneof_item}

-- ---- what holds of the paths, and there are no items among them
abbrev pub Fine : (Use → Type 0) → Sight → Type 0
Fine P (an_item i) = Unit
Fine P (a_path u) = P u
Fine P (a_box x) = Unit

abbrev pub Only : (Use → Type 0) → Sight → Type 0
Only P (an_item i) = ⊥
Only P (a_path u) = P u
Only P (a_box x) = Unit

module _ (P : Use → Type 0) where
  pub only_fine : (s : Sight) → Only P s → Fine P s
  only_fine (an_item i) p = absurd p
  only_fine (a_path u) p = p
  only_fine (a_box x) p = p

  pub no_items : (ss : List Sight) → Every (Only P) ss → items ss ≡ []
  no_items [] p = refl
  no_items (an_item i ∷ ss) p = absurd p.0
  no_items (a_path u ∷ ss) p = no_items ss p.1
  no_items (a_box x ∷ ss) p = no_items ss p.1

  pub fine_uses : (ss : List Sight) → Every (Fine P) ss → (u : Use) → Memᴰ u (uses ss) → P u
  fine_uses [] p u m = absurd (Memᴰ.not-nil m)
  fine_uses (an_item i ∷ ss) p u m = fine_uses ss p.1 u m
  fine_uses (a_box x ∷ ss) p u m = fine_uses ss p.1 u m
  fine_uses (a_path v ∷ ss) p u m = ⊎_elim (λ e. rw e p.0) (λ n. fine_uses ss p.1 u n) (Memᴰ.cases_cons m)

pub items_append : (xs ys : List Sight) → items (xs ++ ys) ≡ items xs ++ items ys
items_append [] ys = refl
items_append (an_item i ∷ xs) ys = ap {B = List Item} (λ (l : List Item). i ∷ l) (items_append xs ys)
items_append (a_path u ∷ xs) ys = items_append xs ys
items_append (a_box x ∷ xs) ys = items_append xs ys

pub every_mem : {A : Type 0} (P : A → Type 0) (xs : List A) → ((x : A) → Memᴰ x xs → P x) → Every P xs
every_mem P [] k = tt
every_mem P (x ∷ xs) k = (k x (Memᴰ.head refl), every_mem P xs (λ y m. k y (Memᴰ.tail m)))

module _ (rs : List Setting) (base : List Bytes) (P : Use → Type 0) where
  -- what is asked of a field's path, wherever it stands in its declaration; scope: where the declaration stands
  abbrev pub FieldPath : List Bytes → Bytes → FieldDescriptor → Type 0
  FieldPath place scope f =
      (names_struct f || names_enum f) ≡ true
      → taken rs (text f.type_name) ≡ false
      → (gs : List Frame)
      → place_of base gs ≡ place
      → P (use_at base gs (some (type (text f.type_name))) (written_path (way scope (text f.type_name))))

  abbrev pub FieldPaths : List Bytes → Bytes → FieldDescriptor → Option MapEntry → Type 0
  FieldPaths place scope f none = FieldPath place scope f
  FieldPaths place scope f (some e) = FieldPath place scope e.key × FieldPath place scope e.value

  abbrev pub OneofPath : List Bytes → Bytes → Bytes → OneofField → Type 0
  OneofPath place full message x = (gs : List Frame) → place_of base gs ≡ place → P (use_at base gs (some (choice full x.name)) (written_path (oneof_way message x)))

  module _ (place : List Bytes) (scope : Bytes) (f : FieldDescriptor) (ok : FieldPath place scope f) where
    only_ident : (gs : List Frame) → place_of base gs ≡ place → (names_struct f || names_enum f) ≡ true → Every (Only P) (ident_sights rs base gs scope (text f.type_name))
    unfolding ident_sights
    only_ident gs q n = choose_case (Every (Only P)) (taken rs (text f.type_name)) (λ _. tt) (λ e. (ok n e gs q, tt))

    only_type : (gs : List Frame) → place_of base gs ≡ place → Every (Only P) (type_sights rs base gs scope f)
    unfolding type_sights
    only_type gs q = choose_case (Every (Only P)) (names_struct f) (λ e. only_ident gs q (or_left (names_enum f) e)) (λ _. tt)

    only_tag : (gs : List Frame) → place_of base gs ≡ place → Every (Only P) (tag_sights rs base gs scope f)
    unfolding tag_sights
    only_tag gs q = choose_case (Every (Only P)) (names_enum f) (λ e. only_ident (in_tag ∷ gs) q (or_right (names_struct f) e)) (λ _. tt)

  only_box : (boxed : Bool) (gs : List Frame) → Every (Only P) (box_sights boxed gs)
  only_box boxed gs = choose_case (Every (Only P)) boxed (λ _. (tt, tt)) (λ _. tt)

  box_place : (boxed : Bool) (gs : List Frame) → place_of base (in_box boxed gs) ≡ place_of base gs
  box_place boxed gs = choose_case (λ (l : List Frame). place_of base l ≡ place_of base gs) boxed (λ _. refl) (λ _. refl)

  shape_place : (proto3 : Bool) (f : FieldDescriptor) (gs : List Frame) → place_of base (in_shape proto3 f gs) ≡ place_of base gs
  shape_place proto3 f gs =
      choose_case (λ (l : List Frame). place_of base l ≡ place_of base gs) (is_repeated f) (λ _. refl)
      (λ _. choose_case (λ (l : List Frame). place_of base l ≡ place_of base gs) (optional proto3 f) (λ _. refl) (λ _. refl))

  -- a type inside a Box
  only_boxed : (place : List Bytes) (scope : Bytes) (f : FieldDescriptor) → FieldPath place scope f → (boxed : Bool) (gs : List Frame) → place_of base gs ≡ place
      → Every (Only P) (box_sights boxed gs ++ type_sights rs base (in_box boxed gs) scope f)
  only_boxed place scope f ok boxed gs q =
      every_append (Only P) (box_sights boxed gs) (type_sights rs base (in_box boxed gs) scope f) (only_box boxed gs)
      (only_type place scope f ok (in_box boxed gs) (box_place boxed gs ∙ q))

  module _ (place : List Bytes) (fs : List Frame) (stands : place_of base fs ≡ place) where
    only_field : (set : List FileDescriptor) (proto3 : Bool) (scope full : Bytes) (f : FieldDescriptor) → FieldPath place scope f
        → Every (Only P) (field_sights rs base set proto3 fs scope full f)
    unfolding field_sights
    only_field set proto3 scope full f ok =
        let boxed = should_box_message_field rs set full f in
        let named = in_field (label_of full f (snake (text f.name))) ∷ fs in
        every_append (Only P) (tag_sights rs base fs scope f) (box_sights boxed (in_shape proto3 f named) ++ type_sights rs base (in_box boxed (in_shape proto3 f named)) scope f)
        (only_tag place scope f ok fs stands) (only_boxed place scope f ok boxed (in_shape proto3 f named) (shape_place proto3 f named ∙ stands))

    only_map : (scope full : Bytes) (f : FieldDescriptor) (e : MapEntry) → FieldPath place scope e.key → FieldPath place scope e.value
        → Every (Only P) (map_sights rs base fs scope full f e)
    unfolding map_sights
    only_map scope full f e key value =
        let inside = in_wrap table ∷ in_field (label_of full f (snake (text f.name))) ∷ fs in
        every_append (Only P) (tag_sights rs base fs scope e.key ++ tag_sights rs base fs scope e.value) (type_sights rs base inside scope e.key ++ type_sights rs base inside scope e.value)
        (every_append (Only P) (tag_sights rs base fs scope e.key) (tag_sights rs base fs scope e.value) (only_tag place scope e.key key fs stands) (only_tag place scope e.value value fs stands))
        (every_append (Only P) (type_sights rs base inside scope e.key) (type_sights rs base inside scope e.value) (only_type place scope e.key key inside stands) (only_type place scope e.value value inside stands))

    only_variant : (set : List FileDescriptor) (full : Bytes) (x : OneofField) (f : FieldDescriptor) → FieldPath place full f → Every (Only P) (variant_sights rs base set fs full x f)
    unfolding variant_sights
    only_variant set full x f ok =
        let boxed = should_box_oneof_field rs set full x.name f in
        let inside = in_field (label_of full f (camel (text f.name))) ∷ fs in
        every_append (Only P) (tag_sights rs base fs full f) (box_sights boxed inside ++ type_sights rs base (in_box boxed inside) full f)
        (only_tag place full f ok fs stands) (only_boxed place full f ok boxed inside stands)

    only_oneof_field : (full message : Bytes) (x : OneofField) → OneofPath place full message x → Every (Only P) (oneof_field_sights rs base fs full message x)
    unfolding oneof_field_sights
    only_oneof_field full message x ok =
        (ok (in_tag ∷ fs) stands, (ok (in_wrap opt ∷ in_field (record { name = spelt (snake x.name); mark = none }) ∷ fs) stands, tt))

    only_field_or_map : (set : List FileDescriptor) (proto3 : Bool) (scope full : Bytes) (f : FieldDescriptor) (e : Option MapEntry) → FieldPaths place scope f e
        → Every (Only P) (field_or_map_sights rs base set proto3 fs scope full f e)
    only_field_or_map set proto3 scope full f none ok = only_field set proto3 scope full f ok
    only_field_or_map set proto3 scope full f (some e) ok = only_map scope full f e ok.0 ok.1

  -- ---- declarations
  module _ (place : List Bytes) (fs : List Frame) (stands : place_of base fs ≡ place) (set : List FileDescriptor) where
    -- in the block of a struct
    pub only_members : (proto3 : Bool) (scope full : Bytes) (m : MessageDescriptor) (nested : Forest MessageDescriptor)
        → ((f : FieldDescriptor) → Memᴰ f (plain_fields m.fields) → FieldPaths place scope f (map_entry_of full nested f.type_name))
        → ((x : OneofField) → Memᴰ x (oneof_fields m nested) → OneofPath place full (text m.name) x)
        → let gs = in_declaration (struct_item rs base fs full m) ∷ fs in
        Every (Only P)
        (all_of (λ (f : FieldDescriptor). field_or_map_sights rs base set proto3 gs scope full f (map_entry_of full nested f.type_name)) (plain_fields m.fields)
        ++ all_of (λ (x : OneofField). oneof_field_sights rs base gs full (text m.name) x) (oneof_fields m nested))
    only_members proto3 scope full m nested fields oneofs =
        let gs = in_declaration (struct_item rs base fs full m) ∷ fs in
        let field : FieldDescriptor → List Sight = λ (f : FieldDescriptor). field_or_map_sights rs base set proto3 gs scope full f (map_entry_of full nested f.type_name) in
        let oneof : OneofField → List Sight = λ (x : OneofField). oneof_field_sights rs base gs full (text m.name) x in
        every_append (Only P) (all_of field (plain_fields m.fields)) (all_of oneof (oneof_fields m nested))
        (every_of (Only P) field (plain_fields m.fields)
        (every_mem (λ (f : FieldDescriptor). Every (Only P) (field f)) (plain_fields m.fields) (λ f k. only_field_or_map place gs stands set proto3 scope full f (map_entry_of full nested f.type_name) (fields f k))))
        (every_of (Only P) oneof (oneof_fields m nested)
        (every_mem (λ (x : OneofField). Every (Only P) (oneof x)) (oneof_fields m nested) (λ x k. only_oneof_field place gs stands full (text m.name) x (oneofs x k))))

    -- in the block of a oneof's enum
    pub only_variants : (full : Bytes) (x : OneofField) → ((f : FieldDescriptor) → Memᴰ f x.fields → FieldPath place full f)
        → Every (Only P) (all_of (variant_sights rs base set (in_declaration (oneof_item rs base fs full x) ∷ fs) full x) x.fields)
    only_variants full x variants =
        let gs = in_declaration (oneof_item rs base fs full x) ∷ fs in
        every_of (Only P) (variant_sights rs base set gs full x) x.fields
        (every_mem (λ (f : FieldDescriptor). Every (Only P) (variant_sights rs base set gs full x f)) x.fields (λ f k. only_variant place gs stands set full x f (variants f k)))
