-- Each Box that is seen stands at a field of its message's struct, which is in no oneof, or at a variant of its own oneof's enum, under the name
-- that the field has there. Assumes nothing.
use Rattle.std.specs.Prelude.{ℕ, suc, ◌+◌, ◌≡◌, Bool, true, false, ◌||◌, not, get_or}
use native.Mathlib.Omega.{arith}
use Rattle.std.proofs.Math.Path.{refl, ap}
use Rattle.std.proofs.Common.{sym, subst, ◌∙◌, ⊎_elim, eqb-true}
use Rattle.std.proofs.Math.Option.{Option, some, none}
use mathlib.Core.List.Memᴰ
use mathlib.Core.List.{List, [], ◌∷◌, ◌++◌, Memᴰ}
use Rattle.base.specs.Choose.{choose, choose_case}
use Rattle.base.specs.Tests.{both_ways}
use Rattle.base.specs.Lists.{Every, every_append, every_of, all_of, is_empty}
use Rattle.walks_end.proofs.Facts.{file_entries_in}
use Rattle.syntax.specs.Syntax.{syntax_of}
use Rattle.descriptor.specs.Descriptor.{Bytes, Forest, done, node, FieldDescriptor, EnumDescriptor, MessageDescriptor, FileDescriptor}
use Rattle.options.specs.Settings.{Setting}
use Rattle.extern_paths.specs.ExternPaths.{taken}
use Rattle.name_rules.specs.Accessors.{text, is_repeated}
use Rattle.name_rules.specs.FullNames.{◌·◌, package_scope, Entry, entries, set_entries}
use Rattle.context.specs.Context.{should_box}
use Rattle.code_generator.specs.Piece.{type, choice, snake, camel, spelt, table}
use Rattle.code_generator.specs.Fields.{optional}
use Rattle.code_generator.specs.MapFields.{MapEntry, map_entry_of}
use Rattle.code_generator.specs.Oneofs.{OneofField, oneof_of, is_plain, is_at, plain_fields, fields_at, meets, oneofs_from, oneof_fields}
use Rattle.code_generator.specs.Generate.{has_module, is_proto3}
use Rattle.sights.specs.Sights.{BoxUse, Sight, an_item, a_path, a_box, Frame, in_module, in_declaration, in_field, in_wrap, owner_of, field_of, module_at, file_place, set_sights, boxes}
use Rattle.text_sights.specs.Written.{names_struct, names_enum, label_of, in_shape, in_box, box_sights, ident_sights, type_sights, tag_sights, field_sights, map_sights, variant_sights, oneof_field_sights, field_or_map_sights, struct_item, oneof_item, struct_sights, oneof_sights, enum_sights, message_sights, written_sights}
use Rattle.text_sights.proofs.TextReads.{set_sights_are}
use Rattle.paths_reach.specs.Seen.{every_mem}
use Rattle.paths_reach.proofs.PathsReach.{at_mem}
use Rattle.walks_end.specs.BoxedFields.{oneof_name}
use Rattle.walks_end.specs.Origins.{owner_mark}
use Rattle.walks_end.specs.Labels.{Labelled, at_field, at_variant}

-- ---- which oneof a field is in
plain_is : (f : FieldDescriptor) (fs : List FieldDescriptor) → Memᴰ f (plain_fields fs) → oneof_of f ≡ none
unfolding plain_fields choose
plain_is f [] i = absurd (Memᴰ.not-nil i)
plain_is f (g ∷ fs) i = go (oneof_of g) refl i (plain_is f fs)
  where
    go : (o : Option ℕ) → oneof_of g ≡ o → Memᴰ f (choose (is_plain o) (g ∷ plain_fields fs) (plain_fields fs)) → (Memᴰ f (plain_fields fs) → oneof_of f ≡ none) → oneof_of f ≡ none
    go none e i rest = ⊎_elim (λ q. ap oneof_of q ∙ e) rest (Memᴰ.cases_cons i)
    go (some k) e i rest = rest i

at_is : (k : ℕ) (o : Option ℕ) → is_at k o ≡ true → o ≡ some k
at_is k none h = both_ways h refl
at_is k (some j) h = ap some (sym (eqb-true k j h))

-- the oneofs from an index on have the names and the fields of their own indexes
named_at : (m : MessageDescriptor) (nested : Forest MessageDescriptor) (k : ℕ) (ns : List (Option Bytes)) (x : OneofField) → Memᴰ x (oneofs_from m nested k ns)
    → (j : ℕ) × (x.fields ≡ fields_at (k + j) m.fields) × (x.name ≡ text (get_or ns j none))
unfolding oneofs_from choose
named_at m nested k [] x i = absurd (Memᴰ.not-nil i)
named_at m nested k (n ∷ ns) x i = go (is_empty (fields_at k m.fields)) i (λ l. named_at m nested (suc k) ns x l)
  where
    later : (j : ℕ) × (x.fields ≡ fields_at (suc k + j) m.fields) × (x.name ≡ text (get_or ns j none)) → (j : ℕ) × (x.fields ≡ fields_at (k + j) m.fields) × (x.name ≡ text (get_or (n ∷ ns) j none))
    later (j, own, name) = let e : suc k + j ≡ k + suc j = omega arith in (suc j, own ∙ ap (λ (z : ℕ). fields_at z m.fields) e, name)

    go : (t : Bool)
        → Memᴰ x (choose t (oneofs_from m nested (suc k) ns) (record { name = text n; fields = fields_at k m.fields; has_type_name_conflict = meets m nested (text n) } ∷ oneofs_from m nested (suc k) ns))
        → (Memᴰ x (oneofs_from m nested (suc k) ns) → (j : ℕ) × (x.fields ≡ fields_at (suc k + j) m.fields) × (x.name ≡ text (get_or ns j none)))
        → (j : ℕ) × (x.fields ≡ fields_at (k + j) m.fields) × (x.name ≡ text (get_or (n ∷ ns) j none))
    go true i rest = later (rest i)
    go false i rest =
        ⊎_elim (λ e. let z : k ≡ k + 0 = omega arith in (0, ap (λ (o : OneofField). o.fields) e ∙ ap (λ (z : ℕ). fields_at z m.fields) z, ap (λ (o : OneofField). o.name) e)) (λ l. later (rest l))
        (Memᴰ.cases_cons i)

abbrev Well : List FileDescriptor → Sight → Type 0
Well set (an_item i) = Unit
Well set (a_path u) = Unit
Well set (a_box x) = Labelled set x

well_boxes : (set : List FileDescriptor) (ss : List Sight) → Every (Well set) ss → (x : BoxUse) → Memᴰ x (boxes ss) → Labelled set x
well_boxes set [] h x m = absurd (Memᴰ.not-nil m)
well_boxes set (an_item i ∷ ss) h x m = well_boxes set ss h.1 x m
well_boxes set (a_path u ∷ ss) h x m = well_boxes set ss h.1 x m
well_boxes set (a_box y ∷ ss) h x m = ⊎_elim (λ e. subst (λ (z : BoxUse). Labelled set z) (sym e) h.0) (λ n. well_boxes set ss h.1 x n) (Memᴰ.cases_cons m)

module _ (rs : List Setting) (base : List Bytes) (set : List FileDescriptor) where
  well_ident : (gs : List Frame) (scope ident : Bytes) → Every (Well set) (ident_sights rs base gs scope ident)
  unfolding ident_sights
  well_ident gs scope ident = choose_case (Every (Well set)) (taken rs ident) (λ _. tt) (λ _. (tt, tt))

  well_type : (gs : List Frame) (scope : Bytes) (f : FieldDescriptor) → Every (Well set) (type_sights rs base gs scope f)
  unfolding type_sights
  well_type gs scope f = choose_case (Every (Well set)) (names_struct f) (λ _. well_ident gs scope (text f.type_name)) (λ _. tt)

  well_tag : (gs : List Frame) (scope : Bytes) (f : FieldDescriptor) → Every (Well set) (tag_sights rs base gs scope f)
  unfolding tag_sights
  well_tag gs scope f = choose_case (Every (Well set)) (names_enum f) (λ _. well_ident _ scope (text f.type_name)) (λ _. tt)

  well_box : (boxed : Bool) (gs : List Frame) → Labelled set (record { owner = owner_of gs; field = field_of gs }) → Every (Well set) (box_sights boxed gs)
  well_box boxed gs l = choose_case (Every (Well set)) boxed (λ _. (l, tt)) (λ _. tt)

  -- ---- fields and variants
  shape_labelled : (proto3 : Bool) (f : FieldDescriptor) (gs : List Frame) → Labelled set (record { owner = owner_of gs; field = field_of gs })
      → let inside = in_shape proto3 f gs in Labelled set (record { owner = owner_of inside; field = field_of inside })
  shape_labelled proto3 f gs l =
      choose_case (λ (l : List Frame). Labelled set (record { owner = owner_of l; field = field_of l })) (is_repeated f) (λ _. l)
      (λ _. choose_case (λ (l : List Frame). Labelled set (record { owner = owner_of l; field = field_of l })) (optional proto3 f) (λ _. l) (λ _. l))

  well_field : (proto3 : Bool) (fs : List Frame) (full : Bytes) → owner_mark (owner_of fs) ≡ some (type full) → (scope : Bytes) (f : FieldDescriptor) → oneof_of f ≡ none → Every (Well set) (field_sights rs base set proto3 fs scope full f)
  unfolding field_sights
  well_field proto3 fs full own scope f plain =
      let boxed = should_box rs set full full f in
      let named = in_field (label_of full f (snake (text f.name))) ∷ fs in
      let inside = in_shape proto3 f named in
      every_append (Well set) (tag_sights rs base fs scope f) (box_sights boxed inside ++ type_sights rs base (in_box boxed inside) scope f) (well_tag fs scope f)
      (every_append (Well set) (box_sights boxed inside) (type_sights rs base (in_box boxed inside) scope f) (well_box boxed inside (shape_labelled proto3 f named (at_field full f plain own refl)))
      (well_type (in_box boxed inside) scope f))

  well_map : (fs : List Frame) (scope full : Bytes) (f : FieldDescriptor) (e : MapEntry) → Every (Well set) (map_sights rs base fs scope full f e)
  unfolding map_sights
  well_map fs scope full f e =
      let inside = in_wrap table ∷ in_field (label_of full f (snake (text f.name))) ∷ fs in
      every_append (Well set) (tag_sights rs base fs scope e.key ++ tag_sights rs base fs scope e.value) (type_sights rs base inside scope e.key ++ type_sights rs base inside scope e.value)
      (every_append (Well set) (tag_sights rs base fs scope e.key) (tag_sights rs base fs scope e.value) (well_tag fs scope e.key) (well_tag fs scope e.value))
      (every_append (Well set) (type_sights rs base inside scope e.key) (type_sights rs base inside scope e.value) (well_type inside scope e.key) (well_type inside scope e.value))

  well_field_or_map : (proto3 : Bool) (fs : List Frame) (full : Bytes) → owner_mark (owner_of fs) ≡ some (type full) → (scope : Bytes) (f : FieldDescriptor) → oneof_of f ≡ none → (e : Option MapEntry)
      → Every (Well set) (field_or_map_sights rs base set proto3 fs scope full f e)
  well_field_or_map proto3 fs full own scope f plain none = well_field proto3 fs full own scope f plain
  well_field_or_map proto3 fs full own scope f plain (some e) = well_map fs scope full f e

  well_variant : (fs : List Frame) (full : Bytes) (x : OneofField) (m : MessageDescriptor) (k : ℕ) → Memᴰ (record { full = full; message = m }) (set_entries set)
      → owner_mark (owner_of fs) ≡ some (choice full (oneof_name m k)) → (f : FieldDescriptor) → oneof_of f ≡ some k → Every (Well set) (variant_sights rs base set fs full x f)
  unfolding variant_sights
  well_variant fs full x m k there own f at =
      let boxed = should_box rs set full (full · x.name) f in
      let inside = in_field (label_of full f (camel (text f.name))) ∷ fs in
      every_append (Well set) (tag_sights rs base fs full f) (box_sights boxed inside ++ type_sights rs base (in_box boxed inside) full f) (well_tag fs full f)
      (every_append (Well set) (box_sights boxed inside) (type_sights rs base (in_box boxed inside) full f) (well_box boxed inside (at_variant full m k f there at own refl)) (well_type (in_box boxed inside) full f))

  -- ---- declarations
  well_struct : (proto3 : Bool) (fs : List Frame) (scope full : Bytes) (m : MessageDescriptor) (nested : Forest MessageDescriptor) → Every (Well set) (struct_sights rs base set proto3 fs scope full m nested)
  unfolding struct_sights oneof_field_sights
  well_struct proto3 fs scope full m nested =
      let gs = in_declaration (struct_item rs base fs full m) ∷ fs in
      let field : FieldDescriptor → List Sight = λ (f : FieldDescriptor). field_or_map_sights rs base set proto3 gs scope full f (map_entry_of full nested f.type_name) in
      let oneof : OneofField → List Sight = λ (x : OneofField). oneof_field_sights rs base gs full (text m.name) x in (
        tt,
        every_append (Well set) (all_of field (plain_fields m.fields)) (all_of oneof (oneof_fields m nested))
            (every_of (Well set) field (plain_fields m.fields)
            (every_mem (λ (f : FieldDescriptor). Every (Well set) (field f)) (plain_fields m.fields) (λ f i. well_field_or_map proto3 gs full refl scope f (plain_is f m.fields i) (map_entry_of full nested f.type_name))))
            (every_of (Well set) oneof (oneof_fields m nested) (every_mem (λ (x : OneofField). Every (Well set) (oneof x)) (oneof_fields m nested) (λ x _. (tt, (tt, tt))))),
      )

  well_oneof : (fs : List Frame) (full : Bytes) (m : MessageDescriptor) (nested : Forest MessageDescriptor) → Memᴰ (record { full = full; message = m }) (set_entries set)
      → (x : OneofField) → Memᴰ x (oneof_fields m nested) → Every (Well set) (oneof_sights rs base set fs full x)
  unfolding oneof_sights
  well_oneof fs full m nested there x i =
      let gs = in_declaration (oneof_item rs base fs full x) ∷ fs in
      let variant = variant_sights rs base set gs full x in
      let (k, own, name) = named_at m nested 0 m.oneofs x i in
      let first : 0 + k ≡ k = omega arith in
      let fields : x.fields ≡ fields_at k m.fields = own ∙ ap (λ (z : ℕ). fields_at z m.fields) first in (
        tt,
        every_of (Well set) variant x.fields
            (every_mem (λ (f : FieldDescriptor). Every (Well set) (variant f)) x.fields
            (λ f l.
            let at = at_is k (oneof_of f) (at_mem k f m.fields (subst (λ (z : List FieldDescriptor). Memᴰ f z) fields l)).1 in
            well_variant gs full x m k there (ap (λ (z : Bytes). some (choice full z)) name) f at)),
      )

  well_enums : (fs : List Frame) (scope : Bytes) (es : List EnumDescriptor) → Every (Well set) (all_of (enum_sights rs base fs scope) es)
  unfolding enum_sights
  well_enums fs scope es =
      every_of (Well set) (enum_sights rs base fs scope) es
      (every_mem (λ (e : EnumDescriptor). Every (Well set) (enum_sights rs base fs scope e)) es (λ e _. choose_case (Every (Well set)) (not (taken rs (scope · text e.name))) (λ _. (tt, tt)) (λ _. tt)))

  well_messages : (proto3 : Bool) (fs : List Frame) (scope : Bytes) (ms : Forest MessageDescriptor) → ((e : Entry) → Memᴰ e (entries scope ms) → Memᴰ e (set_entries set)) → Every (Well set) (message_sights rs base set proto3 fs scope ms)
  unfolding message_sights entries
  well_messages proto3 fs scope done in_set = tt
  well_messages proto3 fs scope (node m nested following) in_set =
      let full = scope · text m.name in
      let inside = in_module (spelt (snake (text m.name))) ∷ fs in
      let struct = struct_sights rs base set proto3 fs scope full m nested in
      let inner = message_sights rs base set proto3 inside full nested in
      let enums = all_of (enum_sights rs base inside full) m.enums in
      let oneof = oneof_sights rs base set inside full in
      let oneofs = all_of oneof (oneof_fields m nested) in
      let module_sights = an_item (module_at base fs (spelt (snake (text m.name)))) ∷ (inner ++ (enums ++ oneofs)) in
      every_append (Well set) (choose (not (m.map_entry || taken rs full)) (struct ++ choose (has_module m nested) module_sights []) []) (message_sights rs base set proto3 fs scope following)
      (choose_case (Every (Well set)) (not (m.map_entry || taken rs full))
      (λ _.
      every_append (Well set) struct (choose (has_module m nested) module_sights []) (well_struct proto3 fs scope full m nested)
      (choose_case (Every (Well set)) (has_module m nested)
      (λ _. (
        tt,
        every_append (Well set) inner (enums ++ oneofs) (well_messages proto3 inside full nested (λ e i. in_set e (Memᴰ.tail (Memᴰ.append_left (entries scope following) i))))
            (every_append (Well set) enums oneofs (well_enums inside full m.enums) (every_of (Well set) oneof (oneof_fields m nested) (every_mem (λ (x : OneofField). Every (Well set) (oneof x)) (oneof_fields m nested) (λ x i. well_oneof inside full m nested (in_set (record { full = full; message = m }) (Memᴰ.head refl)) x i)))),
      ))
      (λ _. tt)))
      (λ _. tt))
      (well_messages proto3 fs scope following (λ e i. in_set e (Memᴰ.tail (Memᴰ.append_right (entries full nested) i))))

pub boxes_labelled : (rs : List Setting) (set : List FileDescriptor) (x : BoxUse) → Memᴰ x (boxes (set_sights rs set)) → Labelled set x
unfolding written_sights
boxes_labelled rs set =
    well_boxes set (set_sights rs set)
    (subst (λ (l : List Sight). Every (Well set) l) (sym (set_sights_are rs set))
    (every_of (Well set) (written_sights rs set) set
    (every_mem (λ (f : FileDescriptor). Every (Well set) (written_sights rs set f)) set
    (λ f i.
    let scope = package_scope f.package_name in
    let proto3 = is_proto3 (syntax_of f.syntax) in
    every_append (Well set) (message_sights rs (file_place f) set proto3 [] scope f.messages) (all_of (enum_sights rs (file_place f) [] scope) f.enums) (well_messages rs (file_place f) set proto3 [] scope f.messages (file_entries_in set f i))
    (well_enums rs (file_place f) set [] scope f.enums)))))
