-- Clause 4 of demand 3: in a group-free set without refusals 6 and 7, and with no boxed setting, Box stands in the texts exactly at the written
-- singular message fields whose type leads back to their own message.
use Rattle.std.specs.Prelude.{ℕ, ◌+◌, ◌≡◌, Bool, ◌&&◌, ◌||◌, eqb, Ok}
use Rattle.std.proofs.Math.Path.{refl, ap, subst}
use Rattle.std.proofs.Common.{sym, ◌∙◌}
use Rattle.std.proofs.Math.Bool.{true, false, not}
use Rattle.std.proofs.Math.Option.{Option, some, none}
use mathlib.Core.List.Memᴰ
use mathlib.Core.List.{List, [], ◌∷◌, ◌++◌, map, append-nil, Memᴰ, map-append}
use Rattle.std.proofs.lemmas.Bool.{not-true}
use Rattle.base.specs.Choose.{choose, choose_case}
use Rattle.base.specs.Tests.{both_ways, and_left, and_right, or_false_left, or_false_right}
use Rattle.base.specs.Lists.{all, all_of, is_empty}
use Rattle.syntax.specs.Syntax.{syntax_of}
use Rattle.descriptor.specs.Descriptor.{Bytes, Forest, done, node, FieldDescriptor, EnumDescriptor, MessageDescriptor, FileDescriptor}
use Rattle.options.specs.Settings.{Setting}
use Rattle.path.specs.Forms.{sub_path_iter}
use Rattle.path.specs.PathMap.{first_with, find_best}
use Rattle.extern_paths.specs.ExternPaths.{taken}
use Rattle.name_rules.specs.Accessors.{text, is_repeated, is_message, is_group}
use Rattle.name_rules.specs.FullNames.{◌·◌, package_scope}
use Rattle.name_rules.specs.Answer.{names}
use Rattle.context.specs.MessageGraph.{is_nested}
use Rattle.context.specs.Context.{has, should_box}
use Rattle.code_generator.specs.Piece.{Owned, snake, camel, spelt, box}
use Rattle.code_generator.specs.Fields.{optional}
use Rattle.code_generator.specs.MapFields.{MapEntry, map_entry_of}
use Rattle.code_generator.specs.Oneofs.{OneofField, plain_fields, oneof_fields}
use Rattle.code_generator.specs.Generate.{has_nested_types, has_module, is_proto3}
use Rattle.sights.specs.Sights.{Item, Label, BoxUse, Sight, an_item, a_path, a_box, Frame, in_module, in_declaration, in_field, field_of, box_seen, module_at, file_place, set_sights, boxes}
use Rattle.text_sights.specs.Written.{names_struct, names_enum, label_of, in_shape, in_box, box_sights, ident_sights, type_sights, tag_sights, field_sights, map_sights, variant_sights, oneof_field_sights, field_or_map_sights, struct_item, oneof_item, struct_sights, oneof_sights, enum_sights, message_sights, written_sights}
use Rattle.text_sights.proofs.TextReads.{set_sights_are}
use Rattle.paths_reach.specs.Reach.{those}
use Rattle.paths_reach.specs.Dots.{scope_of, scope_of_names, dotted_package}
use Rattle.paths_reach.specs.Written.{package_names}
use Rattle.paths_reach.specs.Nodes.{Node, names_of, nodes}
use Rattle.paths_reach.proofs.PathsReach.{plain_mem, at_mem, oneof_at}
use Rattle.walks_end.specs.Walks.{group_free}
use Rattle.walks_end.specs.BoxedFields.{no_boxed_setting, owned, written_in, written_fields, leads_back, label_mark, boxed_field}
use Rattle.walks_end.proofs.Facts.{FineField, FineMessage, fine_message}

-- ---- no row of kind 4
none_with : (form : Bytes) (i : ℕ) (rs : List Setting) → no_boxed_setting rs ≡ true → (first_with 4 form i rs).found ≡ false
unfolding first_with no_boxed_setting all choose
none_with form i [] h = refl
none_with form i (r ∷ rs) h =
    let first : eqb r.kind 4 ≡ false = not-true (eqb r.kind 4) (and_left (not (eqb r.kind 4)) (no_boxed_setting rs) h) in
    rw first (none_with form (i + 1) rs (and_right (not (eqb r.kind 4)) (no_boxed_setting rs) h))

none_found : (forms : List Bytes) (rs : List Setting) → no_boxed_setting rs ≡ true → (find_best 4 forms 0 rs).found ≡ false
unfolding find_best choose
none_found [] rs h = refl
none_found (f ∷ forms) rs h = rw (none_with f 0 rs h) (none_found forms rs h)

no_setting : (rs : List Setting) → no_boxed_setting rs ≡ true → (path : Bytes) → has rs 4 path ≡ false
no_setting rs h path = none_found (sub_path_iter path) rs h

-- ---- the Boxes among what is seen are at those fields that pass a test
those_append : {A : Type 0} (p : A → Bool) (xs ys : List A) → those p (xs ++ ys) ≡ those p xs ++ those p ys
unfolding those choose
those_append p [] ys = refl
those_append {A} p (x ∷ xs) ys = ap {B = List A} (λ (l : List A). choose (p x) (x ∷ l) l) (those_append p xs ys) ∙ turn (p x)
  where
    turn : (t : Bool) → choose t (x ∷ (those p xs ++ those p ys)) (those p xs ++ those p ys) ≡ choose t (x ∷ those p xs) (those p xs) ++ those p ys
    turn true = refl
    turn false = refl

boxes_append : (xs ys : List Sight) → boxes (xs ++ ys) ≡ boxes xs ++ boxes ys
boxes_append [] ys = refl
boxes_append (an_item i ∷ xs) ys = boxes_append xs ys
boxes_append (a_path u ∷ xs) ys = boxes_append xs ys
boxes_append (a_box x ∷ xs) ys = ap {B = List BoxUse} (λ (l : List BoxUse). x ∷ l) (boxes_append xs ys)

module _ (p : Owned → Bool) where
  record BoxedAt (ss : List Sight) (os : List Owned) : Type 0 where
    is : map boxed_field (boxes ss) ≡ map some (those p os)

  none_boxed : BoxedAt [] []
  unfolding those
  none_boxed = record { is = refl }

  infixl 60 ◌then◌
  ◌then◌ : {ss ts : List Sight} {os us : List Owned} → BoxedAt ss os → BoxedAt ts us → BoxedAt (ss ++ ts) (os ++ us)
  ◌then◌ {ss} {ts} {os} {us} x y = record {
    is =
        ap (map boxed_field) (boxes_append ss ts)
        ∙ map-append boxed_field (boxes ss) (boxes ts)
        ∙ rw (x.is, y.is) (sym (map-append some (those p os) (those p us)))
        ∙ ap (map some) (sym (those_append p os us));
  }

  ◌then_none◌ : {ss ts : List Sight} {os : List Owned} → BoxedAt ss os → BoxedAt ts [] → BoxedAt (ss ++ ts) os
  ◌then_none◌ {ss} {ts} {os} x y = subst (λ (l : List Owned). BoxedAt (ss ++ ts) l) (append-nil os) (x then y)

  boxed_all : {A : Type 0} (g : A → List Sight) (k : A → List Owned) (xs : List A) → ((x : A) → Memᴰ x xs → BoxedAt (g x) (k x)) → BoxedAt (all_of g xs) (all_of k xs)
  unfolding all_of
  boxed_all g k [] h = none_boxed
  boxed_all g k (x ∷ xs) h = h x (Memᴰ.head refl) then boxed_all g k xs (λ y m. h y (Memᴰ.tail m))

  boxed_map : {A : Type 0} (g : A → List Sight) (k : A → Owned) (xs : List A) → ((x : A) → Memᴰ x xs → BoxedAt (g x) (k x ∷ [])) → BoxedAt (all_of g xs) (map k xs)
  unfolding all_of
  boxed_map g k [] h = none_boxed
  boxed_map g k (x ∷ xs) h = h x (Memᴰ.head refl) then boxed_map g k xs (λ y m. h y (Memᴰ.tail m))

  boxed_none : {A : Type 0} (g : A → List Sight) (xs : List A) → ((x : A) → Memᴰ x xs → BoxedAt (g x) []) → BoxedAt (all_of g xs) []
  unfolding all_of
  boxed_none g [] h = none_boxed
  boxed_none g (x ∷ xs) h = h x (Memᴰ.head refl) then boxed_none g xs (λ y m. h y (Memᴰ.tail m))

  -- an item is no Box
  behind_item : {i : Item} {ss : List Sight} {os : List Owned} → BoxedAt ss os → BoxedAt (an_item i ∷ ss) os
  behind_item x = record { is = x.is }

  -- a field fails the test
  not_boxed : {ss : List Sight} (o : Owned) → p o ≡ false → BoxedAt ss [] → BoxedAt ss (o ∷ [])
  unfolding those choose
  not_boxed o e x = record { is = x.is ∙ rw e refl }

  -- or its Box stands there if it passes it
  one_boxed : (o : Owned) (gs : List Frame) → label_mark (field_of gs) ≡ some o → BoxedAt (box_sights (p o) gs) (o ∷ [])
  unfolding those choose
  one_boxed o gs e = record { is = go (p o) }
    where
      go : (t : Bool) → map boxed_field (boxes (choose t (box_seen box gs) [])) ≡ map some (choose t (o ∷ []) [])
      go true = ap {B = List (Option Owned)} (λ (x : Option Owned). x ∷ []) e
      go false = refl

module _ (rs : List Setting) (base : List Bytes) (set : List FileDescriptor) (p : Owned → Bool) where
  -- ---- paths
  no_box_tag : (gs : List Frame) (scope : Bytes) (f : FieldDescriptor) → BoxedAt p (tag_sights rs base gs scope f) []
  unfolding tag_sights ident_sights those
  no_box_tag gs scope f =
      choose_case (λ (l : List Sight). BoxedAt p l []) (names_enum f) (λ _. choose_case (λ (l : List Sight). BoxedAt p l []) (taken rs (text f.type_name)) (λ _. none_boxed p) (λ _. record { is = refl })) (λ _. none_boxed p)

  no_box_type : (gs : List Frame) (scope : Bytes) (f : FieldDescriptor) → BoxedAt p (type_sights rs base gs scope f) []
  unfolding type_sights ident_sights those
  no_box_type gs scope f =
      choose_case (λ (l : List Sight). BoxedAt p l []) (names_struct f) (λ _. choose_case (λ (l : List Sight). BoxedAt p l []) (taken rs (text f.type_name)) (λ _. none_boxed p) (λ _. record { is = refl })) (λ _. none_boxed p)

  no_box_enums : (fs : List Frame) (scope : Bytes) (es : List EnumDescriptor) → BoxedAt p (all_of (enum_sights rs base fs scope) es) []
  unfolding enum_sights those
  no_box_enums fs scope es =
      boxed_none p (enum_sights rs base fs scope) es
      (λ e _. choose_case (λ (l : List Sight). BoxedAt p l []) (not (taken rs (scope · text e.name))) (λ _. record { is = refl }) (λ _. none_boxed p))

  -- ---- fields and variants
  module _ (fs : List Frame) (scope full : Bytes) (f : FieldDescriptor) where
    shape_field : (proto3 : Bool) (l : Label) → field_of (in_shape proto3 f (in_field l ∷ fs)) ≡ some l
    shape_field proto3 l =
        choose_case (λ (gs : List Frame). field_of gs ≡ some l) (is_repeated f) (λ _. refl)
        (λ _. choose_case (λ (gs : List Frame). field_of gs ≡ some l) (optional proto3 f) (λ _. refl) (λ _. refl))

    box_of_field : (proto3 : Bool) → should_box rs set full full f ≡ p (owned full f) → BoxedAt p (field_sights rs base set proto3 fs scope full f) (owned full f ∷ [])
    unfolding field_sights
    box_of_field proto3 e =
        let l = label_of full f (snake (text f.name)) in
        let inside = in_shape proto3 f (in_field l ∷ fs) in
        ◌then◌ p (no_box_tag fs scope f)
        (◌then_none◌ p (subst (λ (t : Bool). BoxedAt p (box_sights t inside) (owned full f ∷ [])) (sym e) (one_boxed p (owned full f) inside (ap label_mark (shape_field proto3 l))))
        (no_box_type (in_box (should_box rs set full full f) inside) scope f))

    box_of_map : (e : MapEntry) → p (owned full f) ≡ false → BoxedAt p (map_sights rs base fs scope full f e) (owned full f ∷ [])
    unfolding map_sights
    box_of_map e fails =
        not_boxed p (owned full f) fails
        (◌then◌ p (◌then◌ p (no_box_tag fs scope e.key) (no_box_tag fs scope e.value)) (◌then◌ p (no_box_type _ scope e.key) (no_box_type _ scope e.value)))

    box_of_field_or_map : (proto3 : Bool) (e : Option MapEntry) → should_box rs set full full f ≡ p (owned full f) → ((m : MapEntry) → e ≡ some m → p (owned full f) ≡ false)
        → BoxedAt p (field_or_map_sights rs base set proto3 fs scope full f e) (owned full f ∷ [])
    box_of_field_or_map proto3 none e fails = box_of_field proto3 e
    box_of_field_or_map proto3 (some m) e fails = box_of_map m (fails m refl)

  box_of_variant : (fs : List Frame) (full : Bytes) (x : OneofField) (f : FieldDescriptor) → should_box rs set full (full · x.name) f ≡ p (owned full f)
      → BoxedAt p (variant_sights rs base set fs full x f) (owned full f ∷ [])
  unfolding variant_sights
  box_of_variant fs full x f e =
      let l = label_of full f (camel (text f.name)) in
      ◌then◌ p (no_box_tag fs full f)
      (◌then_none◌ p (subst (λ (t : Bool). BoxedAt p (box_sights t (in_field l ∷ fs)) (owned full f ∷ [])) (sym e) (one_boxed p (owned full f) (in_field l ∷ fs) refl))
      (no_box_type (in_box (should_box rs set full (full · x.name) f) (in_field l ∷ fs)) full f))

-- ---- should_box without a setting
box_is : (message group repeated nested set : Bool) → group ≡ false → set ≡ false → choose repeated false (choose ((message || group) && nested) true set) ≡ ((message && not repeated) && nested)
unfolding choose
box_is true false true nested false g s = refl
box_is true false false true false g s = refl
box_is true false false false false g s = refl
box_is false false true nested false g s = refl
box_is false false false nested false g s = refl
box_is message true repeated nested set g s = both_ways refl g
box_is message false repeated nested true g s = both_ways refl s

repeated_fails : (message repeated nested : Bool) → repeated ≡ true → ((message && not repeated) && nested) ≡ false
repeated_fails true true nested r = refl
repeated_fails false true nested r = refl
repeated_fails message false nested r = both_ways r refl

-- nothing is written in a message without a module
module _ (rs : List Setting) where
  no_nested : (scope : Bytes) (ms : Forest MessageDescriptor) → has_nested_types ms ≡ false → written_in rs scope ms ≡ []
  unfolding has_nested_types written_in choose
  no_nested scope done h = refl
  no_nested scope (node m nested following) h = go m.map_entry (no_nested scope following) h
    where
      go : (t : Bool) → (has_nested_types following ≡ false → written_in rs scope following ≡ []) → (not t || has_nested_types following) ≡ false
          → let full = scope · text m.name in
          choose (t || taken rs full) [] (map (owned full) (plain_fields m.fields) ++ (written_in rs full nested ++ all_of (λ (x : OneofField). map (owned full) x.fields) (oneof_fields m nested))) ++ written_in rs scope following ≡ []
      go true rest q = rest q
      go false rest q = both_ways refl q

  empty_is : {A : Type 0} (xs : List A) → not (is_empty xs) ≡ false → xs ≡ []
  empty_is [] h = refl
  empty_is (x ∷ xs) h = both_ways refl h

  no_module : (full : Bytes) (m : MessageDescriptor) (nested : Forest MessageDescriptor) → has_module m nested ≡ false
      → [] ≡ written_in rs full nested ++ all_of (λ (x : OneofField). map (owned full) x.fields) (oneof_fields m nested)
  unfolding all_of
  no_module full m nested h =
      let rest : (has_nested_types nested || not (is_empty (oneof_fields m nested))) ≡ false = or_false_right (not (is_empty m.enums)) (has_nested_types nested || not (is_empty (oneof_fields m nested))) h in
      rw (no_nested full nested (or_false_left (has_nested_types nested) (not (is_empty (oneof_fields m nested))) rest), empty_is (oneof_fields m nested) (or_false_right (has_nested_types nested) (not (is_empty (oneof_fields m nested))) rest)) refl

module _ (rs : List Setting) (base : List Bytes) (set : List FileDescriptor) (unset : no_boxed_setting rs ≡ true) where
  abbrev back : Owned → Bool
  back = leads_back set

  abbrev Boxed : List Sight → List Owned → Type 0
  Boxed = BoxedAt (leads_back set)

  box_back : (full at : Bytes) (f : FieldDescriptor) → FineField set full f → should_box rs set full at f ≡ leads_back set (owned full f)
  unfolding should_box
  box_back full at f fine =
      box_is (is_message f) (is_group f) (is_repeated f) (is_nested set (text f.type_name) full) (has rs 4 (at · text f.name)) fine.no_group (no_setting rs unset (at · text f.name))

  -- ---- declarations
  boxed_struct : (fs : List Frame) (proto3 : Bool) (n : Node) → FineMessage set n
      → Boxed (struct_sights rs base set proto3 fs (scope_of n.home) (scope_of (names_of n)) n.message n.nested) (map (owned (scope_of (names_of n))) (plain_fields n.message.fields))
  unfolding struct_sights oneof_field_sights those
  boxed_struct fs proto3 n fine =
      let full = scope_of (names_of n) in
      let gs = in_declaration (struct_item rs base fs full n.message) ∷ fs in
      behind_item back
      (◌then_none◌ back
      (boxed_map back (λ (f : FieldDescriptor). field_or_map_sights rs base set proto3 gs (scope_of n.home) full f (map_entry_of full n.nested f.type_name)) (owned full) (plain_fields n.message.fields)
      (λ f k.
      let i = plain_mem f n.message.fields k in
      box_of_field_or_map rs base set back gs (scope_of n.home) full f proto3 (map_entry_of full n.nested f.type_name) (box_back full full f (fine.fields f i))
      (λ e q. repeated_fails (is_message f) (is_repeated f) (is_nested set (text f.type_name) full) (fine.maps f i e q))))
      (boxed_none back (λ (x : OneofField). oneof_field_sights rs base gs full (text n.message.name) x) (oneof_fields n.message n.nested) (λ x k. record { is = refl })))

  boxed_oneof : (fs : List Frame) (n : Node) → FineMessage set n → (x : OneofField) → Memᴰ x (oneof_fields n.message n.nested)
      → Boxed (oneof_sights rs base set fs (scope_of (names_of n)) x) (map (owned (scope_of (names_of n))) x.fields)
  unfolding oneof_sights
  boxed_oneof fs n fine x k =
      let full = scope_of (names_of n) in
      behind_item back
      (boxed_map back (variant_sights rs base set (in_declaration (oneof_item rs base fs full x) ∷ fs) full x) (owned full) x.fields
      (λ f l.
      let (index, is) = oneof_at n.message n.nested 0 n.message.oneofs x k in
      let own = at_mem index f n.message.fields (subst (λ (z : List FieldDescriptor). Memᴰ f z) is l) in
      box_of_variant rs base set back (in_declaration (oneof_item rs base fs full x) ∷ fs) full x f (box_back full (full · x.name) f (fine.fields f own.0))))

  -- ---- messages
  boxed_choice : (t : Bool) {ss : List Sight} {os : List Owned} → Boxed ss os → Boxed (choose (not t) ss []) (choose t [] os)
  unfolding choose
  boxed_choice true x = none_boxed back
  boxed_choice false x = x

  boxed_messages : (proto3 : Bool) (h : List Bytes) (fs : List Frame) (ms : Forest MessageDescriptor) → ((n : Node) → Memᴰ n (nodes h ms) → FineMessage set n)
      → Boxed (message_sights rs base set proto3 fs (scope_of h) ms) (written_in rs (scope_of h) ms)
  unfolding message_sights nodes written_in
  boxed_messages proto3 h fs done k = none_boxed back
  boxed_messages proto3 h fs (node m nested following) k =
      let full = text m.name ∷ h in
      let n : Node = record { home = h; message = m; nested = nested } in
      let fine = k n (Memᴰ.head refl) in
      let inside = in_module (spelt (snake (text m.name))) ∷ fs in
      let inner = message_sights rs base set proto3 inside (scope_of full) nested in
      let enums = all_of (enum_sights rs base inside (scope_of full)) m.enums in
      let oneofs = all_of (oneof_sights rs base set inside (scope_of full)) (oneof_fields m nested) in
      let fields = written_in rs (scope_of full) nested ++ all_of (λ (x : OneofField). map (owned (scope_of full)) x.fields) (oneof_fields m nested) in
      let in_module_boxes : Boxed (inner ++ (enums ++ oneofs)) fields =
      ◌then◌ back (boxed_messages proto3 full inside nested (λ c i. k c (Memᴰ.tail (Memᴰ.append_left (nodes h following) i))))
      (◌then◌ back (no_box_enums rs base set back inside (scope_of full) m.enums)
      (boxed_all back (oneof_sights rs base set inside (scope_of full)) (λ (x : OneofField). map (owned (scope_of full)) x.fields) (oneof_fields m nested) (λ x i. boxed_oneof inside n fine x i))) in
      let module_boxes : Boxed (choose (has_module m nested) (an_item (module_at base fs (spelt (snake (text m.name)))) ∷ (inner ++ (enums ++ oneofs))) []) fields =
      choose_case (λ (l : List Sight). Boxed l fields) (has_module m nested) (λ _. behind_item back in_module_boxes)
      (λ none_there. subst (λ (l : List Owned). Boxed [] l) (no_module rs (scope_of full) m nested none_there) (none_boxed back)) in
      ◌then◌ back (boxed_choice (m.map_entry || taken rs (scope_of full)) (◌then◌ back (boxed_struct fs proto3 n fine) module_boxes))
      (boxed_messages proto3 h fs following (λ c i. k c (Memᴰ.tail (Memᴰ.append_right (nodes (text m.name ∷ h) nested) i))))

module _ (rs : List Setting) (set : List FileDescriptor) (good : names set ≡ Ok tt) (free : group_free set ≡ true) (unset : no_boxed_setting rs ≡ true) where
  boxed_file : (f : FileDescriptor) → Memᴰ f set → BoxedAt (leads_back set) (written_sights rs set f) (written_in rs (package_scope f.package_name) f.messages)
  unfolding written_sights
  boxed_file f i =
      let scope = package_scope f.package_name in
      let proto3 = is_proto3 (syntax_of f.syntax) in
      ◌then_none◌ (leads_back set)
      (subst (λ (s : Bytes). BoxedAt (leads_back set) (message_sights rs (file_place f) set proto3 [] s f.messages) (written_in rs s f.messages)) (scope_of_names (dotted_package f.package_name))
      (boxed_messages rs (file_place f) set unset proto3 (package_names f) [] f.messages (λ n j. fine_message set good free f i n j)))
      (no_box_enums rs (file_place f) set (leads_back set) [] scope f.enums)

  -- the Boxes of all texts, one after another, are at those of the written fields that lead back
  pub boxes_stand : map boxed_field (boxes (set_sights rs set)) ≡ map some (those (leads_back set) (written_fields rs set))
  unfolding written_fields
  boxes_stand =
      ap (λ (ss : List Sight). map boxed_field (boxes ss)) (set_sights_are rs set)
      ∙ (boxed_all (leads_back set) (written_sights rs set) (λ (f : FileDescriptor). written_in rs (package_scope f.package_name) f.messages) set boxed_file).is
