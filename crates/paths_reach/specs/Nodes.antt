-- The messages of a file, each with its names and what is nested in it: what is seen of all of them. Assumes nothing.
use Rattle.std.specs.Prelude.{◌≡◌, Bool, true, ◌||◌, not}
use Rattle.std.proofs.Math.Path.{refl, ap}
use Rattle.std.proofs.Common.{ap₂, sym, ◌∙◌, subst}
use Rattle.std.proofs.Math.Bool.{false}
use Rattle.std.proofs.Math.Option.{Option, some, none}
use mathlib.Core.List.Memᴰ
use mathlib.Core.List.{List, [], ◌∷◌, ◌++◌, map, Memᴰ, map-append}
use Rattle.base.specs.Choose.{choose, choose_case}
use Rattle.base.specs.Tests.{or_false_left, or_false_right}
use Rattle.base.specs.Lists.{Every, every_append, every_of, every_to, all_of}
use borrow.Author.Tests.{not-true}
use Rattle.ident.specs.Ident.{to_snake}
use Rattle.syntax.specs.Syntax.{syntax_of}
use Rattle.descriptor.specs.Descriptor.{Bytes, Forest, done, node, FieldDescriptor, EnumDescriptor, MessageDescriptor, FileDescriptor}
use Rattle.options.specs.Settings.{Setting}
use Rattle.extern_paths.specs.ExternPaths.{taken}
use Rattle.name_rules.specs.Accessors.{text}
use Rattle.name_rules.specs.FullNames.{◌·◌, package_scope}
use Rattle.code_generator.specs.Piece.{spelt, snake}
use Rattle.code_generator.specs.MapFields.{MapEntry, map_entry_of}
use Rattle.code_generator.specs.Oneofs.{OneofField, plain_fields, oneof_fields}
use Rattle.code_generator.specs.Generate.{has_module, is_proto3}
use Rattle.sights.specs.Sights.{Item, Use, Sight, an_item, Frame, in_module, in_declaration, module_at, place_of, file_place, items}
use Rattle.text_sights.specs.Written.{field_or_map_sights, oneof_field_sights, variant_sights, struct_item, oneof_item, enum_item, struct_sights, oneof_sights, enum_sights, message_sights, written_sights}
use Rattle.paths_reach.specs.Dots.{scope_of, scope_of_names, dotted_package}
use Rattle.paths_reach.specs.Written.{item_of, type_named, oneof_named, enum_nameds, module_nameds, node_nameds, message_nameds, package_names, file_nameds, map_choose, choose_not}
use Rattle.paths_reach.specs.Seen.{Fine, only_fine, no_items, items_append, every_mem, FieldPath, FieldPaths, OneofPath, only_members, only_variants}

-- a message: home has the names of the module around it, the innermost first
pub record Node : Type 0 where
  pub home : List Bytes
  pub message : MessageDescriptor
  pub nested : Forest MessageDescriptor

-- its own names
abbrev pub names_of : Node → List Bytes
names_of n = text n.message.name ∷ n.home

unfoldable pub nodes : List Bytes → Forest MessageDescriptor → List Node
nodes h done = []
nodes h (node m nested following) = record { home = h; message = m; nested = nested } ∷ (nodes (text m.name ∷ h) nested ++ nodes h following)

-- ---- its items
items_choose : (c : Bool) (xs ys : List Sight) → items (choose c xs ys) ≡ choose c (items xs) (items ys)
unfolding choose
items_choose true xs ys = refl
items_choose false xs ys = refl

module _ (rs : List Setting) (base : List Bytes) (set : List FileDescriptor) where
  -- nothing is asked of the paths
  abbrev Any : Use → Type 0
  Any u = Unit

  items_of_enums : (h : List Bytes) (fs : List Frame) → place_of base fs ≡ map to_snake h → (es : List EnumDescriptor)
      → items (all_of (enum_sights rs base fs (scope_of h)) es) ≡ map item_of (enum_nameds rs h es)
  unfolding all_of enum_sights
  items_of_enums h fs stands [] = refl
  items_of_enums h fs stands (e ∷ es) =
      let cover = taken rs (scope_of (text e.name ∷ h)) in
      let here = an_item (enum_item rs base fs (scope_of (text e.name ∷ h)) e) ∷ [] in
      let named = type_named h (text e.name) ∷ [] in
      items_append (choose (not cover) here []) (all_of (enum_sights rs base fs (scope_of h)) es)
      ∙ rw (items_choose (not cover) here [], choose_not cover (items here) [], items_of_enums h fs stands es, map-append item_of (choose cover [] named) (enum_nameds rs h es), map_choose item_of cover [] named, stands) refl

  items_of_oneofs : (h : List Bytes) (fs : List Frame) → place_of base fs ≡ map to_snake h → (xs : List OneofField)
      → items (all_of (oneof_sights rs base set fs (scope_of h)) xs) ≡ map item_of (map (oneof_named h) xs)
  unfolding all_of oneof_sights
  items_of_oneofs h fs stands [] = refl
  items_of_oneofs h fs stands (x ∷ xs) =
      let variants = all_of (variant_sights rs base set (in_declaration (oneof_item rs base fs (scope_of h) x) ∷ fs) (scope_of h) x) x.fields in
      items_append (an_item (oneof_item rs base fs (scope_of h) x) ∷ variants) (all_of (oneof_sights rs base set fs (scope_of h)) xs)
      ∙ rw (no_items Any variants (only_variants rs base Any (place_of base fs) fs refl set (scope_of h) x (λ f k n e gs q. tt)), items_of_oneofs h fs stands xs, stands) refl

  module _ (proto3 : Bool) where
    items_of_struct : (h : List Bytes) (fs : List Frame) → place_of base fs ≡ map to_snake h → (m : MessageDescriptor) (nested : Forest MessageDescriptor)
        → items (struct_sights rs base set proto3 fs (scope_of h) (scope_of (text m.name ∷ h)) m nested) ≡ item_of (type_named h (text m.name)) ∷ []
    unfolding struct_sights
    items_of_struct h fs stands m nested =
        let full = scope_of (text m.name ∷ h) in
        let gs = in_declaration (struct_item rs base fs full m) ∷ fs in
        let members = all_of (λ (f : FieldDescriptor). field_or_map_sights rs base set proto3 gs (scope_of h) full f (map_entry_of full nested f.type_name)) (plain_fields m.fields)
        ++ all_of (λ (x : OneofField). oneof_field_sights rs base gs full (text m.name) x) (oneof_fields m nested) in
        let none_there : items members ≡ [] = no_items Any members (only_members rs base Any (place_of base fs) fs refl set proto3 (scope_of h) full m nested (λ f k. trivial f (map_entry_of full nested f.type_name)) (λ x k gs q. tt)) in
        rw (none_there, stands) refl
      where
        trivial : (f : FieldDescriptor) (e : Option MapEntry) → FieldPaths rs base Any (place_of base fs) (scope_of h) f e
        trivial f none = λ n e gs q. tt
        trivial f (some e) = (λ n e gs q. tt, λ n e gs q. tt)

    items_of_messages : (h : List Bytes) (fs : List Frame) → place_of base fs ≡ map to_snake h → (ms : Forest MessageDescriptor)
        → items (message_sights rs base set proto3 fs (scope_of h) ms) ≡ map item_of (message_nameds rs h ms)
    unfolding message_sights message_nameds
    items_of_messages h fs stands done = refl
    items_of_messages h fs stands (node m nested following) =
        let full = text m.name ∷ h in
        let inside = in_module (spelt (snake (text m.name))) ∷ fs in
        let within : place_of base inside ≡ map to_snake full = ap (λ (l : List Bytes). to_snake (text m.name) ∷ l) stands in
        let left_out = m.map_entry || taken rs (scope_of full) in
        let struct = struct_sights rs base set proto3 fs (scope_of h) (scope_of full) m nested in
        let inner = message_sights rs base set proto3 inside (scope_of full) nested in
        let enums = all_of (enum_sights rs base inside (scope_of full)) m.enums in
        let oneofs = all_of (oneof_sights rs base set inside (scope_of full)) (oneof_fields m nested) in
        let module_sights = an_item (module_at base fs (spelt (snake (text m.name)))) ∷ (inner ++ (enums ++ oneofs)) in
        let names = message_nameds rs full nested in
        let es = enum_nameds rs full m.enums in
        let os = map (oneof_named full) (oneof_fields m nested) in
        let deep : items (inner ++ (enums ++ oneofs)) ≡ map item_of (names ++ (es ++ os)) =
        items_append inner (enums ++ oneofs)
        ∙ rw (items_append enums oneofs, items_of_messages full inside within nested, items_of_enums full inside within m.enums, items_of_oneofs full inside within (oneof_fields m nested), map-append item_of names (es ++ os), map-append item_of es os) refl in
        let here : items (struct ++ choose (has_module m nested) module_sights []) ≡ map item_of (node_nameds rs h m nested names) =
        items_append struct (choose (has_module m nested) module_sights [])
        ∙ rw (items_of_struct h fs stands m nested, items_choose (has_module m nested) module_sights [], deep, map_choose item_of (has_module m nested) (module_nameds rs h m nested names) [], stands) refl in
        items_append (choose (not left_out) (struct ++ choose (has_module m nested) module_sights []) []) (message_sights rs base set proto3 fs (scope_of h) following)
        ∙ rw (items_choose (not left_out) (struct ++ choose (has_module m nested) module_sights []) [], choose_not left_out (items (struct ++ choose (has_module m nested) module_sights [])) [], here, items_of_messages h fs stands following, map-append item_of (choose left_out [] (node_nameds rs h m nested names)) (message_nameds rs h following), map_choose item_of left_out [] (node_nameds rs h m nested names)) refl

-- what is seen in the text of a file
pub items_of_file : (rs : List Setting) (set : List FileDescriptor) (f : FileDescriptor) → items (written_sights rs set f) ≡ map item_of (file_nameds rs f)
unfolding written_sights file_nameds
items_of_file rs set f =
    let scope = package_scope f.package_name in
    let h = package_names f in
    let proto3 = is_proto3 (syntax_of f.syntax) in
    let named : scope_of h ≡ scope = scope_of_names (dotted_package f.package_name) in
    items_append (message_sights rs (file_place f) set proto3 [] scope f.messages) (all_of (enum_sights rs (file_place f) [] scope) f.enums)
    ∙ ap₂ (λ (x y : List Item). x ++ y)
    (ap (λ (s : Bytes). items (message_sights rs (file_place f) set proto3 [] s f.messages)) (sym named) ∙ items_of_messages rs (file_place f) set proto3 h [] refl f.messages)
    (ap (λ (s : Bytes). items (all_of (enum_sights rs (file_place f) [] s) f.enums)) (sym named) ∙ items_of_enums rs (file_place f) set h [] refl f.enums)
    ∙ sym (map-append item_of (message_nameds rs h f.messages) (enum_nameds rs h f.enums))

-- ---- its paths
module _ (rs : List Setting) (base : List Bytes) (P : Use → Type 0) where
  -- what is asked of the paths of a message's struct and oneofs
  pub record NodePaths (n : Node) : Type 0 where
    pub fields : (f : FieldDescriptor) → Memᴰ f (plain_fields n.message.fields)
        → FieldPaths rs base P (map to_snake n.home) (scope_of n.home) f (map_entry_of (scope_of (names_of n)) n.nested f.type_name)
    pub oneofs : (x : OneofField) → Memᴰ x (oneof_fields n.message n.nested) → OneofPath rs base P (map to_snake n.home) (scope_of (names_of n)) (text n.message.name) x
    pub variants : (x : OneofField) → Memᴰ x (oneof_fields n.message n.nested) → (f : FieldDescriptor) → Memᴰ f x.fields
        → FieldPath rs base P (map to_snake (names_of n)) (scope_of (names_of n)) f

  module _ (set : List FileDescriptor) where
    fine_enums : (fs : List Frame) (scope : Bytes) (es : List EnumDescriptor) → Every (Fine P) (all_of (enum_sights rs base fs scope) es)
    unfolding all_of enum_sights
    fine_enums fs scope [] = tt
    fine_enums fs scope (e ∷ es) =
        every_append (Fine P) (enum_sights rs base fs scope e) (all_of (enum_sights rs base fs scope) es)
        (choose_case (Every (Fine P)) (not (taken rs (scope · text e.name))) (λ _. (tt, tt)) (λ _. tt)) (fine_enums fs scope es)

    fine_oneofs : (h : List Bytes) (fs : List Frame) → place_of base fs ≡ map to_snake h → (xs : List OneofField)
        → ((x : OneofField) → Memᴰ x xs → (f : FieldDescriptor) → Memᴰ f x.fields → FieldPath rs base P (map to_snake h) (scope_of h) f)
        → Every (Fine P) (all_of (oneof_sights rs base set fs (scope_of h)) xs)
    unfolding oneof_sights
    fine_oneofs h fs stands xs k =
        every_of (Fine P) (oneof_sights rs base set fs (scope_of h)) xs
        (every_mem (λ (x : OneofField). Every (Fine P) (oneof_sights rs base set fs (scope_of h) x)) xs
        (λ x m. let variants = all_of (variant_sights rs base set (in_declaration (oneof_item rs base fs (scope_of h) x) ∷ fs) (scope_of h) x) x.fields in
        (tt, every_to (only_fine P) variants (only_variants rs base P (map to_snake h) fs stands set (scope_of h) x (k x m)))))

    module _ (proto3 : Bool) where
      fine_struct : (h : List Bytes) (fs : List Frame) → place_of base fs ≡ map to_snake h → (m : MessageDescriptor) (nested : Forest MessageDescriptor)
          → NodePaths (record { home = h; message = m; nested = nested })
          → Every (Fine P) (struct_sights rs base set proto3 fs (scope_of h) (scope_of (text m.name ∷ h)) m nested)
      unfolding struct_sights
      fine_struct h fs stands m nested k =
          let full = scope_of (text m.name ∷ h) in
          let gs = in_declaration (struct_item rs base fs full m) ∷ fs in
          let members = all_of (λ (f : FieldDescriptor). field_or_map_sights rs base set proto3 gs (scope_of h) full f (map_entry_of full nested f.type_name)) (plain_fields m.fields)
          ++ all_of (λ (x : OneofField). oneof_field_sights rs base gs full (text m.name) x) (oneof_fields m nested) in
          (tt, every_to (only_fine P) members (only_members rs base P (map to_snake h) fs stands set proto3 (scope_of h) full m nested k.fields k.oneofs))

      -- of the messages that are written
      fine_messages : (h : List Bytes) (fs : List Frame) → place_of base fs ≡ map to_snake h → (ms : Forest MessageDescriptor)
          → ((n : Node) → Memᴰ n (nodes h ms) → n.message.map_entry ≡ false → taken rs (scope_of (names_of n)) ≡ false → NodePaths n)
          → Every (Fine P) (message_sights rs base set proto3 fs (scope_of h) ms)
      unfolding message_sights nodes
      fine_messages h fs stands done k = tt
      fine_messages h fs stands (node m nested following) k =
          let full = text m.name ∷ h in
          let inside = in_module (spelt (snake (text m.name))) ∷ fs in
          let within : place_of base inside ≡ map to_snake full = ap (λ (l : List Bytes). to_snake (text m.name) ∷ l) stands in
          let struct = struct_sights rs base set proto3 fs (scope_of h) (scope_of full) m nested in
          let inner = message_sights rs base set proto3 inside (scope_of full) nested in
          let enums = all_of (enum_sights rs base inside (scope_of full)) m.enums in
          let oneofs = all_of (oneof_sights rs base set inside (scope_of full)) (oneof_fields m nested) in
          let module_sights = an_item (module_at base fs (spelt (snake (text m.name)))) ∷ (inner ++ (enums ++ oneofs)) in
          every_append (Fine P) (choose (not (m.map_entry || taken rs (scope_of full))) (struct ++ choose (has_module m nested) module_sights []) []) (message_sights rs base set proto3 fs (scope_of h) following)
          (choose_case (Every (Fine P)) (not (m.map_entry || taken rs (scope_of full)))
          (λ e. let is : (m.map_entry || taken rs (scope_of full)) ≡ false = not-true (m.map_entry || taken rs (scope_of full)) e in
          let here = k (record { home = h; message = m; nested = nested }) (Memᴰ.head refl) (or_false_left m.map_entry (taken rs (scope_of full)) is) (or_false_right m.map_entry (taken rs (scope_of full)) is) in
          every_append (Fine P) struct (choose (has_module m nested) module_sights []) (fine_struct h fs stands m nested here)
          (choose_case (Every (Fine P)) (has_module m nested)
          (λ _. (
            tt,
            every_append (Fine P) inner (enums ++ oneofs) (fine_messages full inside within nested (λ n i. k n (Memᴰ.tail (Memᴰ.append_left (nodes h following) i))))
                (every_append (Fine P) enums oneofs (fine_enums inside (scope_of full) m.enums) (fine_oneofs full inside within (oneof_fields m nested) here.variants)),
          ))
          (λ _. tt)))
          (λ _. tt))
          (fine_messages h fs stands following (λ n i. k n (Memᴰ.tail (Memᴰ.append_right (nodes full nested) i))))

abbrev pub file_nodes : FileDescriptor → List Node
file_nodes f = nodes (package_names f) f.messages

pub fine_file : (rs : List Setting) (set : List FileDescriptor) (P : Use → Type 0) (f : FileDescriptor)
    → ((n : Node) → Memᴰ n (file_nodes f) → n.message.map_entry ≡ false → taken rs (scope_of (names_of n)) ≡ false → NodePaths rs (file_place f) P n)
    → Every (Fine P) (written_sights rs set f)
unfolding written_sights
fine_file rs set P f k =
    let scope = package_scope f.package_name in
    let h = package_names f in
    let proto3 = is_proto3 (syntax_of f.syntax) in
    let named : scope_of h ≡ scope = scope_of_names (dotted_package f.package_name) in
    every_append (Fine P) (message_sights rs (file_place f) set proto3 [] scope f.messages) (all_of (enum_sights rs (file_place f) [] scope) f.enums)
    (subst (λ (s : Bytes). Every (Fine P) (message_sights rs (file_place f) set proto3 [] s f.messages)) named (fine_messages rs (file_place f) P set proto3 h [] refl f.messages k))
    (fine_enums rs (file_place f) P set [] scope f.enums)
