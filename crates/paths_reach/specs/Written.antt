-- What stands in the modules of a set, said of its descriptors: it has the places of the name check, and is what is seen in the texts.
-- Assumes nothing.
use Rattle.std.specs.Prelude.{◌≡◌, Bool, true, false, ◌||◌, not}
use Rattle.std.proofs.Math.Path.{refl}
use Rattle.std.proofs.Common.{◌∙◌}
use Rattle.std.proofs.Math.Option.{Option, some, none}
use mathlib.Core.List.{List, [], ◌∷◌, ◌++◌, map, reverse, map-append, map-map}
use Rattle.base.specs.Choose.{choose}
use Rattle.ident.specs.Ident.{to_snake, to_upper_camel}
use Rattle.descriptor.specs.Descriptor.{Bytes, Forest, done, node, EnumDescriptor, MessageDescriptor, FileDescriptor}
use Rattle.options.specs.Settings.{Setting}
use Rattle.extern_paths.specs.ExternPaths.{taken}
use Rattle.name_rules.specs.Accessors.{text}
use Rattle.name_rules.specs.FullNames.{package_scope}
use Rattle.code_generator.specs.Piece.{Ref, type, choice, spelt}
use Rattle.code_generator.specs.Resolve.{local_path}
use Rattle.code_generator.specs.Oneofs.{OneofField, oneof_fields, type_name}
use Rattle.code_generator.specs.Generate.{has_module}
use Rattle.name_check.specs.NameCheck.{Place, oneof_places, enum_places, message_places, file_places}
use Rattle.sights.specs.Sights.{Item}
use Rattle.paths_reach.specs.Dots.{scope_of, scope_of_names, dotted_package}

-- a module, with its name in the set; a declaration
pub data What : Type 0 where
  a_module : Bytes → What
  a_declaration : Ref → What

-- it stands in a module: home has the names of the set, the innermost first
pub record Named : Type 0 where
  pub home : List Bytes
  pub name : Bytes
  pub what : What

abbrev pub is_module_of : What → Bool
is_module_of (a_module n) = true
is_module_of (a_declaration r) = false

abbrev pub mark_of : What → Option Ref
mark_of (a_module n) = none
mark_of (a_declaration r) = some r

-- as it is seen, and in the name check
abbrev pub item_of : Named → Item
item_of n = record { place = map to_snake n.home; name = n.name; is_module = is_module_of n.what; mark = mark_of n.what }

abbrev pub place_in : Named → Place
place_in n = record { home = scope_of n.home; name = n.name }

abbrev pub module_named : List Bytes → Bytes → Named
module_named h x = record { home = h; name = to_snake x; what = a_module x }

abbrev pub type_named : List Bytes → Bytes → Named
type_named h x = record { home = h; name = to_upper_camel x; what = a_declaration (type (scope_of (x ∷ h))) }

abbrev pub oneof_named : List Bytes → OneofField → Named
oneof_named h x = record { home = h; name = spelt (type_name x); what = a_declaration (choice (scope_of h) x.name) }

-- the names of a file's package
abbrev pub package_names : FileDescriptor → List Bytes
package_names f = reverse (local_path (package_scope f.package_name))

module _ (rs : List Setting) where
  abbrev pub enum_nameds : List Bytes → List EnumDescriptor → List Named
  enum_nameds h [] = []
  enum_nameds h (e ∷ es) = choose (taken rs (scope_of (text e.name ∷ h))) [] (type_named h (text e.name) ∷ []) ++ enum_nameds h es

  -- a message's module and what stands there, given the names of what is nested
  abbrev pub module_nameds : List Bytes → MessageDescriptor → Forest MessageDescriptor → List Named → List Named
  module_nameds h m nested inner =
      module_named h (text m.name)
      ∷ (inner ++ (enum_nameds (text m.name ∷ h) m.enums ++ map (oneof_named (text m.name ∷ h)) (oneof_fields m nested)))

  abbrev pub node_nameds : List Bytes → MessageDescriptor → Forest MessageDescriptor → List Named → List Named
  node_nameds h m nested inner = type_named h (text m.name) ∷ choose (has_module m nested) (module_nameds h m nested inner) []

  unfoldable pub message_nameds : List Bytes → Forest MessageDescriptor → List Named
  message_nameds h done = []
  message_nameds h (node m nested following) =
      choose (m.map_entry || taken rs (scope_of (text m.name ∷ h))) [] (node_nameds h m nested (message_nameds (text m.name ∷ h) nested))
      ++ message_nameds h following

  unfoldable pub file_nameds : FileDescriptor → List Named
  file_nameds f = message_nameds (package_names f) f.messages ++ enum_nameds (package_names f) f.enums

-- ---- lists
pub map_choose : {A B : Type 0} (f : A → B) (c : Bool) (xs ys : List A) → map f (choose c xs ys) ≡ choose c (map f xs) (map f ys)
unfolding choose
map_choose f true xs ys = refl
map_choose f false xs ys = refl

pub choose_not : {A : Type 0} (c : Bool) (x y : A) → choose (not c) x y ≡ choose c y x
unfolding choose
choose_not true x y = refl
choose_not false x y = refl

-- ---- the name check's places
module _ (rs : List Setting) where
  places_of_enums : (h : List Bytes) (es : List EnumDescriptor) → map place_in (enum_nameds rs h es) ≡ enum_places rs (scope_of h) es
  unfolding enum_places
  places_of_enums h [] = refl
  places_of_enums h (e ∷ es) =
      map-append place_in (choose (taken rs (scope_of (text e.name ∷ h))) [] (type_named h (text e.name) ∷ [])) (enum_nameds rs h es)
      ∙ rw (map_choose place_in (taken rs (scope_of (text e.name ∷ h))) [] (type_named h (text e.name) ∷ []), places_of_enums h es) refl

  places_of_messages : (h : List Bytes) (ms : Forest MessageDescriptor) → map place_in (message_nameds rs h ms) ≡ message_places rs (scope_of h) ms
  unfolding message_nameds message_places
  places_of_messages h done = refl
  places_of_messages h (node m nested following) =
      let full = text m.name ∷ h in
      let inner = message_nameds rs full nested in
      let es = enum_nameds rs full m.enums in
      let os = map (oneof_named full) (oneof_fields m nested) in
      let inside : map place_in (inner ++ (es ++ os)) ≡ message_places rs (scope_of full) nested ++ (enum_places rs (scope_of full) m.enums ++ oneof_places (scope_of full) (oneof_fields m nested)) =
      map-append place_in inner (es ++ os)
      ∙ rw (map-append place_in es os, places_of_messages full nested, places_of_enums full m.enums, map-map place_in (oneof_named full) (oneof_fields m nested)) refl in
      map-append place_in (choose (m.map_entry || taken rs (scope_of full)) [] (node_nameds rs h m nested inner)) (message_nameds rs h following)
      ∙ rw (map_choose place_in (m.map_entry || taken rs (scope_of full)) [] (node_nameds rs h m nested inner), map_choose place_in (has_module m nested) (module_nameds rs h m nested inner) [], inside, places_of_messages h following) refl

  pub places_of_file : (f : FileDescriptor) → map place_in (file_nameds rs f) ≡ file_places rs f
  unfolding file_nameds file_places
  places_of_file f =
      map-append place_in (message_nameds rs (package_names f) f.messages) (enum_nameds rs (package_names f) f.enums)
      ∙ rw (places_of_messages (package_names f) f.messages, places_of_enums (package_names f) f.enums, scope_of_names (dotted_package f.package_name)) refl
