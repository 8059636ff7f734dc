-- The name check of a set. Document 01's sentences stand quoted beside the definitions. Assumes nothing.
use Rattle.std.specs.Prelude.{Bool, true, ◌||◌, ◌&&◌, not, List, [], ◌∷◌, ◌++◌, map}
use Rattle.base.specs.Bytes.{same}
use Rattle.base.specs.Choose.{choose}
use Rattle.base.specs.Lists.{any, all_of}
use Rattle.ident.specs.Ident.{to_snake, to_upper_camel}
use Rattle.descriptor.specs.Descriptor.{Bytes, Forest, done, node, FieldDescriptor, EnumDescriptor, MessageDescriptor, FileDescriptor}
use Rattle.options.specs.Settings.{Setting}
use Rattle.extern_paths.specs.ExternPaths.{taken}
use Rattle.name_rules.specs.Accessors.{text}
use Rattle.name_rules.specs.FullNames.{◌·◌, package_scope}
use Rattle.code_generator.specs.Piece.{spelt}
use Rattle.code_generator.specs.Resolve.{local_path}
use Rattle.code_generator.specs.Oneofs.{OneofField, plain_fields, oneof_fields, type_name}
use Rattle.code_generator.specs.Generate.{has_module}
use Rattle.code_generator.specs.Refusals.{any_message, overlap}

-- a written name in its module (not the place of a refusal). A module is told by its names in the set: `.a.b` is package a.b's, `.a.b.M` that of its message M, and the
-- empty one the root
pub record Place : Type 0 where
  pub home : Bytes
  pub name : Bytes

-- ---- "Package segments, also of a file with nothing written, are nested modules named by `to_snake`."
-- a module of a package: the module around it, and its segment as the set has it
pub record PackageModule : Type 0 where
  pub home : Bytes
  pub segment : Bytes

-- of a.b these are a in the root and b in `.a`
unfoldable pub modules_in : Bytes → List Bytes → List PackageModule
modules_in home [] = []
modules_in home (x ∷ xs) = record { home = home; segment = x } ∷ modules_in (home · x) xs

abbrev pub file_modules : FileDescriptor → List PackageModule
file_modules f = modules_in [] (local_path (package_scope f.package_name))

-- "A package segment shared by several files is one module." Segments of one snake name, as `A` and `a`, are two
abbrev pub same_module : PackageModule → PackageModule → Bool
same_module m n = same m.home n.home && same m.segment n.segment

unfoldable pub each_once : List PackageModule → List PackageModule
each_once [] = []
each_once (m ∷ ms) = choose (any (same_module m) ms) (each_once ms) (m ∷ each_once ms)

unfoldable pub package_modules : List FileDescriptor → List PackageModule
package_modules fs = each_once (all_of file_modules fs)

abbrev pub module_place : PackageModule → Place
module_place m = record { home = m.home; name = to_snake m.segment }

-- ---- "each module (structs, enums, oneof enums, modules)"; "only what is written counts: no declaration taken by an extern path, no map
-- entry, no oneof left without fields". oneof_fields has no oneof without fields. A module is written for a message that has an enum, a
-- nested message that is no map entry, or a oneof left with fields, also where extern paths take all of them
abbrev pub oneof_places : Bytes → List OneofField → List Place
oneof_places home xs = map (λ (x : OneofField). record { home = home; name = spelt (type_name x) }) xs

module _ (rs : List Setting) where
  unfoldable pub enum_places : Bytes → List EnumDescriptor → List Place
  enum_places home [] = []
  enum_places home (e ∷ es) =
      choose (taken rs (home · text e.name)) [] (record { home = home; name = to_upper_camel (text e.name) } ∷ []) ++ enum_places home es

  -- of the messages that stand in a module, and of all inside them
  unfoldable pub message_places : Bytes → Forest MessageDescriptor → List Place
  message_places home done = []
  message_places home (node m nested following) =
      choose (m.map_entry || taken rs (home · text m.name)) []
      (record { home = home; name = to_upper_camel (text m.name) }
      ∷ choose (has_module m nested)
      (record { home = home; name = to_snake (text m.name) }
      ∷ (message_places (home · text m.name) nested
      ++ (enum_places (home · text m.name) m.enums ++ oneof_places (home · text m.name) (oneof_fields m nested)))) [])
      ++ message_places home following

  unfoldable pub file_places : FileDescriptor → List Place
  file_places f = message_places (package_scope f.package_name) f.messages ++ enum_places (package_scope f.package_name) f.enums

  -- every name of every module
  unfoldable pub places : List FileDescriptor → List Place
  places fs = map module_place (package_modules fs) ++ all_of file_places fs

-- "names differ within each module"
abbrev pub same_place : Place → Place → Bool
same_place p q = same p.home q.home && same p.name q.name

unfoldable pub places_differ : List Place → Bool
places_differ [] = true
places_differ (p ∷ ps) = not (any (same_place p) ps) && places_differ ps

-- ---- "each struct (fields and oneofs) and each oneof"
-- of a struct: its fields that stand in no oneof, and its oneofs
abbrev pub member_names : MessageDescriptor → Forest MessageDescriptor → List Bytes
member_names m nested =
    map (λ (f : FieldDescriptor). to_snake (text f.name)) (plain_fields m.fields)
    ++ map (λ (x : OneofField). to_snake x.name) (oneof_fields m nested)

-- of a oneof: its fields
abbrev pub variant_names : OneofField → List Bytes
variant_names x = map (λ (f : FieldDescriptor). to_upper_camel (text f.name)) x.fields

abbrev pub members_meet : MessageDescriptor → Forest MessageDescriptor → Bool
members_meet m nested = overlap (member_names m nested) || any (λ (x : OneofField). overlap (variant_names x)) (oneof_fields m nested)

-- in a written struct of the file, or a oneof of one?
unfoldable pub file_members_meet : List Setting → FileDescriptor → Bool
file_members_meet rs f = any_message rs (λ full m nested. members_meet m nested) (package_scope f.package_name) f.messages

-- ---- "The name check says yes exactly if names differ within each module (structs, enums, oneof enums, modules), each struct (fields and
-- oneofs) and each oneof."
unfoldable pub name_check : List Setting → List FileDescriptor → Bool
name_check rs fs = places_differ (places rs fs) && not (any (file_members_meet rs) fs)
