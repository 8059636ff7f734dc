-- What a written path reaches, in the texts of all files of a set together. Document 01's sentences stand quoted beside the definitions.
use Rattle.std.specs.Prelude.{◌≤◌, ◌≡◌, Bool, true, false, ◌&&◌, not, length, drop}
use Rattle.std.proofs.Math.Option.{some, none}
use mathlib.Core.List.{List, [], ◌∷◌, ◌++◌, map, reverse_aux}
use Rattle.base.specs.Bytes.{same}
use Rattle.base.specs.Choose.{choose}
use Rattle.ident.specs.Ident.{to_snake}
use Rattle.descriptor.specs.Descriptor.{Bytes, FileDescriptor}
use Rattle.options.specs.Settings.{Setting}
use Rattle.code_generator.specs.Piece.{Ref}
use Rattle.name_check.specs.NameCheck.{PackageModule, package_modules}
use Rattle.sights.specs.Sights.{Item, Use, scope_place, set_sights, items}

-- ---- what stands in modules: "A text stands in its package's module, or the root without one, and `pub mod` opens one inside."
abbrev pub package_item : PackageModule → Item
package_item m = record { place = scope_place m.home; name = to_snake m.segment; is_module = true; mark = none }

-- the modules of the packages, and the modules and declarations that are seen in the texts
unfoldable pub world : List Setting → List FileDescriptor → List Item
world rs set = map package_item (package_modules set) ++ items (set_sights rs set)

-- ---- what is found by a name
unfoldable pub those : {A : Type 0} → (A → Bool) → List A → List A
those p [] = []
those p (x ∷ xs) = choose (p x) (x ∷ those p xs) (those p xs)

unfoldable pub same_names : List Bytes → List Bytes → Bool
same_names [] [] = true
same_names [] (y ∷ ys) = false
same_names (x ∷ xs) [] = false
same_names (x ∷ xs) (y ∷ ys) = same x y && same_names xs ys

-- where something stands: the modules from the innermost to the outermost
abbrev pub stands_at : List Bytes → Bytes → Item → Bool
stands_at place name i = same_names i.place place && same i.name name

abbrev pub is_that_module : List Bytes → Bytes → Item → Bool
is_that_module place name i = stands_at place name i && i.is_module

abbrev pub is_that_declaration : List Bytes → Bytes → Item → Bool
is_that_declaration place name i = stands_at place name i && not i.is_module

-- "each other name before the last goes into the module so named": from a place through these names, each module being there once
pub data Through (items : List Item) : List Bytes → List Bytes → Type 0 where
  stay : {place : List Bytes} → Through items place []
  go_in : {place names : List Bytes} {name : Bytes} (m : Item) → those (is_that_module place name) items ≡ m ∷ [] → Through items (name ∷ place) names → Through items place (name ∷ names)

-- "`super` goes out one"
abbrev pub outside : Use → List Bytes
outside u = drop u.path.supers u.place

-- where the path's names lead
abbrev pub inside : Use → List Bytes
inside u = reverse_aux u.path.modules (outside u)

-- "A path starts in the module where it stands and is followed by its names alone: `super` goes out one, each other name before the last
-- goes into the module so named, and the last is the struct or enum declared there."
pub record ReachesOne (items : List Item) (u : Use) : Type 0 where
  pub out : u.path.supers ≤ length u.place
  pub through : Through items (outside u) u.path.modules
  -- of all declarations just one stands there with the last name
  pub reached : Item
  pub only : those (is_that_declaration (inside u) u.path.last) items ≡ reached ∷ []
  -- and it is the one that the path is for
  pub for : Ref
  pub meant : u.mark ≡ some for
  pub right : reached.mark ≡ some for
