-- Packages of a set whose modules have one name. Assumes nothing.
use Rattle.std.specs.Prelude.{ℕ, Bool, false, ◌&&◌, List, [], ◌∷◌, ltb, length, take}
use Rattle.base.specs.Bytes.{same}
use Rattle.base.specs.Choose.{choose}
use Rattle.base.specs.Lists.{any}
use Rattle.ident.specs.Ident.{to_snake}
use Rattle.path.specs.Forms.{among}
use Rattle.descriptor.specs.Descriptor.{Bytes, FileDescriptor}
use Rattle.descriptor.specs.Decode.{entries, parts, decode_file}
use Rattle.name_rules.specs.FullNames.{package_scope}
use Rattle.joined.specs.Joined.{max_path}
use Rattle.code_generator.specs.Resolve.{local_path}
use Rattle.name_check.specs.NameCheck.{PackageModule, file_modules}
use Rattle.name_rows.specs.Rows.{row, rows_in}

-- the segments of a file's package
abbrev pub file_segments : FileDescriptor → List Bytes
file_segments f = local_path (package_scope f.package_name)

-- name: what a segment's module is called
module _ (name : Bytes → Bytes) where
  -- have both packages a segment where they first differ, and are the two modules called the same?
  unfoldable pub meets : List Bytes → List Bytes → Bool
  meets [] ys = false
  meets (x ∷ xs) [] = false
  meets (x ∷ xs) (y ∷ ys) = choose (same x y) (meets xs ys) (same (name x) (name y))

  -- do two of these? None meets itself
  unfoldable pub some_meet : List (List Bytes) → Bool
  some_meet ps = any (λ (p : List Bytes). any (meets p) ps) ps

-- ---- as they are found, in the files' parts
-- a snake name, cut where the buffer ends
unfoldable pub cut_snake : Bytes → Bytes
cut_snake x = take max_path (to_snake x)

-- do the packages of the files whose parts p and q are?
abbrev pub parts_meet : Bytes → Bytes → Bool
parts_meet p q = meets cut_snake (file_segments (decode_file p)) (file_segments (decode_file q))

-- does that of the file whose part p is meet one of the set's?
unfoldable pub package_meets : Bytes → Bytes → Bool
package_meets set p = any (parts_meet p) (parts 1 (entries set))

-- do two of the set's packages?
unfoldable pub packages_meet : Bytes → Bool
packages_meet set = any (package_meets set) (parts 1 (entries set))

-- ---- modules of packages among rows of places
-- does the module stand among these? A home of over 256 bytes has no declaration
unfoldable pub module_in : List Bytes → PackageModule → Bool
module_in rows m = ltb (length m.home) 257 && among (row m.home (to_snake m.segment)) rows

abbrev pub module_of : Bytes → Bytes → PackageModule
module_of home segment = record { home = home; segment = segment }

-- does one of the package of the file whose part p is?
unfoldable pub part_stands : List Bytes → Bytes → Bool
part_stands rows p = any (module_in rows) (file_modules (decode_file p))

-- does one of a package of the set stand among the first n rows of t?
unfoldable pub packages_stand : ℕ → Bytes → Bytes → Bool
packages_stand n t set = any (part_stands (rows_in n t)) (parts 1 (entries set))
