-- Of an accepted set: packages that meet, and modules of packages among rows of places, as they are found, are those of the name check.
-- Assumes nothing.
use Rattle.std.specs.Prelude.{ℕ, ◌<◌, ◌≤◌, ◌≡◌, refl, Bool, true, false, ◌&&◌, ◌||◌, not, List, [], ◌∷◌, map, ltb, length, Ok}
use Rattle.std.proofs.Common.{sym, ap, ap₂, ◌∙◌, arith, take_all, ltb-true, ltb-false}
use Rattle.base.specs.Bytes.{same_length}
use Rattle.base.specs.Lists.{any, Every, every_to}
use Rattle.ident.specs.Ident.{to_snake}
use Rattle.ident.proofs.Sizes.{snake_fits}
use Rattle.ident.proofs.Written.{snake_written}
use Rattle.path.specs.Forms.{among}
use Rattle.descriptor.specs.Descriptor.{Bytes, FileDescriptor}
use Rattle.descriptor.specs.Decode.{entries, parts, decode_file, decode_set}
use Rattle.descriptor.specs.Limits.{limit_passed}
use Rattle.name_rules.specs.FullNames.{◌·◌}
use Rattle.name_rules.specs.Answer.{names}
use Rattle.joined.specs.Joined.{max_path}
use Rattle.name_check.specs.NameCheck.{Place, PackageModule, modules_in, file_modules, package_modules, module_place, same_place, places_differ}
use Rattle.name_rows.specs.Rows.{place_row, rows_in}
use Rattle.name_rows.proofs.RowLaws.{Plain, written_plain, Holds, among_rows}
use Rattle.place_laws.specs.HeldPlaces.{plain_append, name_plain}
use Rattle.package_names.specs.Packages.{file_segments, meets, some_meet, cut_snake, package_meets, packages_meet, module_in, part_stands, packages_stand}
use Rattle.package_laws.specs.PlaceLaws.{any_map, places_meet}
use Rattle.package_laws.specs.PackageLaws.{modules_differ, module_among, modules_meet}
use Rattle.package_laws.specs.SegmentLaws.{Segment, set_segments}

any_every : {A : Type 0} (p q : A → Bool) (xs : List A) → Every (λ (x : A). p x ≡ q x) xs → any p xs ≡ any q xs
unfolding any
any_every p q [] e = refl
any_every p q (x ∷ xs) e = ap₂ ◌||◌ e.0 (any_every p q xs e.1)

-- ---- packages that meet
whole_snake : (x : Bytes) → Segment x → cut_snake x ≡ to_snake x
unfolding cut_snake
whole_snake x s = let k = snake_fits x s.name s.short in take_all max_path (to_snake x) (omega arith)

meets_whole : (xs ys : List Bytes) → Every Segment xs → Every Segment ys → meets cut_snake xs ys ≡ meets to_snake xs ys
unfolding meets
meets_whole [] ys e f = refl
meets_whole (x ∷ xs) [] e f = refl
meets_whole (x ∷ xs) (y ∷ ys) e f = rw (meets_whole xs ys e.1 f.1, whole_snake x e.0, whole_snake y f.0) refl

abbrev Segmented : FileDescriptor → Type 0
Segmented f = Every Segment (file_segments f)

files_meet : (fs : List FileDescriptor) → Every Segmented fs
    → any (λ (f : FileDescriptor). any (λ (g : FileDescriptor). meets cut_snake (file_segments f) (file_segments g)) fs) fs ≡ some_meet to_snake (map file_segments fs)
unfolding some_meet
files_meet fs e =
    any_every (λ (f : FileDescriptor). any (λ (g : FileDescriptor). meets cut_snake (file_segments f) (file_segments g)) fs) (λ (f : FileDescriptor). any (meets to_snake (file_segments f)) (map file_segments fs)) fs
    (every_to
    (λ f s.
    any_every (λ (g : FileDescriptor). meets cut_snake (file_segments f) (file_segments g)) (λ (g : FileDescriptor). meets to_snake (file_segments f) (file_segments g)) fs
    (every_to (λ g r. meets_whole (file_segments f) (file_segments g) s r) fs e)
    ∙ sym (any_map (meets to_snake (file_segments f)) file_segments fs)) fs e)
    ∙ sym (any_map (λ (r : List Bytes). any (meets to_snake r) (map file_segments fs)) file_segments fs)

parts_are : (set : Bytes) → packages_meet set ≡ any (λ (f : FileDescriptor). any (λ (g : FileDescriptor). meets cut_snake (file_segments f) (file_segments g)) (decode_set set)) (decode_set set)
unfolding packages_meet package_meets decode_set
parts_are set = sym (
    any_map (λ (f : FileDescriptor). any (λ (g : FileDescriptor). meets cut_snake (file_segments f) (file_segments g)) (decode_set set)) decode_file (parts 1 (entries set))
    ∙ ap (λ (q : Bytes → Bool). any q (parts 1 (entries set))) (λ i p. any_map (λ (g : FileDescriptor). meets cut_snake (file_segments (decode_file p)) (file_segments g)) decode_file (parts 1 (entries set)) i))

-- the modules of packages have places that differ exactly if none meet
pub packages_differ : (set : Bytes) → limit_passed set ≡ 0 → names (decode_set set) ≡ Ok tt → places_differ (map module_place (package_modules (decode_set set))) ≡ not (packages_meet set)
packages_differ set passed good = modules_differ (decode_set set) ∙ ap not (sym (parts_are set ∙ files_meet (decode_set set) (set_segments set passed good)))

-- ---- modules of packages among rows
record Sound (m : PackageModule) : Type 0 where
  home : Plain m.home
  segment : Segment m.segment

modules_sound : (home : Bytes) → Plain home → (xs : List Bytes) → Every Segment xs → Every Sound (modules_in home xs)
unfolding modules_in
modules_sound home h [] e = tt
modules_sound home h (x ∷ xs) e =
    (record { home = h; segment = e.0 }, modules_sound (home · x) (plain_append home (46 ∷ x) h (omega arith, name_plain x e.0.name)) xs e.1)

holds : (m : PackageModule) → Sound m → length m.home ≤ 256 → Holds (module_place m)
holds m s l =
    let k = snake_fits m.segment s.segment.name s.segment.short in
    record { plain_home = s.home; plain_name = written_plain (to_snake m.segment) (snake_written m.segment); short_home = l; fits = omega arith }

far : (p : Place) (ys : List Place) → 256 < length p.home → Every Holds ys → any (same_place p) ys ≡ false
unfolding any
far p [] l e = refl
far p (q ∷ ys) l e = let k = e.0.short_home in rw (same_length p.home q.home (λ x. omega arith), far p ys l e.1) refl

stands_is : (ys : List Place) → Every Holds ys → (m : PackageModule) → Sound m → module_in (map place_row ys) m ≡ module_among ys m
unfolding module_in module_among
stands_is ys e m s = on (ltb (length m.home) 257) refl
  where
    on : (t : Bool) → ltb (length m.home) 257 ≡ t → (t && among (place_row (module_place m)) (map place_row ys)) ≡ any (same_place (module_place m)) ys
    on true h = let l = ltb-true (length m.home) 257 h in among_rows (module_place m) ys (holds m s (omega arith)) e
    on false h = let l = ltb-false (length m.home) 257 h in sym (far (module_place m) ys (omega arith) e)

-- one stands among the rows of places exactly if it is one of the places
pub packages_stand_is : (set : Bytes) → limit_passed set ≡ 0 → names (decode_set set) ≡ Ok tt → (ys : List Place) → Every Holds ys → (n : ℕ) (t : Bytes) → rows_in n t ≡ map place_row ys
    → packages_stand n t set ≡ places_meet (map module_place (package_modules (decode_set set))) ys
unfolding packages_stand part_stands decode_set
packages_stand_is set passed good ys e n t is =
    rw is
    (sym (any_map (λ (f : FileDescriptor). any (module_in (map place_row ys)) (file_modules f)) decode_file (parts 1 (entries set)))
    ∙ any_every (λ (f : FileDescriptor). any (module_in (map place_row ys)) (file_modules f)) (λ (f : FileDescriptor). any (module_among ys) (file_modules f)) (decode_set set)
    (every_to
    (λ f s. any_every (module_in (map place_row ys)) (module_among ys) (file_modules f) (every_to (stands_is ys e) (file_modules f) (modules_sound [] tt (file_segments f) s)))
    (decode_set set) (set_segments set passed good))
    ∙ sym (modules_meet ys (decode_set set)))
