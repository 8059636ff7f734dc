-- Modules by their names in the set and by those in Rust: under a name check that says yes, no two have one place. Assumes nothing.
use Rattle.std.specs.Prelude.{◌≡◌, Bool, true, false, not, ◌⊎◌}
use Rattle.std.proofs.Math.Path.{refl}
use Rattle.std.proofs.Common.{ap, sym, ◌∙◌, subst, inl, inr, ⊎_elim}
use mathlib.Core.List.Memᴰ
use mathlib.Core.List.{List, [], ◌∷◌, ◌++◌, map, reverse, Memᴰ, map-append, map-map}
use Rattle.std.proofs.lemmas.Bool.{not-true}
use Rattle.base.specs.Choose.{choose, choose_case}
use Rattle.base.specs.Bytes.{same, same_refl, same_sound}
use Rattle.base.specs.Tests.{both_ways, and_left, and_right, and_both, or_cases, or_left, or_right}
use Rattle.base.specs.Lists.{any, all_of, Every, every_append}
use Rattle.descriptor.specs.Descriptor.{Bytes, FileDescriptor}
use Rattle.options.specs.Settings.{Setting}
use Rattle.name_rules.specs.FullNames.{◌·◌, package_scope}
use Rattle.code_generator.specs.Resolve.{local_path}
use Rattle.name_check.specs.NameCheck.{Place, PackageModule, modules_in, file_modules, same_module, each_once, package_modules, module_place, file_places, places, same_place, places_differ, file_members_meet, name_check}
use Rattle.sights.specs.Sights.{items}
use Rattle.text_sights.specs.Written.{written_sights}
use Rattle.text_sights.proofs.TextReads.{set_sights_are}
use Rattle.paths_reach.specs.Reach.{world}
use Rattle.paths_reach.specs.Apart.{Apart, apart_nil, apart_cons, apart_head, apart_tail}
use Rattle.paths_reach.specs.Dots.{scope_of, Dotted, empty, dotted_more, scope_of_names}
use Rattle.paths_reach.specs.Written.{Named, item_of, place_in, module_named, file_nameds, places_of_file}
use Rattle.paths_reach.specs.Seen.{items_append}
use Rattle.paths_reach.specs.Nodes.{items_of_file}

abbrev pub Within : {A : Type 0} → List A → List A → Type 0
Within {A} xs ys = (x : A) → Memᴰ x xs → Memᴰ x ys

pub mem_all_of : {A B : Type 0} (f : A → List B) (xs : List A) {x : A} {y : B} → Memᴰ x xs → Memᴰ y (f x) → Memᴰ y (all_of f xs)
unfolding all_of
mem_all_of f [] m n = absurd (Memᴰ.not-nil m)
mem_all_of {A} {B} f (z ∷ xs) {x} {y} m n =
    ⊎_elim (λ e. Memᴰ.append_left (all_of f xs) (subst (λ (w : A). Memᴰ y (f w)) e n)) (λ k. Memᴰ.append_right (f z) (mem_all_of f xs k n)) (Memᴰ.cases_cons m)

pub of_all_of : {A B : Type 0} (f : A → List B) (xs : List A) {y : B} → Memᴰ y (all_of f xs) → (x : A) × Memᴰ x xs × Memᴰ y (f x)
unfolding all_of
of_all_of f [] m = absurd (Memᴰ.not-nil m)
of_all_of f (z ∷ xs) m =
    ⊎_elim (λ n. (z, Memᴰ.head refl, n)) (λ n. let (x, k, j) = of_all_of f xs n in (x, Memᴰ.tail k, j)) (Memᴰ.append_cases (f z) m)

-- ---- the modules of packages
abbrev pub package_named : PackageModule → Named
package_named m = module_named (reverse (local_path m.home)) m.segment

pub once_mem : (m : PackageModule) (ms : List PackageModule) → Memᴰ m (each_once ms) → Memᴰ m ms
unfolding each_once choose
once_mem m [] k = k
once_mem m (n ∷ ms) k = go (any (same_module n) ms) k (once_mem m ms)
  where
    go : (t : Bool) → Memᴰ m (choose t (each_once ms) (n ∷ each_once ms)) → (Memᴰ m (each_once ms) → Memᴰ m ms) → Memᴰ m (n ∷ ms)
    go true k rest = Memᴰ.tail (rest k)
    go false k rest = ⊎_elim (λ e. Memᴰ.head e) (λ j. Memᴰ.tail (rest j)) (Memᴰ.cases_cons k)

same_module_sound : (m n : PackageModule) → same_module m n ≡ true → m ≡ n
same_module_sound m n h =
    let p = same_sound m.home n.home (and_left (same m.home n.home) (same m.segment n.segment) h) in
    let q = same_sound m.segment n.segment (and_right (same m.home n.home) (same m.segment n.segment) h) in
    λ i. record { home = p i; segment = q i }

any_module : (m : PackageModule) (ms : List PackageModule) → any (same_module m) ms ≡ true → Memᴰ m ms
unfolding any
any_module m [] h = both_ways h refl
any_module m (n ∷ ms) h = ⊎_elim (λ e. Memᴰ.head (same_module_sound m n e)) (λ e. Memᴰ.tail (any_module m ms e)) (or_cases (same_module m n) (any (same_module m) ms) h)

pub mem_once : (m : PackageModule) (ms : List PackageModule) → Memᴰ m ms → Memᴰ m (each_once ms)
unfolding each_once choose
mem_once m [] k = k
mem_once m (n ∷ ms) k = go (any (same_module n) ms) refl (Memᴰ.cases_cons k) (mem_once m ms)
  where
    go : (t : Bool) → any (same_module n) ms ≡ t → (m ≡ n) ⊎ Memᴰ m ms → (Memᴰ m ms → Memᴰ m (each_once ms)) → Memᴰ m (choose t (each_once ms) (n ∷ each_once ms))
    go true e (inl q) rest = rest (Memᴰ.cast q (any_module n ms e))
    go true e (inr j) rest = rest j
    go false e (inl q) rest = Memᴰ.head q
    go false e (inr j) rest = Memᴰ.tail (rest j)

dotted_modules : (home : Bytes) (xs : List Bytes) → Dotted home → Every (λ (m : PackageModule). Dotted m.home) (modules_in home xs)
unfolding modules_in
dotted_modules home [] d = tt
dotted_modules home (x ∷ xs) d = (d, dotted_modules (home · x) xs (dotted_more x d))

dotted_once : (ms : List PackageModule) → Every (λ (m : PackageModule). Dotted m.home) ms → Every (λ (m : PackageModule). Dotted m.home) (each_once ms)
unfolding each_once
dotted_once [] d = tt
dotted_once (m ∷ ms) d =
    choose_case (Every (λ (m : PackageModule). Dotted m.home)) (any (same_module m) ms) (λ _. dotted_once ms d.1) (λ _. (d.0, dotted_once ms d.1))

dotted_files : (fs : List FileDescriptor) → Every (λ (m : PackageModule). Dotted m.home) (all_of file_modules fs)
unfolding all_of
dotted_files [] = tt
dotted_files (f ∷ fs) =
    every_append (λ (m : PackageModule). Dotted m.home) (file_modules f) (all_of file_modules fs) (dotted_modules [] (local_path (package_scope f.package_name)) empty) (dotted_files fs)

places_of_modules : (ms : List PackageModule) → Every (λ (m : PackageModule). Dotted m.home) ms → map place_in (map package_named ms) ≡ map module_place ms
places_of_modules [] d = refl
places_of_modules (m ∷ ms) d = rw (scope_of_names d.0, places_of_modules ms d.1) refl

-- ---- all that stands in modules
module _ (rs : List Setting) (set : List FileDescriptor) where
  unfoldable pub whole : List Named
  whole = map package_named (package_modules set) ++ all_of (file_nameds rs) set

  places_of_files : (fs : List FileDescriptor) → map place_in (all_of (file_nameds rs) fs) ≡ all_of (file_places rs) fs
  unfolding all_of
  places_of_files [] = refl
  places_of_files (f ∷ fs) = map-append place_in (file_nameds rs f) (all_of (file_nameds rs) fs) ∙ rw (places_of_file rs f, places_of_files fs) refl

  places_are : map place_in whole ≡ places rs set
  unfolding whole places package_modules
  places_are =
      map-append place_in (map package_named (package_modules set)) (all_of (file_nameds rs) set)
      ∙ rw (places_of_modules (each_once (all_of file_modules set)) (dotted_once (all_of file_modules set) (dotted_files set)), places_of_files set) refl

  items_of_files : (fs : List FileDescriptor) → items (all_of (written_sights rs set) fs) ≡ map item_of (all_of (file_nameds rs) fs)
  unfolding all_of
  items_of_files [] = refl
  items_of_files (f ∷ fs) =
      items_append (written_sights rs set f) (all_of (written_sights rs set) fs)
      ∙ rw (items_of_file rs set f, items_of_files fs, map-append item_of (file_nameds rs f) (all_of (file_nameds rs) fs)) refl

  pub world_is : world rs set ≡ map item_of whole
  unfolding whole world
  world_is =
      rw (set_sights_are rs set, items_of_files set, map-append item_of (map package_named (package_modules set)) (all_of (file_nameds rs) set), map-map item_of package_named (package_modules set)) refl

-- ---- the name check
abbrev SamePlace : Place → Place → Type 0
SamePlace p q = (p.home ≡ q.home) × (p.name ≡ q.name)

abbrev pub Same : Named → Named → Type 0
Same m n = (m.home ≡ n.home) × (m.name ≡ n.name)

pub same_sym : (m n : Named) → Same m n → Same n m
same_sym m n (p, q) = (sym p, sym q)

found : (p : Place) (ps : List Place) (q : Place) → Memᴰ q ps → same_place p q ≡ true → any (same_place p) ps ≡ true
unfolding any
found p [] q m h = absurd (Memᴰ.not-nil m)
found p (r ∷ ps) q m h =
    ⊎_elim (λ e. or_left (any (same_place p) ps) (subst (λ (z : Place). same_place p z ≡ true) e h)) (λ n. or_right (same_place p r) (found p ps q n h)) (Memᴰ.cases_cons m)

clear_sound : (p : Place) (ps : List Place) → any (same_place p) ps ≡ false → (q : Place) → Memᴰ q ps → SamePlace p q → ⊥
clear_sound p ps t q m (e, f) =
    let homes : same p.home q.home ≡ true = rw e (same_refl q.home) in
    let names : same p.name q.name ≡ true = rw f (same_refl q.name) in
    both_ways (found p ps q m (and_both homes names)) t

differ_sound : (ps : List Place) → places_differ ps ≡ true → Apart SamePlace ps
unfolding places_differ
differ_sound [] t = apart_nil
differ_sound (p ∷ ps) t =
    apart_cons (clear_sound p ps (not-true (any (same_place p) ps) (and_left (not (any (same_place p) ps)) (places_differ ps) t)))
    (differ_sound ps (and_right (not (any (same_place p) ps)) (places_differ ps) t))

apart_before : (ns : List Named) → Apart SamePlace (map place_in ns) → Apart Same ns
apart_before [] a = apart_nil
apart_before (n ∷ ns) a =
    apart_cons (λ m k (p, q). apart_head a (place_in m) (Memᴰ.map place_in k) (ap scope_of p, q)) (apart_before ns (apart_tail a))

pub names_apart : (rs : List Setting) (set : List FileDescriptor) → name_check rs set ≡ true → Apart Same (whole rs set)
unfolding name_check
names_apart rs set says_yes =
    apart_before (whole rs set)
    (rw (places_are rs set) (differ_sound (places rs set) (and_left (places_differ (places rs set)) (not (any (file_members_meet rs) set)) says_yes)))
