-- The modules of packages have places that differ exactly if no two packages meet. Assumes nothing.
use Rattle.std.specs.Prelude.{◌≡◌, Bool, true, false, ◌&&◌, not, ◌⊎◌}
use Rattle.std.proofs.Math.Path.{refl}
use Rattle.std.proofs.Common.{sym, ap, ap₂, ◌∙◌, subst, inl, inr}
use Rattle.std.proofs.Math.Logic.{⊎_elim}
use mathlib.Core.List.Memᴰ
use mathlib.Core.List.{List, [], ◌∷◌, ◌++◌, map, reverse, reverse_aux, reverse-reverse, Memᴰ}
use Rattle.base.specs.Choose.{choose}
use Rattle.base.specs.Bytes.{same, same_refl, same_sound}
use Rattle.base.specs.Tests.{both_ways, bool_cases, and_left, and_right, or_cases, or_left, or_right, and_false}
use Rattle.base.specs.Lists.{any, all_of, Every, every_left}
use Rattle.base.proofs.BytesLaws.{same_turned}
use Rattle.ident.specs.Ident.{to_snake}
use Rattle.descriptor.specs.Descriptor.{Bytes, FileDescriptor}
use Rattle.code_generator.specs.Resolve.{local_path}
use Rattle.name_rules.specs.FullNames.{package_scope}
use Rattle.name_check.specs.NameCheck.{Place, PackageModule, modules_in, file_modules, same_module, each_once, package_modules, module_place, same_place, places_differ}
use Rattle.paths_reach.specs.Dots.{DotFree, scope_of, path_of_scope, path_dot_free}
use Rattle.paths_reach.specs.Homes.{Within, once_mem, mem_once, mem_all_of, of_all_of}
use Rattle.paths_reach.specs.Targets.{every_reverse}
use Rattle.package_names.specs.Packages.{file_segments, meets, some_meet}
use Rattle.package_laws.specs.PlaceLaws.{any_map, any_all_of, places_meet}

-- ---- what a test finds in a list
module _ {A : Type 0} (p : A → Bool) where
  pub any_there : (xs : List A) {x : A} → Memᴰ x xs → p x ≡ true → any p xs ≡ true
  unfolding any
  any_there [] k h = absurd (Memᴰ.not-nil k)
  any_there (y ∷ xs) k h =
      ⊎_elim (λ e. or_left (any p xs) (subst (λ (z : A). p z ≡ true) e h)) (λ j. or_right (p y) (any_there xs j h)) (Memᴰ.cases_cons k)

  pub record Found (xs : List A) : Type 0 where
    pub element : A
    pub in_list : Memᴰ element xs
    pub passes : p element ≡ true

  pub any_found : (xs : List A) → any p xs ≡ true → Found xs
  unfolding any
  any_found [] h = both_ways h refl
  any_found (x ∷ xs) h =
      ⊎_elim (λ e. record { element = x; in_list = Memᴰ.head refl; passes = e })
      (λ e. let f = any_found xs e in record { element = f.element; in_list = Memᴰ.tail f.in_list; passes = f.passes }) (or_cases (p x) (any p xs) h)

  pub any_none : (xs : List A) {x : A} → Memᴰ x xs → any p xs ≡ false → p x ≡ false
  any_none xs {x} k h = ⊎_elim (λ e. both_ways (any_there xs k e) h) (λ e. e) (bool_cases (p x))

  pub any_within : (xs ys : List A) → Within xs ys → any p xs ≡ true → any p ys ≡ true
  any_within xs ys w h = let f = any_found xs h in any_there ys (w f.element f.in_list) f.passes

  pub any_same : (xs ys : List A) → Within xs ys → Within ys xs → any p xs ≡ any p ys
  any_same xs ys v w = go (any p xs) refl (any p ys) refl
    where
      go : (s : Bool) → any p xs ≡ s → (t : Bool) → any p ys ≡ t → s ≡ t
      go true e true f = refl
      go false e false f = refl
      go true e false f = both_ways (any_within xs ys v e) f
      go false e true f = both_ways (any_within ys xs w f) e

-- ---- the modules of a package by the names before them, the innermost first
abbrev module_of : List Bytes → Bytes → PackageModule
module_of h x = record { home = scope_of h; segment = x }

record Stands (h xs : List Bytes) (m : PackageModule) : Type 0 where
  pub before : List Bytes
  pub segment : Bytes
  pub behind : List Bytes
  pub names : xs ≡ before ++ (segment ∷ behind)
  pub is : m ≡ module_of (reverse_aux before h) segment

stands : (h xs : List Bytes) (m : PackageModule) → Memᴰ m (modules_in (scope_of h) xs) → Stands h xs m
unfolding modules_in
stands h [] m k = absurd (Memᴰ.not-nil k)
stands h (x ∷ xs) m k =
    ⊎_elim (λ e. record { before = []; segment = x; behind = xs; names = refl; is = e })
    (λ j. let s = stands (x ∷ h) xs m j in
    record { before = x ∷ s.before; segment = s.segment; behind = s.behind; names = ap (λ (l : List Bytes). x ∷ l) s.names; is = s.is })
    (Memᴰ.cases_cons k)

there : (before h : List Bytes) (x : Bytes) (behind : List Bytes) → Memᴰ (module_of (reverse_aux before h) x) (modules_in (scope_of h) (before ++ (x ∷ behind)))
unfolding modules_in
there [] h x behind = Memᴰ.head refl
there (y ∷ before) h x behind = Memᴰ.tail (there before (y ∷ h) x behind)

-- names without dots are told by their scope
names_of : (xs ys : List Bytes) → Every DotFree (xs ++ ys) → local_path (scope_of (reverse xs)) ≡ xs
names_of xs ys e = path_of_scope (reverse xs) (every_reverse DotFree xs [] (every_left DotFree xs ys e) tt) ∙ reverse-reverse xs

-- ---- two modules of one place
record Clash (m n : PackageModule) : Type 0 where
  pub homes : m.home ≡ n.home
  pub segments : same m.segment n.segment ≡ false
  pub names : to_snake m.segment ≡ to_snake n.segment

meets_at : (before : List Bytes) (x y : Bytes) (xs ys : List Bytes) → same x y ≡ false → meets to_snake (before ++ (x ∷ xs)) (before ++ (y ∷ ys)) ≡ same (to_snake x) (to_snake y)
unfolding meets choose
meets_at [] x y xs ys e = rw e refl
meets_at (z ∷ before) x y xs ys e = rw (same_refl z) (meets_at before x y xs ys e)

clash_meets : (p q : List Bytes) (m n : PackageModule) → Every DotFree p → Every DotFree q → Memᴰ m (modules_in [] p) → Memᴰ n (modules_in [] q) → Clash m n → meets to_snake p q ≡ true
clash_meets p q m n e f j k c =
    let s = stands [] p m j in
    let t = stands [] q n k in
    let homes : scope_of (reverse s.before) ≡ scope_of (reverse t.before) =
    ap (λ (x : PackageModule). x.home) (sym s.is) ∙ c.homes ∙ ap (λ (x : PackageModule). x.home) t.is in
    let befores : s.before ≡ t.before =
    sym (names_of s.before (s.segment ∷ s.behind) (rw s.names at e)) ∙ ap local_path homes ∙ names_of t.before (t.segment ∷ t.behind) (rw t.names at f) in
    let unlike : same s.segment t.segment ≡ false =
    ap₂ same (ap (λ (x : PackageModule). x.segment) (sym s.is)) (ap (λ (x : PackageModule). x.segment) (sym t.is)) ∙ c.segments in
    let alike : to_snake s.segment ≡ to_snake t.segment =
    ap (λ (x : PackageModule). to_snake x.segment) (sym s.is) ∙ c.names ∙ ap (λ (x : PackageModule). to_snake x.segment) t.is in
    rw (s.names, t.names, befores, meets_at t.before s.segment t.segment s.behind t.behind unlike, alike) (same_refl (to_snake t.segment))

record Met (xs ys : List Bytes) : Type 0 where
  pub before : List Bytes
  pub left : Bytes
  pub right : Bytes
  pub left_behind : List Bytes
  pub right_behind : List Bytes
  pub left_names : xs ≡ before ++ (left ∷ left_behind)
  pub right_names : ys ≡ before ++ (right ∷ right_behind)
  pub unlike : same left right ≡ false
  pub alike : to_snake left ≡ to_snake right

met : (xs ys : List Bytes) → meets to_snake xs ys ≡ true → Met xs ys
unfolding meets choose
met [] ys h = both_ways h refl
met (x ∷ xs) [] h = both_ways h refl
met (x ∷ xs) (y ∷ ys) h = go (same x y) refl h (met xs ys)
  where
    go : (t : Bool) → same x y ≡ t → choose t (meets to_snake xs ys) (same (to_snake x) (to_snake y)) ≡ true → (meets to_snake xs ys ≡ true → Met xs ys) → Met (x ∷ xs) (y ∷ ys)
    go true e q rest =
        let r = rest q in
        record {
          before = x ∷ r.before;
          left = r.left;
          right = r.right;
          left_behind = r.left_behind;
          right_behind = r.right_behind;
          left_names = ap (λ (l : List Bytes). x ∷ l) r.left_names;
          right_names = ap₂ (λ (z : Bytes) (l : List Bytes). z ∷ l) (sym (same_sound x y e)) r.right_names;
          unlike = r.unlike;
          alike = r.alike;
        }
    go false e q rest =
        record {
          before = [];
          left = x;
          right = y;
          left_behind = xs;
          right_behind = ys;
          left_names = refl;
          right_names = refl;
          unlike = e;
          alike = same_sound (to_snake x) (to_snake y) q;
        }

record Clashing (ms ns : List PackageModule) : Type 0 where
  pub left : PackageModule
  pub right : PackageModule
  pub left_in : Memᴰ left ms
  pub right_in : Memᴰ right ns
  pub clash : Clash left right

met_clash : (p q : List Bytes) → Met p q → Clashing (modules_in [] p) (modules_in [] q)
met_clash p q m =
    record {
      left = module_of (reverse m.before) m.left;
      right = module_of (reverse m.before) m.right;
      left_in = rw m.left_names (there m.before [] m.left m.left_behind);
      right_in = rw m.right_names (there m.before [] m.right m.right_behind);
      clash = record { homes = refl; segments = m.unlike; names = m.alike };
    }

-- ---- two packages that meet
pair_meets : (ps : List (List Bytes)) {p q : List Bytes} → Memᴰ p ps → Memᴰ q ps → meets to_snake p q ≡ true → some_meet to_snake ps ≡ true
unfolding some_meet
pair_meets ps {p} {q} j k h = any_there (λ (r : List Bytes). any (meets to_snake r) ps) ps j (any_there (meets to_snake p) ps k h)

record Meeting (ps : List (List Bytes)) : Type 0 where
  pub left : List Bytes
  pub right : List Bytes
  pub left_in : Memᴰ left ps
  pub right_in : Memᴰ right ps
  pub meeting : meets to_snake left right ≡ true

some_pair : (ps : List (List Bytes)) → some_meet to_snake ps ≡ true → Meeting ps
unfolding some_meet
some_pair ps h =
    let f = any_found (λ (r : List Bytes). any (meets to_snake r) ps) ps h in
    let g = any_found (meets to_snake f.element) ps f.passes in
    record { left = f.element; right = g.element; left_in = f.in_list; right_in = g.in_list; meeting = g.passes }

-- ---- modules, each once
clash_place : (m n : PackageModule) → Clash m n → same_place (module_place m) (module_place n) ≡ true
clash_place m n c = rw (c.homes, c.names, same_refl n.home) (same_refl (to_snake n.segment))

clash_turned : {m n : PackageModule} → Clash m n → Clash n m
clash_turned {m} {n} c = record { homes = sym c.homes; segments = same_turned n.segment m.segment ∙ c.segments; names = sym c.names }

clash_differs : (ms : List PackageModule) {m n : PackageModule} → Memᴰ m ms → Memᴰ n ms → Clash m n → places_differ (map module_place ms) ≡ false
unfolding places_differ
clash_differs [] j k c = absurd (Memᴰ.not-nil j)
clash_differs (x ∷ ms) {m} {n} j k c = go (Memᴰ.cases_cons j) (Memᴰ.cases_cons k) (λ a b. clash_differs ms a b c)
  where
    one : (y : PackageModule) → Memᴰ y ms → Clash x y → (not (any (same_place (module_place x)) (map module_place ms)) && places_differ (map module_place ms)) ≡ false
    one y b d = rw (any_there (same_place (module_place x)) (map module_place ms) (Memᴰ.map module_place b) (clash_place x y d)) refl

    go : (m ≡ x) ⊎ Memᴰ m ms → (n ≡ x) ⊎ Memᴰ n ms → (Memᴰ m ms → Memᴰ n ms → places_differ (map module_place ms) ≡ false) → (not (any (same_place (module_place x)) (map module_place ms)) && places_differ (map module_place ms)) ≡ false
    go (inl e) (inl f) rest = both_ways (same_refl x.segment) (ap₂ (λ (y z : PackageModule). same y.segment z.segment) (sym e) (sym f) ∙ c.segments)
    go (inl e) (inr b) rest = one n b (subst (λ (z : PackageModule). Clash z n) e c)
    go (inr a) (inl f) rest = one m a (clash_turned (subst (λ (z : PackageModule). Clash m z) f c))
    go (inr a) (inr b) rest = and_false (not (any (same_place (module_place x)) (map module_place ms))) _ (rest a b)

differs_clash : (ms : List PackageModule) → places_differ (map module_place (each_once ms)) ≡ false → Clashing ms ms
unfolding each_once choose places_differ
differs_clash [] h = both_ways refl h
differs_clash (m ∷ ms) h = go (any (same_module m) ms) refl h (differs_clash ms)
  where
    more : Clashing ms ms → Clashing (m ∷ ms) (m ∷ ms)
    more c = record { left = c.left; right = c.right; left_in = Memᴰ.tail c.left_in; right_in = Memᴰ.tail c.right_in; clash = c.clash }

    first : any (same_module m) ms ≡ false → any (same_place (module_place m)) (map module_place (each_once ms)) ≡ true → Clashing (m ∷ ms) (m ∷ ms)
    first e f =
        let p = any_found (same_place (module_place m)) (map module_place (each_once ms)) f in
        let (n, k, is) = Memᴰ.of_map module_place (each_once ms) p.in_list in
        let j = once_mem n ms k in
        let place : same_place (module_place m) (module_place n) ≡ true = ap (same_place (module_place m)) is ∙ p.passes in
        let home = and_left (same m.home n.home) (same (to_snake m.segment) (to_snake n.segment)) place in
        let name = and_right (same m.home n.home) (same (to_snake m.segment) (to_snake n.segment)) place in
        record {
          left = m;
          right = n;
          left_in = Memᴰ.head refl;
          right_in = Memᴰ.tail j;
          clash = record {
            homes = same_sound m.home n.home home;
            segments = sym (ap (λ (t : Bool). t && same m.segment n.segment) home) ∙ any_none (same_module m) ms j e;
            names = same_sound (to_snake m.segment) (to_snake n.segment) name;
          };
        }

    by : (t : Bool) → any (same_place (module_place m)) (map module_place (each_once ms)) ≡ t → any (same_module m) ms ≡ false → (not t && places_differ (map module_place (each_once ms))) ≡ false → (places_differ (map module_place (each_once ms)) ≡ false → Clashing ms ms) → Clashing (m ∷ ms) (m ∷ ms)
    by true f e q rest = first e f
    by false f e q rest = more (rest q)

    go : (t : Bool) → any (same_module m) ms ≡ t → places_differ (map module_place (choose t (each_once ms) (m ∷ each_once ms))) ≡ false → (places_differ (map module_place (each_once ms)) ≡ false → Clashing ms ms) → Clashing (m ∷ ms) (m ∷ ms)
    go true e q rest = more (rest q)
    go false e q rest = by (any (same_place (module_place m)) (map module_place (each_once ms))) refl e q rest

-- ---- the modules of a set's packages
all_clash : (fs : List FileDescriptor) → Meeting (map file_segments fs) → Clashing (all_of file_modules fs) (all_of file_modules fs)
all_clash fs m =
    let (f, j, is) = Memᴰ.of_map file_segments fs m.left_in in
    let (g, k, also) = Memᴰ.of_map file_segments fs m.right_in in
    let c = met_clash (file_segments f) (file_segments g) (met (file_segments f) (file_segments g) (rw (is, also) m.meeting)) in
    record { left = c.left; right = c.right; left_in = mem_all_of file_modules fs j c.left_in; right_in = mem_all_of file_modules fs k c.right_in; clash = c.clash }

clash_all : (fs : List FileDescriptor) → Clashing (all_of file_modules fs) (all_of file_modules fs) → some_meet to_snake (map file_segments fs) ≡ true
clash_all fs c =
    let (f, j, a) = of_all_of file_modules fs c.left_in in
    let (g, k, b) = of_all_of file_modules fs c.right_in in
    pair_meets (map file_segments fs) (Memᴰ.map file_segments j) (Memᴰ.map file_segments k)
    (clash_meets (file_segments f) (file_segments g) c.left c.right (path_dot_free (package_scope f.package_name)) (path_dot_free (package_scope g.package_name)) a b c.clash)

pub modules_differ : (fs : List FileDescriptor) → places_differ (map module_place (package_modules fs)) ≡ not (some_meet to_snake (map file_segments fs))
unfolding package_modules
modules_differ fs = go (some_meet to_snake (map file_segments fs)) refl (places_differ (map module_place (each_once (all_of file_modules fs)))) refl
  where
    go : (s : Bool) → some_meet to_snake (map file_segments fs) ≡ s → (t : Bool) → places_differ (map module_place (each_once (all_of file_modules fs))) ≡ t → t ≡ not s
    go true e false f = refl
    go false e true f = refl
    go true e true f =
        let c = all_clash fs (some_pair (map file_segments fs) e) in
        both_ways f
        (clash_differs (each_once (all_of file_modules fs)) (mem_once c.left (all_of file_modules fs) c.left_in) (mem_once c.right (all_of file_modules fs) c.right_in) c.clash)
    go false e false f = both_ways (clash_all fs (differs_clash (all_of file_modules fs) f)) e

-- does the module of a package stand among these places?
unfoldable pub module_among : List Place → PackageModule → Bool
module_among ys m = any (same_place (module_place m)) ys

-- each module counts, also one that several files have
pub modules_meet : (ys : List Place) (fs : List FileDescriptor) → places_meet (map module_place (package_modules fs)) ys ≡ any (λ (f : FileDescriptor). any (module_among ys) (file_modules f)) fs
unfolding package_modules places_meet module_among
modules_meet ys fs =
    any_map (λ (p : Place). any (same_place p) ys) module_place (each_once (all_of file_modules fs))
    ∙ any_same (λ (m : PackageModule). any (same_place (module_place m)) ys) (each_once (all_of file_modules fs)) (all_of file_modules fs) (λ m k. once_mem m (all_of file_modules fs) k) (λ m k. mem_once m (all_of file_modules fs) k)
    ∙ any_all_of (λ (m : PackageModule). any (same_place (module_place m)) ys) file_modules fs
