-- The modules that lead to a home are there; homes with one place in Rust are one; a path that leads to a home reaches what stands there.
-- Assumes nothing.
use Rattle.std.specs.Prelude.{ℕ, ◌≡◌, refl, ◌||◌}
use Rattle.std.proofs.Common.{ap, sym, arith}
use Rattle.std.proofs.Math.Path.{subst}
use Rattle.std.proofs.Math.Logic.{⊎_elim}
use mathlib.Core.List.{List, [], ◌∷◌, ◌++◌, map, reverse, reverse_aux, Memᴰ}
use Rattle.base.specs.Choose.{choose, choose_case}
use Rattle.base.specs.Lists.{all_of, Every, every_append}
use Rattle.ident.specs.Ident.{to_snake}
use Rattle.descriptor.specs.Descriptor.{Bytes, Forest, done, node, EnumDescriptor, MessageDescriptor, FileDescriptor}
use Rattle.options.specs.Settings.{Setting}
use Rattle.extern_paths.specs.ExternPaths.{taken}
use Rattle.name_rules.specs.Accessors.{text}
use Rattle.name_rules.specs.FullNames.{package_scope}
use Rattle.code_generator.specs.Resolve.{local_path}
use Rattle.code_generator.specs.Oneofs.{OneofField, oneof_fields}
use Rattle.code_generator.specs.Generate.{has_module}
use Rattle.name_check.specs.NameCheck.{PackageModule, modules_in, file_modules, package_modules}
use Rattle.paths_reach.specs.Apart.{Apart, apart_same}
use Rattle.paths_reach.specs.Dots.{DotFree, scope_of, names_of_scope, path_dot_free}
use Rattle.paths_reach.specs.Written.{Named, a_module, module_named, type_named, oneof_named, enum_nameds, node_nameds, message_nameds, package_names, file_nameds}
use Rattle.paths_reach.specs.Homes.{Within, mem_all_of, of_all_of, package_named, once_mem, mem_once, whole, Same, same_sym}

pub data Closed (ns : List Named) : List Bytes → Type 0 where
  root : Closed ns []
  into : {x : Bytes} {h : List Bytes} → Closed ns h → Memᴰ (module_named h x) ns → Closed ns (x ∷ h)

-- ---- one home
module_name : (a c : Named) (x y : Bytes) → a.what ≡ a_module x → c.what ≡ a_module y → a ≡ c → x ≡ y
module_name a c x y p q r = let s : a.what ≡ c.what = ap (λ (z : Named). z.what) r in cc

cons_head : (x y : Bytes) (xs ys : List Bytes) → x ∷ xs ≡ y ∷ ys → x ≡ y
cons_head x y xs ys p = cc

cons_tail : (x y : Bytes) (xs ys : List Bytes) → x ∷ xs ≡ y ∷ ys → xs ≡ ys
cons_tail x y xs ys p = cc

nil_cons : {X : Type 0} {x : Bytes} {xs : List Bytes} → [] ≡ x ∷ xs → X
nil_cons e = absurd (let z : ◌≡◌ {A = ℕ} 0 1 = cc in omega arith)

pub one_home : (ns : List Named) → Apart Same ns → {p q : List Bytes} → Closed ns p → Closed ns q → map to_snake p ≡ map to_snake q → p ≡ q
one_home ns a root root e = refl
one_home ns a root (into c m) e = nil_cons e
one_home ns a (into c m) root e = nil_cons (sym e)
one_home ns a (into {x = x} {h = h} c m) (into {x = y} {h = k} d n) e =
    let same_home : h ≡ k = one_home ns a c d (cons_tail (to_snake x) (to_snake y) (map to_snake h) (map to_snake k) e) in
    let same_segment : x ≡ y = module_name (module_named h x) (module_named k y) x y refl refl (apart_same Same same_sym a m n (same_home, cons_head (to_snake x) (to_snake y) (map to_snake h) (map to_snake k) e)) in
    cc

-- ---- packages
modules_closed : (ns : List Named) (h xs : List Bytes) → Every DotFree h → Every DotFree xs → Closed ns h
    → ((m : PackageModule) → Memᴰ m (modules_in (scope_of h) xs) → Memᴰ (package_named m) ns)
    → Closed ns (reverse_aux xs h) × ((m : PackageModule) → Memᴰ m (modules_in (scope_of h) xs) → Closed ns (reverse (local_path m.home)))
unfolding modules_in
modules_closed ns h [] f g c k = (c, λ m i. absurd (mathlib.Core.List.Memᴰ.not-nil i))
modules_closed ns h (x ∷ xs) f g c k =
    let first : PackageModule = record { home = scope_of h; segment = x } in
    let here : reverse (local_path (scope_of h)) ≡ h = names_of_scope h f in
    let there : Memᴰ (module_named h x) ns = subst (λ (l : List Bytes). Memᴰ (module_named l x) ns) here (k first (mathlib.Core.List.Memᴰ.head refl)) in
    let (last, deeper) = modules_closed ns (x ∷ h) xs (g.0, f) g.1 (into c there) (λ m i. k m (mathlib.Core.List.Memᴰ.tail i)) in
    (last, λ m i. ⊎_elim (λ e. subst (λ (z : PackageModule). Closed ns (reverse (local_path z.home))) (sym e) (subst (λ (l : List Bytes). Closed ns l) (sym here) c)) (λ j. deeper m j) (mathlib.Core.List.Memᴰ.cases_cons i))

-- ---- what stands in closed homes
abbrev HomeClosed : List Named → Named → Type 0
HomeClosed ns n = Closed ns n.home

module _ (rs : List Setting) (ns : List Named) where
  closed_enums : (h : List Bytes) → Closed ns h → (es : List EnumDescriptor) → Every (HomeClosed ns) (enum_nameds rs h es)
  closed_enums h c [] = tt
  closed_enums h c (e ∷ es) =
      every_append (HomeClosed ns) (choose (taken rs (scope_of (text e.name ∷ h))) [] (type_named h (text e.name) ∷ [])) (enum_nameds rs h es)
      (choose_case (Every (HomeClosed ns)) (taken rs (scope_of (text e.name ∷ h))) (λ _. tt) (λ _. (c, tt))) (closed_enums h c es)

  closed_oneofs : (h : List Bytes) → Closed ns h → (xs : List OneofField) → Every (HomeClosed ns) (map (oneof_named h) xs)
  closed_oneofs h c [] = tt
  closed_oneofs h c (x ∷ xs) = (c, closed_oneofs h c xs)

  closed_messages : (h : List Bytes) → Closed ns h → (ms : Forest MessageDescriptor) → Within (message_nameds rs h ms) ns → Every (HomeClosed ns) (message_nameds rs h ms)
  unfolding message_nameds
  closed_messages h c done w = tt
  closed_messages h c (node m nested following) w =
      let full = text m.name ∷ h in
      let inner = message_nameds rs full nested in
      let es = enum_nameds rs full m.enums in
      let os = map (oneof_named full) (oneof_fields m nested) in
      let here = choose (m.map_entry || taken rs (scope_of full)) [] (node_nameds rs h m nested inner) in
      every_append (HomeClosed ns) here (message_nameds rs h following)
      (choose_case (λ (l : List Named). Within l ns → Every (HomeClosed ns) l) (m.map_entry || taken rs (scope_of full)) (λ _ v. tt)
      (λ _ v. (
        c,
        choose_case (λ (l : List Named). Within l ns → Every (HomeClosed ns) l) (has_module m nested)
            (λ _ u.
            let d : Closed ns full = into c (u (module_named h (text m.name)) (mathlib.Core.List.Memᴰ.head refl)) in (
              c,
              every_append (HomeClosed ns) inner (es ++ os) (closed_messages full d nested (λ n i. u n (mathlib.Core.List.Memᴰ.tail (mathlib.Core.List.Memᴰ.append_left (es ++ os) i))))
                  (every_append (HomeClosed ns) es os (closed_enums full d m.enums) (closed_oneofs full d (oneof_fields m nested))),
            ))
            (λ _ u. tt) (λ n i. v n (mathlib.Core.List.Memᴰ.tail i)),
      ))
      (λ n i. w n (mathlib.Core.List.Memᴰ.append_left (message_nameds rs h following) i)))
      (closed_messages h c following (λ n i. w n (mathlib.Core.List.Memᴰ.append_right here i)))

pub every_at : {A : Type 0} (P : A → Type 0) (xs : List A) {x : A} → Every P xs → Memᴰ x xs → P x
every_at P [] p m = absurd (mathlib.Core.List.Memᴰ.not-nil m)
every_at P (y ∷ xs) p m = ⊎_elim (λ e. subst P (sym e) p.0) (λ n. every_at P xs p.1 n) (mathlib.Core.List.Memᴰ.cases_cons m)

module _ (rs : List Setting) (set : List FileDescriptor) where
  abbrev ns : List Named
  ns = whole rs set

  file_modules_closed : (f : FileDescriptor) → Memᴰ f set
      → Closed ns (package_names f) × ((m : PackageModule) → Memᴰ m (file_modules f) → Closed ns (reverse (local_path m.home)))
  unfolding whole package_modules
  file_modules_closed f i =
      modules_closed ns [] (local_path (package_scope f.package_name)) tt (path_dot_free (package_scope f.package_name)) root
      (λ m k. mathlib.Core.List.Memᴰ.append_left (all_of (file_nameds rs) set) (mathlib.Core.List.Memᴰ.map package_named (mem_once m (all_of file_modules set) (mem_all_of file_modules set i k))))

  pub file_within : (f : FileDescriptor) → Memᴰ f set → Within (file_nameds rs f) ns
  unfolding whole
  file_within f i n k = mathlib.Core.List.Memᴰ.append_right (map package_named (package_modules set)) (mem_all_of (file_nameds rs) set i k)

  pub package_closed : (f : FileDescriptor) → Memᴰ f set → Closed ns (package_names f)
  package_closed f i = (file_modules_closed f i).0

  file_closed : (f : FileDescriptor) → Memᴰ f set → Every (HomeClosed ns) (file_nameds rs f)
  unfolding file_nameds
  file_closed f i =
      let h = package_names f in
      let messages = message_nameds rs h f.messages in
      let enums = enum_nameds rs h f.enums in
      every_append (HomeClosed ns) messages enums
      (closed_messages rs ns h (package_closed f i) f.messages (λ n k. file_within f i n (mathlib.Core.List.Memᴰ.append_left enums k)))
      (closed_enums rs ns h (package_closed f i) f.enums)

  pub home_closed : (n : Named) → Memᴰ n ns → Closed ns n.home
  unfolding whole package_modules
  home_closed n k =
      ⊎_elim
      (λ i.
      let (m, j, e) = mathlib.Core.List.Memᴰ.of_map package_named (package_modules set) i in
      let (f, p, q) = of_all_of file_modules set (once_mem m (all_of file_modules set) j) in
      subst (λ (z : Named). Closed ns z.home) e ((file_modules_closed f p).1 m q))
      (λ i. let (f, p, q) = of_all_of (file_nameds rs) set i in every_at (HomeClosed ns) (file_nameds rs f) (file_closed f p) q)
      (mathlib.Core.List.Memᴰ.append_cases (map package_named (package_modules set)) k)
