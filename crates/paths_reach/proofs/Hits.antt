-- A path that leads to a home, and ends in the name of what stands there, reaches just that. Assumes nothing.
use Rattle.std.specs.Prelude.{ℕ, ◌≤◌, ◌+◌, ◌≡◌, Bool, true, false, ◌&&◌, not}
use Rattle.std.proofs.Math.Path.{refl, ap, sym}
use Rattle.std.proofs.Common.{◌∙◌, subst, arith}
use Rattle.std.proofs.Math.Option.{some}
use mathlib.Core.List.Memᴰ
use mathlib.Core.List.{List, [], ◌∷◌, ◌++◌, map, reverse, reverse_aux, reverse_aux-append, reverse_aux-eq, reverse-reverse, Memᴰ}
use Rattle.std.proofs.Math.ListN.{length, drop, length-reverse_aux}
use Rattle.std.proofs.lemmas.List.{length-map, length-reverse}
use Rattle.std.proofs.Math.Seq.{drop-append_seam}
use Rattle.base.specs.Choose.{choose}
use Rattle.base.specs.Bytes.{same, same_refl, same_sound}
use Rattle.base.specs.Tests.{both_ways, and_left, and_right, and_both}
use Rattle.base.specs.Lists.{Every}
use Rattle.ident.specs.Ident.{to_snake, to_upper_camel}
use Rattle.descriptor.specs.Descriptor.{Bytes, FileDescriptor}
use Rattle.options.specs.Settings.{Setting}
use Rattle.code_generator.specs.Piece.{Ref, spelt}
use Rattle.code_generator.specs.Resolve.{skip_common, way}
use Rattle.name_check.specs.NameCheck.{name_check}
use Rattle.sights.specs.Events.{WrittenPath, written_path}
use Rattle.sights.specs.Sights.{Item, Use}
use Rattle.paths_reach.specs.Reach.{world, those, same_names, stands_at, Through, stay, go_in, ReachesOne}
use Rattle.paths_reach.specs.Apart.{Apart, apart_map, those_one}
use Rattle.paths_reach.specs.Dots.{DotFree, scope_of, path_of_scope, ident_path_is, ident_type_is}
use Rattle.paths_reach.specs.Written.{Named, item_of, mark_of, a_declaration, module_named}
use Rattle.paths_reach.specs.Homes.{whole, world_is, names_apart, Same}
use Rattle.paths_reach.specs.Closed.{Closed, into, one_home, home_closed}

-- ---- from the module h a path leads, on the names of the set: out to a module, and in by these names
pub record Leads (h : List Bytes) (p : WrittenPath) (to : List Bytes) : Type 0 where
  pub turn : List Bytes
  pub steps : List Bytes
  pub out : p.supers ≤ length h
  pub back : drop p.supers (map to_snake h) ≡ map to_snake turn
  pub inwards : p.modules ≡ map to_snake steps
  pub meets : to ≡ reverse_aux steps turn

-- resolve_ident skips what two paths have in common
skip_split : (xs ys : List Bytes) → (c : List Bytes) × (xs ≡ c ++ (skip_common xs ys).0) × (ys ≡ c ++ (skip_common xs ys).1)
unfolding skip_common choose
skip_split [] ys = ([], refl, refl)
skip_split (x ∷ xs) [] = ([], refl, refl)
skip_split (x ∷ xs) (y ∷ ys) = go (same x y) refl (skip_split xs ys)
  where
    go : (t : Bool) → same x y ≡ t → (c : List Bytes) × (xs ≡ c ++ (skip_common xs ys).0) × (ys ≡ c ++ (skip_common xs ys).1)
        → let r : (List Bytes × List Bytes) = choose t (skip_common xs ys) (x ∷ xs, y ∷ ys) in (c : List Bytes) × (x ∷ xs ≡ c ++ r.0) × (y ∷ ys ≡ c ++ r.1)
    go true e (c, p, q) = let f : x ≡ y = same_sound x y e in (x ∷ c, ap {B = List Bytes} (λ (l : List Bytes). x ∷ l) p, (cc))
    go false e ih = ([], refl, refl)

map_reverse_aux : (f : Bytes → Bytes) (xs ys : List Bytes) → map f (reverse_aux xs ys) ≡ reverse_aux (map f xs) (map f ys)
map_reverse_aux f [] ys = refl
map_reverse_aux f (x ∷ xs) ys = map_reverse_aux f xs (x ∷ ys)

drop_reverse_aux : (xs ys : List Bytes) → drop (length xs) (reverse_aux xs ys) ≡ ys
drop_reverse_aux xs ys = rw (reverse_aux-eq xs ys, ← length-reverse xs) (drop-append_seam (reverse xs) ys)

back_out : (c l : List Bytes) → drop (length l) (map to_snake (reverse_aux l c)) ≡ map to_snake c
back_out c l = rw (map_reverse_aux to_snake l c, ← length-map l to_snake, drop_reverse_aux (map to_snake l) (map to_snake c))

module _ (h th : List Bytes) (n : Bytes) (here : Every DotFree h) (there : Every DotFree (n ∷ th)) where
  left : List Bytes
  left = (skip_common (reverse h) (reverse th)).0

  ahead : List Bytes
  ahead = (skip_common (reverse h) (reverse th)).1

  way_supers : (way (scope_of h) (scope_of (n ∷ th))).supers ≡ length left
  unfolding way left
  way_supers = rw (path_of_scope h here, ident_path_is th n there) refl

  way_modules : (way (scope_of h) (scope_of (n ∷ th))).modules ≡ ahead
  unfolding way ahead
  way_modules = rw (path_of_scope h here, ident_path_is th n there) refl

  pub way_last : spelt (way (scope_of h) (scope_of (n ∷ th))).last ≡ to_upper_camel n
  unfolding way
  way_last = rw (ident_type_is th n there) refl

  pub way_leads : Leads h (written_path (way (scope_of h) (scope_of (n ∷ th)))) th
  unfolding left ahead
  way_leads = go (skip_split (reverse h) (reverse th))
    where
      go : (c : List Bytes) × (reverse h ≡ c ++ left) × (reverse th ≡ c ++ ahead) → Leads h (written_path (way (scope_of h) (scope_of (n ∷ th)))) th
      go (c, p, q) =
          let home_is : h ≡ reverse_aux left (reverse c) = sym (reverse-reverse h) ∙ ap (λ (z : List Bytes). reverse z) p ∙ reverse_aux-append c left [] in
          let target_is : th ≡ reverse_aux ahead (reverse c) = sym (reverse-reverse th) ∙ ap (λ (z : List Bytes). reverse z) q ∙ reverse_aux-append c ahead [] in
          let size : length h ≡ length left + length (reverse c) = ap length home_is ∙ length-reverse_aux left (reverse c) in
          record {
            turn = reverse c;
            steps = ahead;
            out = rw way_supers (omega arith);
            back = ap (λ (z : ℕ). drop z (map to_snake h)) way_supers ∙ ap (λ (z : List Bytes). drop (length left) (map to_snake z)) home_is ∙ back_out (reverse c) left;
            inwards = ap (map to_snake) way_modules;
            meets = target_is;
          }

-- ---- what is found at a place
names_same : (xs ys : List Bytes) → xs ≡ ys → same_names xs ys ≡ true
unfolding same_names
names_same xs ys e = subst (λ (l : List Bytes). same_names xs l ≡ true) e (itself xs)
  where
    itself : (l : List Bytes) → same_names l l ≡ true
    itself [] = refl
    itself (x ∷ l) = and_both (same_refl x) (itself l)

names_sound : (xs ys : List Bytes) → same_names xs ys ≡ true → xs ≡ ys
unfolding same_names
names_sound [] [] h = refl
names_sound [] (y ∷ ys) h = both_ways h refl
names_sound (x ∷ xs) [] h = both_ways h refl
names_sound (x ∷ xs) (y ∷ ys) h =
    let p = same_sound x y (and_left (same x y) (same_names xs ys) h) in let q = names_sound xs ys (and_right (same x y) (same_names xs ys) h) in cc

abbrev pub SameItem : Item → Item → Type 0
SameItem a c = (a.place ≡ c.place) × (a.name ≡ c.name)

pub item_sym : (a c : Item) → SameItem a c → SameItem c a
item_sym a c (p, q) = (sym p, sym q)

-- an item that passes a further test is the only one at its place
only_item : (w : List Item) → Apart SameItem w → (place : List Bytes) (name : Bytes) (k : Item → Bool) (i : Item) → Memᴰ i w → i.place ≡ place → i.name ≡ name → k i ≡ true
    → those (λ (z : Item). stands_at place name z && k z) w ≡ i ∷ []
only_item w a place name k i m p q t =
    let here : same_names i.place place ≡ true = names_same i.place place p in
    let so : same i.name name ≡ true = subst (λ (x : Bytes). same i.name x ≡ true) q (same_refl i.name) in
    those_one SameItem item_sym (λ (z : Item). stands_at place name z && k z) w a i m (and_both (and_both here so) t)
    (λ y n r.
    let at : stands_at place name y ≡ true = and_left (stands_at place name y) (k y) r in
    (p ∙ sym (names_sound y.place place (and_left (same_names y.place place) (same y.name name) at)), q ∙ sym (same_sound y.name name (and_right (same_names y.place place) (same y.name name) at))))

-- ---- a path and what it is for
pub record Hits (ns : List Named) (h : List Bytes) (p : WrittenPath) (r : Ref) : Type 0 where
  pub goal : Named
  pub there : Memᴰ goal ns
  pub for : goal.what ≡ a_declaration r
  pub way_in : Leads h p goal.home
  pub way_end : p.last ≡ goal.name

module _ (rs : List Setting) (set : List FileDescriptor) (says_yes : name_check rs set ≡ true) where
  abbrev ns : List Named
  ns = whole rs set

  abbrev seen : List Item
  seen = map item_of (whole rs set)

  seen_apart : Apart SameItem seen
  seen_apart =
      apart_map Same SameItem item_of ns (λ a c m n (p, q). (one_home ns (names_apart rs set says_yes) (home_closed rs set a m) (home_closed rs set c n) p, q)) (names_apart rs set says_yes)

  -- no two items stand at one place with one name
  pub items_apart : Apart SameItem (world rs set)
  items_apart = rw (world_is rs set) seen_apart

  closed_turn : (steps turn : List Bytes) → Closed ns (reverse_aux steps turn) → Closed ns turn
  closed_turn [] turn c = c
  closed_turn (x ∷ steps) turn c = up (closed_turn steps (x ∷ turn) c)
    where
      up : Closed ns (x ∷ turn) → Closed ns turn
      up (into d m) = d

  go_through : (steps turn : List Bytes) → Closed ns (reverse_aux steps turn) → Through seen (map to_snake turn) (map to_snake steps)
  go_through [] turn c = stay
  go_through (x ∷ steps) turn c = next (closed_turn steps (x ∷ turn) c) (go_through steps (x ∷ turn) c)
    where
      next : Closed ns (x ∷ turn) → Through seen (map to_snake (x ∷ turn)) (map to_snake steps) → Through seen (map to_snake turn) (map to_snake (x ∷ steps))
      next (into d m) r =
          go_in (item_of (module_named turn x))
          (only_item seen seen_apart (map to_snake turn) (to_snake x) (λ (z : Item). z.is_module) (item_of (module_named turn x)) (Memᴰ.map item_of m) refl refl refl) r

  hits_one : (h : List Bytes) (r : Ref) (u : Use) → u.place ≡ map to_snake h → u.mark ≡ some r → Hits ns h u.path r → ReachesOne seen u
  hits_one h r u at marked k =
      let l = k.way_in in
      let g = k.goal in
      let closed : Closed ns (reverse_aux l.steps l.turn) = subst (λ (z : List Bytes). Closed ns z) l.meets (home_closed rs set g k.there) in
      let outside_is : drop u.path.supers u.place ≡ map to_snake l.turn = ap (λ (z : List Bytes). drop u.path.supers z) at ∙ l.back in
      let inside_is : reverse_aux u.path.modules (drop u.path.supers u.place) ≡ map to_snake g.home =
      rw (outside_is, l.inwards, l.meets) (sym (map_reverse_aux to_snake l.steps l.turn)) in
      record {
        out = rw (at, length-map h to_snake) l.out;
        through = rw (outside_is, l.inwards) (go_through l.steps l.turn closed);
        reached = item_of g;
        only =
            only_item seen seen_apart (reverse_aux u.path.modules (drop u.path.supers u.place)) u.path.last (λ (z : Item). not z.is_module) (item_of g) (Memᴰ.map item_of k.there) (sym inside_is) (sym k.way_end) (rw k.for refl);
        for = r;
        meant = marked;
        right = ap mark_of k.for;
      }

  pub reaches : (h : List Bytes) (r : Ref) (u : Use) → u.place ≡ map to_snake h → u.mark ≡ some r → Hits ns h u.path r → ReachesOne (world rs set) u
  reaches h r u at marked k = rw (world_is rs set) (hits_one h r u at marked k)
