-- Clause 3 of demand 3 without the marks, which no text shows: what a reader sees that gives items and paths by their names alone.
use Rattle.std.specs.Prelude.{◌≡◌, refl, Bool, false, ◌&&◌, ◌⊎◌, drop, Ok}
use Rattle.std.proofs.Math.Path.{ap, sym, subst}
use Rattle.std.proofs.Common.{◌∙◌, inl, inr, ⊎_elim}
use Rattle.std.proofs.Math.Bool.{true, not}
use Rattle.std.proofs.Math.Option.{some}
use mathlib.Core.List.Memᴰ
use mathlib.Core.List.{List, [], ◌∷◌, map, reverse_aux, Memᴰ}
use Rattle.base.specs.Choose.{choose}
use Rattle.base.specs.Bytes.{same}
use Rattle.base.specs.Tests.{both_ways}
use Rattle.descriptor.specs.Descriptor.{Bytes, FileDescriptor}
use Rattle.options.specs.Settings.{Setting}
use Rattle.name_rules.specs.Answer.{names}
use Rattle.name_check.specs.NameCheck.{name_check, package_modules}
use Rattle.sights.specs.Events.{WrittenPath}
use Rattle.sights.specs.Sights.{Item, Use, set_sights, uses}
use Rattle.paths_reach.specs.Reach.{package_item, world, those, same_names, is_that_declaration, inside}
use Rattle.paths_reach.specs.Apart.{apart_same}
use Rattle.paths_reach.proofs.Hits.{SameItem, item_sym, items_apart}
use Rattle.walks_end.specs.Walks.{group_free, only_options, Step, Walk, last, more}
use Rattle.walks_end.specs.Owners.{owners_seen}
use Rattle.walks_end.proofs.WalksEnd.{walks_end}

-- all but the marks is kept of an item, and of a path
pub record Keeps (item : Item → Item) (use_of : Use → Use) : Type 0 where
  pub item_place : (i : Item) → (item i).place ≡ i.place
  pub item_name : (i : Item) → (item i).name ≡ i.name
  pub is_module : (i : Item) → (item i).is_module ≡ i.is_module
  pub place : (u : Use) → (use_of u).place ≡ u.place
  pub path : (u : Use) → (use_of u).path ≡ u.path
  pub wraps : (u : Use) → (use_of u).wraps ≡ u.wraps
  pub in_tag : (u : Use) → (use_of u).in_tag ≡ u.in_tag
  pub owner : (u : Use) (i : Item) → (use_of u).owner ≡ some i → (j : Item) × (u.owner ≡ some j) × (item j ≡ i)

-- ---- what a test finds
pub those_mem : {A : Type 0} (p : A → Bool) (xs : List A) (x : A) → Memᴰ x (those p xs) → Memᴰ x xs × (p x ≡ true)
unfolding those choose
those_mem p [] x m = absurd (Memᴰ.not-nil m)
those_mem {A} p (y ∷ xs) x m = go (p y) refl m (those_mem p xs x)
  where
    go : (t : Bool) → p y ≡ t → Memᴰ x (choose t (y ∷ those p xs) (those p xs)) → (Memᴰ x (those p xs) → Memᴰ x xs × (p x ≡ true)) → Memᴰ x (y ∷ xs) × (p x ≡ true)
    go true e n rest = ⊎_elim (λ q. (Memᴰ.head q, subst (λ (z : A). p z ≡ true) (sym q) e)) (λ k. let r = rest k in (Memᴰ.tail r.0, r.1)) (Memᴰ.cases_cons n)
    go false e n rest = let r = rest n in (Memᴰ.tail r.0, r.1)

pub mem_those : {A : Type 0} (p : A → Bool) (xs : List A) (x : A) → Memᴰ x xs → p x ≡ true → Memᴰ x (those p xs)
unfolding those choose
mem_those p [] x m h = absurd (Memᴰ.not-nil m)
mem_those {A} p (y ∷ xs) x m h = go (p y) refl (Memᴰ.cases_cons m) (λ k. mem_those p xs x k h)
  where
    go : (t : Bool) → p y ≡ t → (x ≡ y) ⊎ Memᴰ x xs → (Memᴰ x xs → Memᴰ x (those p xs)) → Memᴰ x (choose t (y ∷ those p xs) (those p xs))
    go true e (inl q) rest = Memᴰ.head q
    go true e (inr k) rest = Memᴰ.tail (rest k)
    go false e (inl q) rest = both_ways h (ap p q ∙ e)
    go false e (inr k) rest = rest k

module _ (rs : List Setting) (set : List FileDescriptor) (good : names set ≡ Ok tt) (says_yes : name_check rs set ≡ true) (free : group_free set ≡ true)
    (item : Item → Item) (use_of : Use → Use) (keeps : Keeps item use_of)
  where
    abbrev us : List Use
    us = uses (set_sights rs set)

    -- a walk without marks, and the one that it comes from
    record Marked (a c : Item) : Type 0 where
      start : Item
      end : Item
      starts : item start ≡ a
      ends : item end ≡ c
      start_there : Memᴰ start (world rs set)
      end_there : Memᴰ end (world rs set)
      walk : Walk (world rs set) us start end

    one_item : (i j : Item) → Memᴰ i (world rs set) → Memᴰ j (world rs set) → item i ≡ item j → i ≡ j
    one_item i j m n e =
        apart_same SameItem item_sym (items_apart rs set says_yes) m n
        (sym (keeps.item_place i) ∙ ap (λ (z : Item). z.place) e ∙ keeps.item_place j, sym (keeps.item_name i) ∙ ap (λ (z : Item). z.name) e ∙ keeps.item_name j)

    marked_step : (a c : Item) → Step (map item (world rs set)) (map use_of us) a c → Marked a c
    unfolding world
    marked_step a c s =
        let (u, m, e) = Memᴰ.of_map use_of us s.seen in
        let (start, owner, starts) = keeps.owner u a (ap (λ (z : Use). z.owner) e ∙ s.stands_in) in
        let (c_there, c_passes) = those_mem (is_that_declaration (inside s.path) s.path.path.last) (map item (world rs set)) c s.leads_to in
        let (end, n, ends) = Memᴰ.of_map item (world rs set) c_there in
        let place : s.path.place ≡ u.place = ap (λ (z : Use). z.place) (sym e) ∙ keeps.place u in
        let path : s.path.path ≡ u.path = ap (λ (z : Use). z.path) (sym e) ∙ keeps.path u in
        let passes : is_that_declaration (inside u) u.path.last end ≡ true =
        subst (λ (z : Bool). (same_names end.place (inside u) && same end.name u.path.last) && not z ≡ true) (keeps.is_module end)
        (subst (λ (z : List Bytes). (same_names z (inside u) && same end.name u.path.last) && not (item end).is_module ≡ true) (keeps.item_place end)
        (subst (λ (z : Bytes). (same_names (item end).place (inside u) && same z u.path.last) && not (item end).is_module ≡ true) (keeps.item_name end)
        (subst (λ (z : Item). is_that_declaration (inside u) u.path.last z ≡ true) (sym ends)
        (subst (λ (z : List Bytes). is_that_declaration (reverse_aux u.path.modules (drop u.path.supers z)) u.path.last c ≡ true) place
        (subst (λ (z : WrittenPath). is_that_declaration (reverse_aux z.modules (drop z.supers s.path.place)) z.last c ≡ true) path c_passes))))) in
        record {
          start = start;
          end = end;
          starts = starts;
          ends = ends;
          start_there = Memᴰ.append_right (map package_item (package_modules set)) (owners_seen rs set u m start owner);
          end_there = n;
          walk = last (record {
            path = u;
            seen = m;
            in_type = sym (keeps.in_tag u) ∙ ap (λ (z : Use). z.in_tag) e ∙ s.in_type;
            stands_in = owner;
            free = ap only_options (sym (keeps.wraps u) ∙ ap (λ (z : Use). z.wraps) e) ∙ s.free;
            leads_to = mem_those (is_that_declaration (inside u) u.path.last) (world rs set) end n passes;
          });
        }

    join : (a c d : Item) → Marked a c → Marked c d → Marked a d
    join a c d p q =
        let meet : p.end ≡ q.start = one_item p.end q.start p.end_there q.start_there (p.ends ∙ sym q.starts) in
        record {
          start = p.start;
          end = q.end;
          starts = p.starts;
          ends = q.ends;
          start_there = p.start_there;
          end_there = q.end_there;
          walk = on p.walk (subst (λ (z : Item). Walk (world rs set) us z q.end) (sym meet) q.walk);
        }
      where
        on : {x y z : Item} → Walk (world rs set) us x y → Walk (world rs set) us y z → Walk (world rs set) us x z
        on (last s) w = more s w
        on (more s v) w = more s (on v w)

    marked : (a c : Item) → Walk (map item (world rs set)) (map use_of us) a c → Marked a c
    marked a c (last s) = marked_step a c s
    marked a d (more {c = c} s w) = join a c d (marked_step a c s) (marked c d w)

    pub walks_end_unmarked : (d : Item) → Walk (map item (world rs set)) (map use_of (uses (set_sights rs set))) d d → ⊥
    walks_end_unmarked d w =
        let m = marked d d w in
        let same_end : m.start ≡ m.end = one_item m.start m.end m.start_there m.end_there (m.starts ∙ sym m.ends) in
        walks_end rs set good says_yes free m.end (subst (λ (z : Item). Walk (world rs set) us z m.end) same_end m.walk)
