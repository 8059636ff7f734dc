-- Clause 3 of demand 3: in a group-free set without refusals 6 and 7 for which the name check says yes, no walk comes back to where it starts,
-- boxed settings or not.
use Rattle.std.specs.Prelude.{ℕ, ◌≡◌, true, false, Ok}
use Rattle.std.proofs.Common.{ap, sym, ◌∙◌, subst, ⊎_elim, arith}
use Rattle.std.proofs.Math.Option.{Option, some, none}
use mathlib.Core.List.Memᴰ
use mathlib.Core.List.{List, [], ◌∷◌, Memᴰ}
use Rattle.base.specs.Tests.{both_ways}
use Rattle.descriptor.specs.Descriptor.{Bytes, FileDescriptor}
use Rattle.options.specs.Settings.{Setting}
use Rattle.name_rules.specs.FullNames.{set_entries}
use Rattle.name_rules.specs.Answer.{names}
use Rattle.context.specs.MessageGraph.{Link, links, is_nested}
use Rattle.context_laws.specs.Links.{Led}
use Rattle.context_laws.proofs.Links.{led_complete}
use Rattle.message_graph.specs.Walks.Walk.{stay, go}
use Rattle.code_generator.specs.Piece.{Ref, type, choice}
use Rattle.name_check.specs.NameCheck.{name_check}
use Rattle.sights.specs.Sights.{Item, set_sights, uses}
use Rattle.paths_reach.specs.Reach.{world}
use Rattle.paths_reach.proofs.PathsReach.{paths_reach}
use Rattle.walks_end.specs.Walks.{group_free, Step, Walk, last, more}
use Rattle.walks_end.specs.Origins.{owner_mark}
use Rattle.walks_end.proofs.Origins.{message_of, Origin, in_a_tag, held, of_oneof, of_link, origins}

-- the message whose struct or oneof enum a declaration is
abbrev message_in : Option Ref → Bytes
message_in none = []
message_in (some r) = message_of r

only_one : (x y : Item) → Memᴰ x (y ∷ []) → x ≡ y
only_one x y i = ⊎_elim (λ e. e) (λ j. absurd (Memᴰ.not-nil j)) (Memᴰ.cases_cons i)

module _ (set : List FileDescriptor) where
  abbrev all_links : List Link
  all_links = links (set_entries set)

  -- a step, by what its declarations are for
  data Goes (a c : Option Ref) : Type 0 where
    into_oneof : (full name : Bytes) → a ≡ some (type full) → c ≡ some (choice full name) → Goes a c
    along : (r : Ref) (to : Bytes) → a ≡ some r → c ≡ some (type to) → Memᴰ (record { from = message_of r; to = to }) all_links → is_nested set to (message_of r) ≡ false → Goes a c

  -- a walk: a step into a oneof alone, or one along a link first
  data First (a c : Option Ref) : Type 0 where
    oneof_alone : (full name : Bytes) → a ≡ some (type full) → c ≡ some (choice full name) → First a c
    link_first : (from to : Bytes) → message_in a ≡ from → is_nested set to from ≡ false → Led all_links to (message_in c) → First a c

  goes_led : (a c : Option Ref) (end : Bytes) → Goes a c → Led all_links (message_in c) end → Led all_links (message_in a) end
  goes_led a c end (into_oneof full name p q) l = rw p (rw q at l)
  goes_led a c end (along r to p q m b) l = go (record { from = message_of r; to = to }) m (sym (ap message_in p)) (rw q at l)

  type_or_oneof : {X : Type 0} (a : Option Ref) (m n x : Bytes) → a ≡ some (type m) → a ≡ some (choice n x) → X
  type_or_oneof a m n x p q = absurd (let z : ◌≡◌ {A = ℕ} 0 1 = cc in omega arith)

  first_one : (a c : Option Ref) → Goes a c → First a c
  first_one a c (into_oneof full name p q) = oneof_alone full name p q
  first_one a c (along r to p q m b) = link_first (message_of r) to (ap message_in p) b (rw q stay)

  first_more : (a c d : Option Ref) → Goes a c → First c d → Led all_links (message_in c) (message_in d) → First a d
  first_more a c d (along r to p q m b) f l = link_first (message_of r) to (ap message_in p) b (rw q at l)
  first_more a c d (into_oneof full name p q) (oneof_alone m n s t) l = type_or_oneof c m full name s q
  first_more a c d (into_oneof full name p q) (link_first from to s b k) l = link_first from to (ap message_in p ∙ sym (ap message_in q) ∙ s) b k

  comes_back : (a : Option Ref) → First a a → ⊥
  unfolding is_nested
  comes_back a (oneof_alone m n s t) = type_or_oneof a m m n s t
  comes_back a (link_first from to s b k) = both_ways (led_complete all_links to from (subst (λ (z : Bytes). Led all_links to z) s k)) b

module _ (rs : List Setting) (set : List FileDescriptor) (good : names set ≡ Ok tt) (says_yes : name_check rs set ≡ true) (free : group_free set ≡ true) where
  abbrev GoesOn : Item → Item → Type 0
  GoesOn = Walk (world rs set) (uses (set_sights rs set))

  step_goes : (a c : Item) → Step (world rs set) (uses (set_sights rs set)) a c → Goes set a.mark c.mark
  step_goes a c s =
      let u = s.path in
      let r = paths_reach rs set good says_yes u s.seen in
      let is : c ≡ r.reached = only_one c r.reached (subst (λ (l : List Item). Memᴰ c l) r.only s.leads_to) in
      let to : c.mark ≡ u.mark = ap (λ (i : Item). i.mark) is ∙ r.right ∙ sym r.meant in
      let from : owner_mark u.owner ≡ a.mark = ap owner_mark s.stands_in in
      by from to (origins rs set good free u s.seen)
    where
      by : owner_mark s.path.owner ≡ a.mark → c.mark ≡ s.path.mark → Origin set s.path → Goes set a.mark c.mark
      by from to (in_a_tag t) = both_ways t s.in_type
      by from to (held h) = both_ways s.free h
      by from to (of_oneof full name p q) = into_oneof full name (sym from ∙ p) (to ∙ q)
      by from to (of_link r t p q m b) = along r t (sym from ∙ p) (to ∙ q) m b

  walk_led : (a c : Item) → GoesOn a c → Led (links (set_entries set)) (message_in a.mark) (message_in c.mark)
  walk_led a c (last s) = goes_led set a.mark c.mark (message_in c.mark) (step_goes a c s) stay
  walk_led a d (more {c = c} s w) = goes_led set a.mark c.mark (message_in d.mark) (step_goes a c s) (walk_led c d w)

  walk_first : (a c : Item) → GoesOn a c → First set a.mark c.mark
  walk_first a c (last s) = first_one set a.mark c.mark (step_goes a c s)
  walk_first a d (more {c = c} s w) = first_more set a.mark c.mark d.mark (step_goes a c s) (walk_first c d w) (walk_led c d w)

  -- of no struct, and of no oneof's enum
  pub walks_end : (d : Item) → Walk (world rs set) (uses (set_sights rs set)) d d → ⊥
  walks_end d w = comes_back set d.mark (walk_first d d w)
