-- The declaration around a path or a Box that is seen is seen itself. Assumes nothing.
use Rattle.std.specs.Prelude.{ℕ, ◌≡◌, refl}
use Rattle.std.proofs.Common.{sym, subst, ⊎_elim, arith}
use Rattle.std.proofs.Math.Option.{Option, some, none}
use mathlib.Core.List.Memᴰ
use mathlib.Core.List.{List, [], ◌∷◌, ◌++◌, Memᴰ}
use Rattle.base.specs.Lists.{Every, every_of, every_to, all_of}
use Rattle.descriptor.specs.Descriptor.{Bytes, FileDescriptor}
use Rattle.options.specs.Settings.{Setting}
use Rattle.code_generator.specs.Piece.{pieces, Wrap, opt, vec, box, table}
use Rattle.code_generator.specs.Generate.{generate}
use Rattle.sights.specs.Events.{Event, open_module, open_declaration, open_block, close_block, open_field, close_field, open_tag, close_tag, open_wrap, close_wrap, meet_path, events}
use Rattle.sights.specs.Sights.{Item, Use, BoxUse, Sight, an_item, a_path, a_box, Frame, in_module, in_declaration, in_block, in_field, in_tag, in_wrap, owner_of, closed, declaration_at, box_seen, read, file_place, file_sights, set_sights, items, uses, boxes}
use Rattle.paths_reach.specs.Seen.{Fine, fine_uses, items_append, every_mem}

same_item : (i j : Item) → some i ≡ some j → i ≡ j
same_item i j e = cc

no_item : {X : Type 0} (i : Item) → ◌≡◌ {A = Option Item} none (some i) → X
no_item i e = absurd (let z : ◌≡◌ {A = ℕ} 0 1 = cc in omega arith)

module _ (P : Item → Type 0) where
  -- what holds of the declarations that are open
  abbrev Open : Frame → Type 0
  Open (in_module n) = Unit
  Open (in_declaration i) = P i
  Open in_block = Unit
  Open (in_field l) = Unit
  Open in_tag = Unit
  Open (in_wrap w) = Unit

  abbrev Owner : Option Item → Type 0
  Owner o = (i : Item) → o ≡ some i → P i

  -- of what is seen: what holds of the declaration around it
  abbrev Around : Sight → Type 0
  Around (an_item i) = Unit
  Around (a_path u) = Owner u.owner
  Around (a_box x) = Owner x.owner

  path_owner : (ss : List Sight) → Every Around ss → (u : Use) → Memᴰ u (uses ss) → Owner u.owner
  path_owner ss h = fine_uses (λ (u : Use). Owner u.owner) ss (every_to (λ s. fine s) ss h)
    where
      fine : (s : Sight) → Around s → Fine (λ (u : Use). Owner u.owner) s
      fine (an_item i) a = tt
      fine (a_path u) a = a
      fine (a_box x) a = tt

  box_owner : (ss : List Sight) → Every Around ss → (x : BoxUse) → Memᴰ x (boxes ss) → Owner x.owner
  box_owner [] h x m = absurd (Memᴰ.not-nil m)
  box_owner (an_item i ∷ ss) h x m = box_owner ss h.1 x m
  box_owner (a_path u ∷ ss) h x m = box_owner ss h.1 x m
  box_owner (a_box y ∷ ss) h x m = ⊎_elim (λ e. subst (λ (z : BoxUse). Owner z.owner) (sym e) h.0) (λ n. box_owner ss h.1 x n) (Memᴰ.cases_cons m)

  open_owner : (fs : List Frame) → Every Open fs → (i : Item) → owner_of fs ≡ some i → P i
  open_owner [] h i e = no_item i e
  open_owner (in_module n ∷ fs) h i e = no_item i e
  open_owner (in_declaration j ∷ fs) h i e = subst P (same_item j i e) h.0
  open_owner (in_block ∷ fs) h i e = open_owner fs h.1 i e
  open_owner (in_field l ∷ fs) h i e = open_owner fs h.1 i e
  open_owner (in_tag ∷ fs) h i e = open_owner fs h.1 i e
  open_owner (in_wrap w ∷ fs) h i e = open_owner fs h.1 i e

  open_closed : (fs : List Frame) → Every Open fs → Every Open (closed fs)
  open_closed [] h = tt
  open_closed (x ∷ fs) h = h.1

  box_owned : (w : Wrap) (fs : List Frame) (ss : List Sight) → Every Open fs → Every Around ss → Every Around (box_seen w fs ++ ss)
  box_owned opt fs ss o h = h
  box_owned vec fs ss o h = h
  box_owned box fs ss o h = (open_owner fs o, h)
  box_owned table fs ss o h = h

  box_items : (w : Wrap) (fs : List Frame) (ss : List Sight) → items (box_seen w fs ++ ss) ≡ items ss
  box_items opt fs ss = refl
  box_items vec fs ss = refl
  box_items box fs ss = refl
  box_items table fs ss = refl

  owners : (base : List Bytes) (fs : List Frame) (es : List Event) → Every Open fs → ((i : Item) → Memᴰ i (items (read base fs es)) → P i) → Every Around (read base fs es)
  owners base fs [] h k = tt
  owners base fs (open_module n ∷ es) h k = (tt, owners base (in_module n ∷ fs) es (tt, h) (λ i m. k i (Memᴰ.tail m)))
  owners base fs (open_declaration r n ∷ es) h k =
      let d = declaration_at base fs r n in
      (tt, owners base (in_declaration d ∷ fs) es (k d (Memᴰ.head refl), h) (λ i m. k i (Memᴰ.tail m)))
  owners base fs (open_block ∷ es) h k = owners base (in_block ∷ fs) es (tt, h) k
  owners base fs (close_block ∷ es) h k = owners base (closed fs) es (open_closed fs h) k
  owners base fs (open_field o n ∷ es) h k = owners base (in_field (record { name = n; mark = o }) ∷ fs) es (tt, h) k
  owners base fs (close_field ∷ es) h k = owners base (closed fs) es (open_closed fs h) k
  owners base fs (open_tag ∷ es) h k = owners base (in_tag ∷ fs) es (tt, h) k
  owners base fs (close_tag ∷ es) h k = owners base (closed fs) es (open_closed fs h) k
  owners base fs (open_wrap w ∷ es) h k =
      let ss = read base (in_wrap w ∷ fs) es in
      box_owned w fs ss h (owners base (in_wrap w ∷ fs) es (tt, h) (λ i m. k i (subst (λ (l : List Item). Memᴰ i l) (sym (box_items w fs ss)) m)))
  owners base fs (close_wrap ∷ es) h k = owners base (closed fs) es (open_closed fs h) k
  owners base fs (meet_path r p ∷ es) h k = (open_owner fs h, owners base fs es h k)

-- the items of each text are among those of all
pub items_all : {A : Type 0} (g : A → List Sight) (xs : List A) (x : A) → Memᴰ x xs → (i : Item) → Memᴰ i (items (g x)) → Memᴰ i (items (all_of g xs))
unfolding all_of
items_all g [] x m i n = absurd (Memᴰ.not-nil m)
items_all {A} g (y ∷ xs) x m i n =
    subst (λ (l : List Item). Memᴰ i l) (sym (items_append (g y) (all_of g xs)))
    (⊎_elim (λ e. Memᴰ.append_left (items (all_of g xs)) (subst (λ (z : A). Memᴰ i (items (g z))) e n)) (λ k. Memᴰ.append_right (items (g y)) (items_all g xs x k i n)) (Memᴰ.cases_cons m))

module _ (rs : List Setting) (set : List FileDescriptor) where
  abbrev Seen : Item → Type 0
  Seen i = Memᴰ i (items (set_sights rs set))

  all_around : Every (Around Seen) (set_sights rs set)
  unfolding set_sights file_sights
  all_around =
      every_of (Around Seen) (file_sights rs set) set
      (every_mem (λ (f : FileDescriptor). Every (Around Seen) (file_sights rs set f)) set
      (λ f m. owners Seen (file_place f) [] (events (pieces (generate rs set f))) tt (items_all (file_sights rs set) set f m)))

  pub owners_seen : (u : Use) → Memᴰ u (uses (set_sights rs set)) → (i : Item) → u.owner ≡ some i → Memᴰ i (items (set_sights rs set))
  owners_seen = path_owner Seen (set_sights rs set) all_around

  pub box_owners_seen : (x : BoxUse) → Memᴰ x (boxes (set_sights rs set)) → (i : Item) → x.owner ≡ some i → Memᴰ i (items (set_sights rs set))
  box_owners_seen = box_owner Seen (set_sights rs set) all_around
