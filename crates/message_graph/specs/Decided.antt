-- The test `leadsb` says what `Leads` says. Assumes nothing.
use Rattle.std.specs.Prelude.{◌≡◌, true}
use Rattle.std.proofs.Math.Path.{refl, subst}
use Rattle.std.proofs.Common.{sym, ◌∙◌, le_of_suc-le-suc, not-suc-le-zero, eq-or-lt_of_le}
use Rattle.std.proofs.Math.Bool.{or-false}
use Rattle.std.proofs.Math.Logic.{⊎_elim}
use mathlib.Core.List.Memᴰ
use mathlib.Core.List.{List, [], ◌∷◌, Memᴰ}
use Prim.Native.Nat.{ℕ, zero, suc, ◌≤◌, ◌<◌}
use native.Mathlib.Omega.{arith}
use Rattle.std.proofs.Math.Dec.{eqb}
use borrow.Author.Tests.{eqb-true, eq-eqb}
use Rattle.base.specs.Choose.{choose, choose_case}
use Rattle.base.specs.Tests.{same_test}
use Rattle.message_graph.specs.Limit.{messages}
use Rattle.message_graph.specs.Fields.{Fields, size, owner_of, target_of, link, message_at_below}
use Rattle.message_graph.specs.Walks.{Walk, walks, walks_sound, walks_complete}
use Rattle.message_graph.specs.Walks.Walk.{stay, go}
use Rattle.message_graph.specs.Leads.{Leads, leads_by, leadsb, Decides}
use Rattle.message_graph.specs.Leads.Leads.{here, step}

-- those of the first n fields that are links, the last one first
unfoldable link_list : Fields → ℕ → List ℕ
link_list f zero = []
link_list f (suc i) = choose (link f i) (i ∷ link_list f i) (link_list f i)

module _ (f : Fields) where
  listed : (n i : ℕ) → Memᴰ i (link_list f n) → (i < n) × (link f i ≡ true)
  unfolding link_list
  listed zero i m = absurd (Memᴰ.not-nil m)
  listed (suc n) i m =
      choose_case (λ (l : List ℕ). Memᴰ i l → (i < suc n) × (link f i ≡ true)) (link f n)
      (λ is w. ⊎_elim (λ e. (omega arith, subst (λ (k : ℕ). link f k ≡ true) (sym e) is)) (λ v. let r = listed n i v in (omega arith, r.1)) (Memᴰ.cases_cons w))
      (λ isnt w. let r = listed n i w in (omega arith, r.1))
      m

  lists : (n i : ℕ) → i < n → link f i ≡ true → Memᴰ i (link_list f n)
  unfolding link_list choose
  lists zero i lt is = absurd (not-suc-le-zero lt)
  lists (suc n) i lt is =
      ⊎_elim (λ e. rw (subst (λ (k : ℕ). link f k ≡ true) e is) (Memᴰ.head e))
      (λ l. choose_case (λ (l : List ℕ). Memᴰ i l) (link f n) (λ w. Memᴰ.tail (lists n i l is)) (λ w. lists n i l is))
      (eq-or-lt_of_le (le_of_suc-le-suc lt))

  -- `leads_by` is the test of walks along them
  walks_by : (n a b : ℕ) → leads_by f n a b ≡ walks (owner_of f) (target_of f) eqb (link_list f n) a b
  unfolding leads_by link_list walks
  walks_by zero a b = refl
  walks_by (suc n) a b =
      choose_case (λ (l : List ℕ). leads_by f (suc n) a b ≡ walks (owner_of f) (target_of f) eqb l a b) (link f n)
      (λ is. rw (is, walks_by n a b, walks_by n a (owner_of f n), walks_by n (target_of f n) b))
      (λ isnt. rw (isnt, or-false) (walks_by n a b))

module _ {f : Fields} where
  pub join : {a b c : ℕ} → Leads f a b → Leads f b c → Leads f a c
  join here q = q
  join (step l p) q = step l (join p q)

  to : {a b : ℕ} → Walk (owner_of f) (target_of f) (link_list f (size f)) a b → Leads f a b
  to stay = here
  to (go i m from p) = let r = listed f (size f) i m in step (record { field = i; within = r.0; is = r.1; from = from; to = refl }) (to p)

  from : {a b : ℕ} → Leads f a b → Walk (owner_of f) (target_of f) (link_list f (size f)) a b
  from here = stay
  from {a} {b} (step l p) =
      go l.field (lists f (size f) l.field l.within l.is) l.from
      (subst (λ (x : ℕ). Walk (owner_of f) (target_of f) (link_list f (size f)) x b) (sym l.to) (from p))

module _ (f : Fields) where
  pub leads_sound : (a b : ℕ) → leadsb f a b ≡ true → Leads f a b
  unfolding leadsb
  leads_sound a b e = to (walks_sound (owner_of f) (target_of f) eqb eqb-true (link_list f (size f)) a b (sym (walks_by f (size f) a b) ∙ e))

  pub leads_complete : (a b : ℕ) → Leads f a b → leadsb f a b ≡ true
  unfolding leadsb
  leads_complete a b p = walks_by f (size f) a b ∙ walks_complete (owner_of f) (target_of f) eqb eq-eqb (link_list f (size f)) a b (from p)

pub decides : (f : Fields) → Decides f
decides f = record { sound = leads_sound f; complete = leads_complete f }

-- a number that no message can have leads to itself alone, and only itself leads to it

module _ {f : Fields} where
  from_outside : {a b : ℕ} → Leads f a b → messages ≤ a → a ≡ b
  from_outside here h = refl
  from_outside {a} (step l p) h =
      let below = message_at_below f.owner l.field in
      let is = l.from in
      absurd (omega arith)

  to_outside : {a b : ℕ} → Leads f a b → messages ≤ b → a ≡ b
  to_outside here h = refl
  to_outside (step l p) h =
      let below = message_at_below f.target l.field in
      let is = l.to in
      let same = to_outside p h in
      absurd (omega arith)

module _ (f : Fields) where
  pub outside_from : (a b : ℕ) → messages ≤ a → leadsb f a b ≡ eqb a b
  outside_from a b h =
      same_test (leadsb f a b) (eqb a b) (λ e. eq-eqb a b (from_outside (leads_sound f a b e) h)) (λ e. leads_complete f a b (subst (λ (x : ℕ). Leads f a x) (eqb-true a b e) here))

  pub outside_to : (a b : ℕ) → messages ≤ b → leadsb f a b ≡ eqb a b
  outside_to a b h =
      same_test (leadsb f a b) (eqb a b) (λ e. eq-eqb a b (to_outside (leads_sound f a b e) h)) (λ e. leads_complete f a b (subst (λ (x : ℕ). Leads f a x) (eqb-true a b e) here))
