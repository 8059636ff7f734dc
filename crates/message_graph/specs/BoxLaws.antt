-- A link is boxed exactly where a chain from it comes back. Assumes nothing.
use Rattle.std.specs.Prelude.{◌≡◌, refl, true, not, ℕ, eqb}
use Rattle.std.proofs.Common.{sym, ◌∙◌, subst, ⊎_elim}
use mathlib.Core.List.Memᴰ
use mathlib.Core.List.{List, [], ◌∷◌, Memᴰ}
use Rattle.base.specs.Tests.{and_left, and_right, and_both, or_left}
use Rattle.message_graph.specs.Fields.{Fields, owner_of, target_of, kind_of, label_of, link, is_link, type_group, type_message, label_repeated}
use Rattle.message_graph.specs.Leads.{Leads, leadsb}
use Rattle.message_graph.specs.Leads.Leads.{here, step}
use Rattle.message_graph.specs.Boxes.{may_loop, boxed_by_loop, Chain, Boxing}
use Rattle.message_graph.specs.Boxes.Chain.{stay, go}
use Rattle.message_graph.specs.Decided.{join, leads_sound, leads_complete}

link_may : (kind label : ℕ) → is_link kind label ≡ true → may_loop kind label ≡ true
unfolding is_link may_loop
link_may kind label e =
    let message = and_left (eqb kind type_message) (not (eqb label label_repeated)) e in
    let singular = and_right (eqb kind type_message) (not (eqb label label_repeated)) e in
    and_both (or_left (eqb kind type_group) message) singular

-- of a link, only leading counts
pub boxed_link : (f : Fields) (i : ℕ) → link f i ≡ true → boxed_by_loop f i ≡ leadsb f (target_of f i) (owner_of f i)
unfolding boxed_by_loop
boxed_link f i e = rw (link_may (kind_of f i) (label_of f i) e)

-- a link of a chain from a to b: its message is led to, and its type leads on
record Around (f : Fields) (a b i : ℕ) : Type 0 where
  is : link f i ≡ true
  before : Leads f a (owner_of f i)
  after : Leads f (target_of f i) b

module _ {f : Fields} where
  leads_of : {a b : ℕ} {is : List ℕ} → Chain f a b is → Leads f a b
  leads_of stay = here
  leads_of (go a i lt l e w) = step (record { field = i; within = lt; is = l; from = e; to = refl }) (leads_of w)

  chain_of : {a b : ℕ} → Leads f a b → (is : List ℕ) × Chain f a b is
  chain_of here = ([], stay)
  chain_of {a} {b} (step l p) =
      let w = chain_of p in
      (l.field ∷ w.0, go a l.field l.within l.is l.from (subst (λ (z : ℕ). Chain f z b w.0) (sym l.to) w.1))

  around : {a b : ℕ} {is : List ℕ} → Chain f a b is → (i : ℕ) → Memᴰ i is → Around f a b i
  around stay i m = absurd (Memᴰ.not-nil m)
  around {b = b} (go a j lt l e w) i m =
      ⊎_elim
      (λ h. subst (λ (k : ℕ). Around f a b k) (sym h) (record { is = l; before = subst (λ (z : ℕ). Leads f a z) (sym e) here; after = leads_of w }))
      (λ h.
      let r = around w i h in
      record { is = r.is; before = step (record { field = j; within = lt; is = l; from = e; to = refl }) r.before; after = r.after })
      (Memᴰ.cases_cons m)

pub boxing : (f : Fields) → Boxing f
boxing f = record {
  all = λ a is w i m.
      let r = around w i m in
      boxed_link f i r.is ∙ leads_complete f (target_of f i) (owner_of f i) (join r.after r.before);
  only = λ i lt l e.
      let w = chain_of (leads_sound f (target_of f i) (owner_of f i) (sym (boxed_link f i l) ∙ e)) in
      (w.0, go (owner_of f i) i lt l refl w.1);
}
