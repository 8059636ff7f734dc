-- What a visit does to the marks. Assumes nothing.
use mathlib.Core.Path.{◌≡◌, refl, sym, ◌∙◌, ap, subst}
use mathlib.Core.Bool.{Bool, true, false, true≢false}
use mathlib.Core.Logic.{◌⊎◌, inl, inr, ⊎_elim}
use mathlib.Core.List.{List, [], ◌∷◌}
use Prim.Native.Nat.{ℕ, zero, suc, ◌+◌, ◌≤◌, ◌<◌, suc-le-suc}
use native.Mathlib.Nat.{le_of_suc-le-suc, not-suc-le-zero, le_refl, le_trans}
use native.Mathlib.Decide.{ℕ_discrete}
use native.Mathlib.Omega.{arith}
use lib.Dec.{eqb}
use lib.ListN.{length, get_or, set, length-set, replicate}
use lib.Seq.{get_or-set_same, get_or-set_other}
use borrow.Author.Tests.{eqb-true, eq-eqb}
use Rattle.base.specs.Tests.{and_left, and_right, and_both, both_ways, same_test}
use borrow.Author.Count.{below_more}
use Rattle.message_graph.specs.Fields.{Fields, is_link}
use Rattle.message_graph.specs.declared.Field.{Field}
use Rattle.message_graph.specs.Rows.{row_at, fields_of, message_of, is_link_of, Part}
use Rattle.message_graph.proofs.RowLaws.{owner_row, target_row, link_row, length-fields_of}
use Rattle.message_graph.specs.Leads.{Link, Leads, leadsb}
use Rattle.message_graph.specs.Leads.Leads.{here, step}
use Rattle.message_graph.specs.Decided.{join, leads_sound, leads_complete}
use Rattle.message_graph.specs.Marks.{Marked, Done, clear, Visited}

-- marks

pub clear_set : (ms : List Bool) (x : ℕ) → x < length ms → get_or ms x false ≡ false → clear (set ms x true) < clear ms
unfolding clear
clear_set [] x h e = absurd (not-suc-le-zero h)
clear_set (true ∷ ms) zero h e = absurd (true≢false e)
clear_set (false ∷ ms) zero h e = le_refl _
clear_set (true ∷ ms) (suc x) h e = clear_set ms x (le_of_suc-le-suc h) e
clear_set (false ∷ ms) (suc x) h e = suc-le-suc (clear_set ms x (le_of_suc-le-suc h) e)

marked_set : (ms : List Bool) (x y : ℕ) → x < length ms → Marked ms y → Marked (set ms x true) y
marked_set ms x y h e = elim (ℕ_discrete y x) [ yes p ↦ subst (λ (z : ℕ). Marked (set ms x true) z) (sym p) (get_or-set_same ms x true false h) | no p ↦ get_or-set_other ms x y true false p ∙ e ]

unmark : (ms : List Bool) (x y : ℕ) → Marked (set ms x true) y → (y ≡ x) ⊎ Marked ms y
unmark ms x y e = elim (ℕ_discrete y x) [ yes p ↦ inl p | no p ↦ inr (sym (get_or-set_other ms x y true false p) ∙ e) ]

pub off : (n x : ℕ) → get_or (replicate n false) x false ≡ false
off zero x = refl
off (suc n) zero = refl
off (suc n) (suc x) = off n x

-- a visit to x that has come to the place j of a part of the fields; the marks were `base`, x's among them
pub record Visiting (f : Fields) (part : List Field) (base ms : List Bool) (x j : ℕ) : Type 0 where
  pub size : length ms ≡ length base
  pub keeps : (y : ℕ) → Marked base y → Marked ms y
  pub led : (a : ℕ) → Leads f a x → ((y : ℕ) → Marked base y → Leads f a y) → (y : ℕ) → Marked ms y → Leads f a y
  pub done : (y : ℕ) → Marked ms y → Marked base y ⊎ Done f ms y
  pub so_far : (k : ℕ) → k < j → is_link_of (row_at part k) x ≡ true → Marked ms (message_of (row_at part k).target)
  pub most : clear ms ≤ clear base

pub visiting_start : (f : Fields) (part : List Field) (base : List Bool) (x : ℕ) → Visiting f part base base x 0
visiting_start f part base x = record { size = refl; keeps = λ y e. e; led = λ a p h. h; done = λ y e. inl e; so_far = λ k h. absurd (omega arith); most = le_refl _ }

module _ {f : Fields} {part : List Field} {base ms : List Bool} {x j : ℕ} (v : Visiting f part base ms x j) where
  -- the field is no link of x, or its type has its mark
  pub visiting_past : (is_link_of (row_at part j) x ≡ true → Marked ms (message_of (row_at part j).target)) → Visiting f part base ms x (j + 1)
  visiting_past m = record { size = v.size; keeps = v.keeps; led = v.led; done = v.done; so_far = below_more _ j v.so_far m; most = v.most }

  -- it is visited
  pub visiting_on : {new : List Bool} → Link f x (message_of (row_at part j).target) → Visited f ms new (message_of (row_at part j).target) → Visiting f part base new x (j + 1)
  visiting_on {new} l w =
      let most = v.most in
      let fewer = w.fewer in
      record {
        size = w.size ∙ v.size;
        keeps = λ y e. w.keeps y (v.keeps y e);
        led = λ a p h y e. w.led a (join p (step l here)) (v.led a p h) y e;
        done = λ y e. ⊎_elim (λ m. ⊎_elim inl (λ d. inr (λ k lt is own. w.keeps _ (d k lt is own))) (v.done y m)) inr (w.done y e);
        so_far = below_more _ j (λ k h is. w.keeps _ (v.so_far k h is)) (λ is. w.here);
        most = omega arith;
      }

-- a link of x in a part of the fields is one of the graph
pub link_here : {rows part : List Field} {x : ℕ} → Part rows part x → (k : ℕ) → k < length part → is_link_of (row_at part k) x ≡ true → Link (fields_of rows) x (message_of (row_at part k).target)
link_here {rows} {part} {x} p k h is =
    let place = p.within k h in
    let row = row_at rows place.at in
    let here : is_link_of row x ≡ true = subst (λ (r : Field). is_link_of r x ≡ true) (sym place.is) is in
    record {
      field = place.at;
      within = rw length-fields_of place.below;
      is = link_row rows place.at ∙ and_right (eqb (message_of row.owner) x) (is_link row.kind row.label) here;
      from = owner_row rows place.at ∙ eqb-true (message_of row.owner) x (and_left (eqb (message_of row.owner) x) (is_link row.kind row.label) here);
      to = target_row rows place.at ∙ ap (λ (r : Field). message_of r.target) place.is;
    }

-- at the end of a part that has all of x's fields, all that x has a link to has its mark
pub visiting_end : {rows part : List Field} {old ms : List Bool} {x j : ℕ} → Part rows part x → Visiting (fields_of rows) part (set old x true) ms x j → length part ≤ j → x < length old → get_or old x false ≡ false → Visited (fields_of rows) old ms x
visiting_end {rows} {part} {old} {ms} {x} p v last below off =
    let less = clear_set old x below off in
    let most = v.most in
    let x_done : Done (fields_of rows) ms x = λ i lt is own.
    let place = p.all i (rw length-fields_of at lt) (sym (owner_row rows i) ∙ own) in
    let link_of_x : is_link_of (row_at rows i) x ≡ true = and_both (eq-eqb (message_of (row_at rows i).owner) x (sym (owner_row rows i) ∙ own)) (sym (link_row rows i) ∙ is) in
    let marked : Marked ms (message_of (row_at part place.at).target) = v.so_far place.at (le_trans place.below last) (subst (λ (r : Field). is_link_of r x ≡ true) (sym place.is) link_of_x) in
    subst (λ (y : ℕ). Marked ms y) (ap (λ (r : Field). message_of r.target) place.is ∙ sym (target_row rows i)) marked in
    record {
      size = v.size ∙ length-set old x true;
      keeps = λ y e. v.keeps y (marked_set old x y below e);
      here = v.keeps x (get_or-set_same old x true false below);
      led = λ a p h y e. v.led a p (λ z m. ⊎_elim (λ q. subst (λ (u : ℕ). Leads (fields_of rows) a u) (sym q) p) (h z) (unmark old x z m)) y e;
      done = λ y e. ⊎_elim (λ m. ⊎_elim (λ q. inr (subst (λ (u : ℕ). Done (fields_of rows) ms u) (sym q) x_done)) inl (unmark old x y m)) inr (v.done y e);
      fewer = omega arith;
    }

-- where all that has a mark is done, the marks hold all that a marked message leads to
reaches_on : {f : Fields} (ms : List Bool) → ((y : ℕ) → Marked ms y → Done f ms y) → {a b : ℕ} → Leads f a b → Marked ms a → Marked ms b
reaches_on ms done here m = m
reaches_on {f} ms done (step {a = a} l p) m = reaches_on ms done p (rw l.to at (done a m l.field l.within l.is l.from))

-- from no mark at all, a visit to a marks what a leads to
pub visited_all : (n : ℕ) {f : Fields} {new : List Bool} {a : ℕ} → Visited f (replicate n false) new a → (b : ℕ) → get_or new b false ≡ leadsb f a b
visited_all n {f} {new} {a} v b =
    same_test (get_or new b false) (leadsb f a b)
    (λ w. leads_complete f a b (v.led a here (λ y m. both_ways m (off n y)) b w))
    (λ w. reaches_on new (λ y m. ⊎_elim (λ o. both_ways o (off n y)) (λ d. d) (v.done y m)) (leads_sound f a b w) v.here)
