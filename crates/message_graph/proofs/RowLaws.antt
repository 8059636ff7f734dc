-- Laws of the rows of a table of fields, and of the range of each message. Assumes nothing.
use Rattle.std.specs.Prelude.{◌≡◌, false, List, ℕ, zero, suc, ◌+◌, ◌-◌, ◌≤◌, ◌<◌, eqb, ltb, length, get_or, take, drop}
use Rattle.std.proofs.Common.{refl, sym, ap, subst, ◌∙◌, arith, le_refl, zero-le, ltb-true, lt-ltb, eqb-true, set, replicate, length-take, length-drop, length-set}
use Rattle.std.proofs.Math.ListN.{get_or-map, length-replicate}
use Rattle.std.proofs.Math.Decide.{ℕ_discrete}
use Rattle.std.proofs.lemmas.List.{length-map, get_or-drop, get_or-take, get_or-set_same, get_or-set_other}
use Rattle.base.specs.Choose.{choose, choose_case}
use Rattle.message_graph.specs.Limit.{messages}
use Rattle.message_graph.specs.Fields.{size, owner_of, target_of, kind_of, label_of, link, is_link, message_at}
use Rattle.message_graph.specs.declared.Field.{Field}
use Rattle.message_graph.specs.declared.Range.{Range}
use Rattle.message_graph.specs.Rows.{no_field, row_at, fields_of, settings_of, message_of, no_range, range_at, with_field, RangedTo, Part}

pub message_of_below : (n : ℕ) → message_of n < messages
unfolding message_of
message_of_below n = choose_case (λ (x : ℕ). x < messages) (ltb n messages) (λ h. ltb-true n messages h) (λ h. omega arith)

pub message_of_is : (n : ℕ) → n < messages → message_of n ≡ n
unfolding message_of choose
message_of_is n h = rw (lt-ltb n messages h)

module _ (rows : List Field) (i : ℕ) where
  pub owner_row : owner_of (fields_of rows) i ≡ message_of (row_at rows i).owner
  unfolding fields_of message_at message_of
  owner_row = ap (λ (n : ℕ). choose (ltb n messages) n 0) (get_or-map (λ (r : Field). r.owner) rows i no_field)

  pub target_row : target_of (fields_of rows) i ≡ message_of (row_at rows i).target
  unfolding fields_of message_at message_of
  target_row = ap (λ (n : ℕ). choose (ltb n messages) n 0) (get_or-map (λ (r : Field). r.target) rows i no_field)

  pub kind_row : kind_of (fields_of rows) i ≡ (row_at rows i).kind
  unfolding fields_of
  kind_row = get_or-map (λ (r : Field). r.kind) rows i no_field

  pub label_row : label_of (fields_of rows) i ≡ (row_at rows i).label
  unfolding fields_of
  label_row = get_or-map (λ (r : Field). r.label) rows i no_field

  pub link_row : link (fields_of rows) i ≡ is_link (row_at rows i).kind (row_at rows i).label
  link_row = rw (kind_row, label_row)

  pub setting_row : get_or (settings_of rows) i false ≡ (row_at rows i).boxed
  setting_row = get_or-map (λ (r : Field). r.boxed) rows i no_field

pub length-fields_of : (rows : List Field) → size (fields_of rows) ≡ length rows
unfolding fields_of
length-fields_of rows = length-map rows (λ (r : Field). r.owner)

-- ---- ranges

-- what holds after a store at x: of the new value at x, of the old one elsewhere
stored : (P : Range → Type 0) (l : List Range) (x y : ℕ) (v : Range) → x < length l → (y ≡ x → P v) → ((y ≡ x → ⊥) → P (range_at l y)) → P (range_at (set l x v) y)
stored P l x y v h same other =
    elim (ℕ_discrete y x) [
      | yes e ↦ subst P (sym (ap (λ (z : ℕ). range_at (set l x v) z) e ∙ get_or-set_same l x v no_range h)) (same e)
      | no n ↦ subst P (sym (get_or-set_other l x y v no_range n)) (other n)
    ]

nothing : (n x : ℕ) → range_at (replicate n no_range) x ≡ no_range
nothing zero x = refl
nothing (suc n) zero = refl
nothing (suc n) (suc x) = nothing n x

pub ranged_none : (rows : List Field) → RangedTo rows (replicate messages no_range) 0
ranged_none rows = record {
  size = length-replicate messages no_range;
  order = λ x. subst (λ (r : Range). r.first ≤ r.end) (sym (nothing messages x)) zero-le;
  within = λ x. subst (λ (r : Range). r.end ≤ 0) (sym (nothing messages x)) zero-le;
  low = λ k h. absurd (omega arith);
  high = λ k h. absurd (omega arith);
}

-- where a range that gets the field i begins: at i if it was empty
first_most : (r : Range) (i : ℕ) → r.first ≤ i → (with_field r i).first ≤ i
unfolding with_field
first_most r i h = choose_case (λ (n : ℕ). n ≤ i) (eqb r.end 0) (λ e. le_refl i) (λ e. h)

first_stays : (r : Range) (i k : ℕ) → k < r.end → r.first ≤ k → (with_field r i).first ≤ k
unfolding with_field
first_stays r i k lt h = choose_case (λ (n : ℕ). n ≤ k) (eqb r.end 0) (λ e. let none = eqb-true r.end 0 e in absurd (omega arith)) (λ e. h)

end_is : (r : Range) (i : ℕ) → (with_field r i).end ≡ i + 1
unfolding with_field
end_is r i = refl

pub ranged_more : {rows : List Field} {ranges : List Range} {i : ℕ} → RangedTo rows ranges i → (x : ℕ) → x ≡ message_of (row_at rows i).owner → (r : Range) → r ≡ with_field (range_at ranges x) i → RangedTo rows (set ranges x r) (i + 1)
ranged_more {rows} {ranges} {i} p x own r is =
    let long = p.size in
    let below = message_of_below (row_at rows i).owner in
    let order = p.order x in
    let within = p.within x in
    let first : r.first ≤ i = subst (λ (q : Range). q.first ≤ i) (sym is) (first_most (range_at ranges x) i (omega arith)) in
    let end : r.end ≡ i + 1 = ap (λ (q : Range). q.end) is ∙ end_is (range_at ranges x) i in
    record {
      size = length-set ranges x r ∙ long;
      order = λ y. stored (λ (q : Range). q.first ≤ q.end) ranges x y r (omega arith) (λ e. omega arith) (λ n. p.order y);
      within = λ y. stored (λ (q : Range). q.end ≤ i + 1) ranges x y r (omega arith) (λ e. omega arith) (λ n. let w = p.within y in omega arith);
      low = λ k h. stored (λ (q : Range). q.first ≤ k) ranges x (message_of (row_at rows k).owner) r (omega arith) (λ e.
          elim (ℕ_discrete k i) [
            | yes same ↦ omega arith
            | no m ↦
                let high : k < (range_at ranges x).end = subst (λ (z : ℕ). k < (range_at ranges z).end) e (p.high k (omega arith)) in
                let low : (range_at ranges x).first ≤ k = subst (λ (z : ℕ). (range_at ranges z).first ≤ k) e (p.low k (omega arith)) in
                subst (λ (q : Range). q.first ≤ k) (sym is) (first_stays (range_at ranges x) i k high low)
          ]) (λ n.
          elim (ℕ_discrete k i) [ yes same ↦ absurd (n (ap (λ (z : ℕ). message_of (row_at rows z).owner) same ∙ sym own)) | no m ↦ p.low k (omega arith) ]);
      high = λ k h. stored (λ (q : Range). k < q.end) ranges x (message_of (row_at rows k).owner) r (omega arith) (λ e. omega arith) (λ n.
          elim (ℕ_discrete k i) [ yes same ↦ absurd (n (ap (λ (z : ℕ). message_of (row_at rows z).owner) same ∙ sym own)) | no m ↦ p.high k (omega arith) ]);
    }

-- the part of the rows in a message's range
pub part_of : {rows : List Field} {ranges : List Range} → RangedTo rows ranges (length rows) → (x : ℕ) → Part rows (take ((range_at ranges x).end - (range_at ranges x).first) (drop (range_at ranges x).first rows)) x
part_of {rows} {ranges} p x =
    let r = range_at ranges x in
    let order = p.order x in
    let within = p.within x in
    let part = take (r.end - r.first) (drop r.first rows) in
    let long : length part ≡ r.end - r.first = omega (arith, length-take (r.end - r.first) (drop r.first rows), length-drop r.first rows) in
    let row : (k : ℕ) → k < r.end - r.first → row_at part k ≡ row_at rows (r.first + k) = λ k h. get_or-take (r.end - r.first) (drop r.first rows) k no_field h ∙ get_or-drop r.first rows k no_field in
    record {
      within = λ k h. record { at = r.first + k; below = omega arith; is = sym (row k (omega arith)) };
      all = λ i lt own.
          let low : r.first ≤ i = subst (λ (z : ℕ). (range_at ranges z).first ≤ i) own (p.low i lt) in
          let high : i < r.end = subst (λ (z : ℕ). i < (range_at ranges z).end) own (p.high i lt) in
          record { at = i - r.first; below = omega arith; is = row (i - r.first) (omega arith) ∙ ap (row_at rows) (omega arith) };
    }
