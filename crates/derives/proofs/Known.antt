-- The search through a message's fields, with the answers that are known. Assumes nothing.
use mathlib.Core.Path.{◌≡◌, refl, sym, ◌∙◌, ap, subst}
use mathlib.Core.Logic.{◌⊎◌, inl, inr, ⊎_elim}
use mathlib.Core.Bool.{Bool, true, false}
use mathlib.Core.List.{List}
use Prim.Native.Nat.{ℕ, zero, suc, ◌+◌, ◌≤◌, ◌<◌}
use native.Mathlib.Nat.{le_refl, le_trans}
use Rattle.std.specs.Prelude.{Option, Some, None}
use native.Mathlib.Omega.{arith}
use native.Mathlib.Decide.{ℕ_discrete}
use borrow.Author.Count.{below_none, below_more}
use lib.ListN.{length, get_or, set, replicate, length-set, length-replicate, get_or-replicate}
use lib.Seq.{get_or-set_same, get_or-set_other, ext_get_or}
use Rattle.base.specs.Tests.{bool_cases, both_ways}
use Rattle.message_graph.specs.Limit.{messages}
use Rattle.message_graph.specs.Fields.{Fields, size, owner_of, target_of, kind_of, label_of, link}
use Rattle.message_graph.specs.declared.Field.{Field}
use Rattle.message_graph.specs.Rows.{row_at, fields_of, settings_of, message_of, Place, Part}
use Rattle.message_graph.proofs.RowLaws.{message_of_below, owner_row, target_row, kind_row, label_row, setting_row, length-fields_of}
use Rattle.message_graph.specs.Tab.{tab, length_tab, tab_at}
use Rattle.message_graph.specs.Leads.{Link, Leads, leadsb}
use Rattle.message_graph.specs.Leads.Leads.{here, step}
use Rattle.message_graph.specs.Decided.{join, leads_sound, leads_complete}
use Rattle.derives.specs.declared.Derive.{Derive}
use Rattle.derives.specs.Rules.{rule, turn}
use Rattle.derives.specs.RuleLaws.{shape, shape_same, loop_free, link_none, turn_told, turn_type}
use Rattle.derives.specs.Can.{field_can, entry_can, can_message_derive, can_field_derive, answer_of, row_can}
use Rattle.derives.specs.Depth.{every_all, every_not, entry_other, entry_own, by_entries, count_le, count_lt, count_most}
use Rattle.derives.specs.Memo.{Memo, Kept, is_unknown, known_at, unknown}

-- ---- one field and its message

own_is : (d : Derive) (f : Fields) (boxes : List Bool) (x i : ℕ) (r : Bool) → owner_of f i ≡ x → can_field_derive d f boxes i ≡ r → entry_can d f boxes (can_message_derive d f boxes) x i ≡ r
unfolding can_field_derive
own_is d f boxes x i r own e = entry_own d f boxes (can_message_derive d f boxes) x i own ∙ e

entry_not : (d : Derive) (f : Fields) (boxes : List Bool) (x i : ℕ) → i < size f → owner_of f i ≡ x → can_field_derive d f boxes i ≡ false → can_message_derive d f boxes x ≡ false
entry_not d f boxes x i lt own cannot =
    by_entries d f boxes x ∙ every_not (size f) (entry_can d f boxes (can_message_derive d f boxes) x) i lt (own_is d f boxes x i false own cannot)

-- a message without fields can
none_can : (d : Derive) (f : Fields) (boxes : List Bool) (x : ℕ) → ((k : ℕ) → k < size f → owner_of f k ≡ x → ⊥) → can_message_derive d f boxes x ≡ true
none_can d f boxes x none =
    by_entries d f boxes x ∙ every_all (size f) (entry_can d f boxes (can_message_derive d f boxes) x) (λ k h. entry_other d f boxes (can_message_derive d f boxes) x k (none k h))

-- ---- in a loop no message can, so that a field's answer needs no test for one

module _ (d : Derive) (f : Fields) (boxes : List Bool) where
  looped_not : (i : ℕ) → link f i ≡ true → leadsb f (target_of f i) (owner_of f i) ≡ true → can_field_derive d f boxes i ≡ false
  unfolding can_field_derive field_can
  looped_not i is loops =
      rw loops (shape_same (shape d (kind_of f i) (label_of f i) true (get_or boxes i false)) (can_message_derive d f boxes (target_of f i)) false (λ l o. both_ways refl o)
      ∙ link_none d (kind_of f i) (label_of f i) true (get_or boxes i false) is)

  link_not : {a c : ℕ} → Link f a c → Leads f c a → can_message_derive d f boxes a ≡ false
  link_not {a} {c} l back =
      let i = l.field in
      let loops : leadsb f (target_of f i) (owner_of f i) ≡ true = rw (l.to, l.from) (leads_complete f c a back) in
      entry_not d f boxes a i l.within l.from (looped_not i l.is loops)

  in_loop : {a b : ℕ} → Leads f a b → Link f b a → can_message_derive d f boxes a ≡ false
  in_loop here back = link_not back here
  in_loop (step l rest) back = link_not l (join rest (step back here))

  link_of : (i : ℕ) → i < size f → link f i ≡ true → Link f (owner_of f i) (target_of f i)
  link_of i lt is = record { field = i; within = lt; is = is; from = refl; to = refl }

  both_cannot : (i : ℕ) → link f i ≡ true → can_message_derive d f boxes (target_of f i) ≡ false → can_field_derive d f boxes i ≡ rule d (kind_of f i) (label_of f i) false (get_or boxes i false) (can_message_derive d f boxes (target_of f i))
  unfolding can_field_derive field_can
  both_cannot i is not_can =
      rw not_can (link_none d (kind_of f i) (label_of f i) (leadsb f (target_of f i) (owner_of f i)) (get_or boxes i false) is ∙ sym (link_none d (kind_of f i) (label_of f i) false (get_or boxes i false) is))

  loop_told : (i : ℕ) → i < size f → can_field_derive d f boxes i ≡ rule d (kind_of f i) (label_of f i) false (get_or boxes i false) (can_message_derive d f boxes (target_of f i))
  unfolding can_field_derive field_can
  loop_told i lt =
      let k = kind_of f i in
      let l = label_of f i in
      let s = get_or boxes i false in
      let t = can_message_derive d f boxes (target_of f i) in
      let loops = leadsb f (target_of f i) (owner_of f i) in
      ⊎_elim
      (λ is. ⊎_elim (λ e. both_cannot i is (in_loop (leads_sound f (target_of f i) (owner_of f i) e) (link_of i lt is))) (λ e. ap (λ (o : Bool). rule d k l o s t) e) (bool_cases loops))
      (λ no_link. loop_free d k l loops s t no_link)
      (bool_cases (link f i))

-- ---- a field's answer by what it turns on

module _ (d : Derive) (rows : List Field) (r : Field) (p : Place rows r) (t : Option Bool) (is : t ≡ turn (rule d r.kind r.label false r.boxed)) where
  -- the row's answer is that of its place
  pub row_is : can_field_derive d (fields_of rows) (settings_of rows) p.at ≡ row_can d rows r
  unfolding can_field_derive field_can
  row_is = rw (kind_row rows p.at, label_row rows p.at, owner_row rows p.at, target_row rows p.at, setting_row rows p.at, p.is)

  within : p.at < size (fields_of rows)
  within = rw length-fields_of p.below

  told : row_can d rows r ≡ rule d r.kind r.label false r.boxed (answer_of d rows (message_of r.target))
  told = sym row_is ∙ loop_told d (fields_of rows) (settings_of rows) p.at within ∙ rw (kind_row rows p.at, label_row rows p.at, target_row rows p.at, setting_row rows p.at, p.is)

  pub field_told : (can : Bool) → t ≡ Some can → row_can d rows r ≡ can
  field_told can e = told ∙ turn_told (shape d r.kind r.label false r.boxed) can (sym is ∙ e) _

  module _ (none : t ≡ None) where
    pub field_by_type : row_can d rows r ≡ answer_of d rows (message_of r.target)
    field_by_type = told ∙ (turn_type (shape d r.kind r.label false r.boxed) (sym is ∙ none)).same _

    field_link : Link (fields_of rows) (message_of r.owner) (message_of r.target)
    field_link = record {
      field = p.at;
      within = within;
      is = rw (kind_row rows p.at, label_row rows p.at, p.is) (turn_type (shape d r.kind r.label false r.boxed) (sym is ∙ none)).link;
      from = rw (owner_row rows p.at, p.is);
      to = rw (target_row rows p.at, p.is);
    }

    -- what is sought leads on to the field's type, and the type itself, if it is sought, is in a loop
    module _ {ms : List (Option Bool)} (m : Memo d rows ms (message_of r.owner)) where
      pub memo_type : Memo d rows ms (message_of r.target)
      memo_type = record {
        size = m.size;
        can = m.can;
        cannot = λ y e. ⊎_elim inl (λ l. inr (join l (step field_link here))) (m.cannot y e);
      }

      pub type_cannot : known_at ms (message_of r.target) ≡ Some false → answer_of d rows (message_of r.target) ≡ false
      type_cannot e = ⊎_elim (λ h. h) (λ l. in_loop d (fields_of rows) (settings_of rows) l field_link) (m.cannot (message_of r.target) e)

-- ---- how many answers are unknown

pub unknown_bound : (ms : List (Option Bool)) → unknown ms ≤ messages
unfolding unknown
unknown_bound ms = count_most messages (λ y. is_unknown (known_at ms y))

-- what holds after a store at x: of the new value at x, of the old one elsewhere
stored : (P : Option Bool → Type 0) (l : List (Option Bool)) (x y : ℕ) (v : Option Bool) → x < length l → (y ≡ x → P v) → ((y ≡ x → ⊥) → P (known_at l y)) → P (known_at (set l x v) y)
stored P l x y v h same other =
    elim (ℕ_discrete y x) [
      | yes e ↦ subst P (sym (ap (λ (z : ℕ). known_at (set l x v) z) e ∙ get_or-set_same l x v None h)) (same e)
      | no n ↦ subst P (sym (get_or-set_other l x y v None n)) (other n)
    ]

module _ (ms : List (Option Bool)) (x : ℕ) (can : Bool) (within : x < length ms) where
  still_unknown : (k : ℕ) → is_unknown (known_at (set ms x (Some can)) k) ≡ true → is_unknown (known_at ms k) ≡ true
  unfolding is_unknown
  still_unknown k = stored (λ (w : Option Bool). is_unknown w ≡ true → is_unknown (known_at ms k) ≡ true) ms x k (Some can) within (λ e h. both_ways h refl) (λ n h. h)

  pub unknown_most : unknown (set ms x (Some can)) ≤ unknown ms
  unfolding unknown
  unknown_most = count_le messages (λ y. is_unknown (known_at (set ms x (Some can)) y)) (λ y. is_unknown (known_at ms y)) (λ k lt h. still_unknown k h)

  pub unknown_falls : x < messages → is_unknown (known_at ms x) ≡ true → unknown (set ms x (Some can)) < unknown ms
  unfolding unknown is_unknown
  unknown_falls lt none =
      count_lt messages (λ y. is_unknown (known_at (set ms x (Some can)) y)) (λ y. is_unknown (known_at ms y)) (λ k l h. still_unknown k h) x lt
      (stored (λ (w : Option Bool). is_unknown w ≡ false) ms x x (Some can) within (λ e. refl) (λ n. absurd (n refl)))
      none

is_unknown_if : (known : Option Bool) → ((can : Bool) → known ≡ Some can → ⊥) → is_unknown known ≡ true
unfolding is_unknown
is_unknown_if (Some can) none = absurd (none can refl)
is_unknown_if None none = refl

nothing : (n x : ℕ) → known_at (replicate n None) x ≡ None
nothing zero x = refl
nothing (suc n) zero = refl
nothing (suc n) (suc x) = nothing n x

-- ---- the known answers

module _ {d : Derive} {rows : List Field} where
  pub kept_more : {a b c : List (Option Bool)} → Kept d rows a b → Kept d rows b c → Kept d rows a c
  kept_more p q = record {
    size = q.size ∙ p.size;
    can = q.can;
    cannot = λ y e. ⊎_elim inl (λ h. p.cannot y h) (q.cannot y e);
    fewer = let one = p.fewer in let two = q.fewer in omega arith;
  }

  -- x is sought
  module _ {ms : List (Option Bool)} {x : ℕ} (m : Memo d rows ms x) (lt : x < messages) where
    pub memo_sought : Memo d rows (set ms x (Some false)) x
    memo_sought =
        let long = m.size in
        record {
          size = length-set ms x (Some false) ∙ long;
          can = λ y. stored (λ (w : Option Bool). w ≡ Some true → answer_of d rows y ≡ true) ms x y (Some false) (omega arith) (λ e h. cc) (λ n. m.can y);
          cannot = λ y. stored (λ (w : Option Bool). w ≡ Some false → (answer_of d rows y ≡ false) ⊎ Leads (fields_of rows) y x) ms x y (Some false) (omega arith) (λ e h. inr (rw e here)) (λ n. m.cannot y);
        }

    pub sought_fewer : ((can : Bool) → known_at ms x ≡ Some can → ⊥) → unknown (set ms x (Some false)) < unknown ms
    sought_fewer none = let long = m.size in unknown_falls ms x false (omega arith) lt (is_unknown_if (known_at ms x) none)

    -- and found
    module _ {new : List (Option Bool)} (k : Kept d rows (set ms x (Some false)) new) where
      pub known_size : length new ≡ messages
      known_size = k.size ∙ length-set ms x (Some false) ∙ m.size

      known_before : (y : ℕ) → (y ≡ x → ⊥) → known_at new y ≡ Some false → (answer_of d rows y ≡ false) ⊎ (known_at ms y ≡ Some false)
      known_before y other e =
          ⊎_elim inl (λ h. inr (sym (get_or-set_other ms x y (Some false) None other) ∙ h)) (k.cannot y e)

      pub kept_found : (r : Bool) → answer_of d rows x ≡ r → Kept d rows ms (set new x (Some r))
      kept_found r is =
          let long = known_size in
          let long' = m.size in
          let less = k.fewer in
          let most = unknown_most ms x false (omega arith) in
          let most' = unknown_most new x r (omega arith) in
          record {
            size = length-set new x (Some r) ∙ long ∙ sym m.size;
            can = λ y. stored (λ (w : Option Bool). w ≡ Some true → answer_of d rows y ≡ true) new x y (Some r) (omega arith) (λ same h. ap (answer_of d rows) same ∙ is ∙ cc) (λ n. k.can y);
            cannot = λ y. stored (λ (w : Option Bool). w ≡ Some false → (answer_of d rows y ≡ false) ⊎ (known_at ms y ≡ Some false)) new x y (Some r) (omega arith)
                (λ same h. inl (ap (answer_of d rows) same ∙ is ∙ cc)) (λ n. known_before y n);
            fewer = omega arith;
          }

  -- where none is sought
  pub told_none : Kept d rows (replicate messages None) (replicate messages None)
  told_none = record {
    size = refl;
    can = λ y e. let z = nothing messages y in cc;
    cannot = λ y e. inr e;
    fewer = le_refl _;
  }

  module _ {ms : List (Option Bool)} (k : Kept d rows (replicate messages None) ms) (x : ℕ) where
    told_cannot : (y : ℕ) → known_at ms y ≡ Some false → answer_of d rows y ≡ false
    told_cannot y e = ⊎_elim (λ h. h) (λ h. let z = nothing messages y in cc) (k.cannot y e)

    pub told_memo : Memo d rows ms x
    told_memo = record { size = k.size ∙ length-replicate {A = Option Bool} messages None; can = k.can; cannot = λ y e. inl (told_cannot y e) }

    pub told_at : known_at ms x ≡ Some false → answer_of d rows x ≡ false
    told_at = told_cannot x

-- ---- a part of the fields with all of x's, one after the other, up to the place j

pub record Scan (d : Derive) (rows part : List Field) (old ms : List (Option Bool)) (x j : ℕ) : Type 0 where
  pub kept : Kept d rows old ms
  pub so_far : (k : ℕ) → k < j → message_of (row_at part k).owner ≡ x → row_can d rows (row_at part k) ≡ true

module _ {d : Derive} {rows part : List Field} {old ms : List (Option Bool)} {x j : ℕ} (s : Scan d rows part old ms x j) where
  pub scan_other : (message_of (row_at part j).owner ≡ x → ⊥) → Scan d rows part old ms x (j + 1)
  scan_other ne = record { kept = s.kept; so_far = below_more _ j s.so_far (λ own. absurd (ne own)) }

  pub scan_can : {new : List (Option Bool)} → Kept d rows ms new → row_can d rows (row_at part j) ≡ true → Scan d rows part old new x (j + 1)
  scan_can k can = record { kept = kept_more s.kept k; so_far = below_more _ j s.so_far (λ own. can) }

  pub scan_all : Part rows part x → length part ≤ j → answer_of d rows x ≡ true
  scan_all p end =
      by_entries d (fields_of rows) (settings_of rows) x ∙ every_all (size (fields_of rows)) (entry_can d (fields_of rows) (settings_of rows) (answer_of d rows) x) (λ i h.
      let lt : i < length rows = rw length-fields_of at h in
      elim (ℕ_discrete (owner_of (fields_of rows) i) x) [
        | yes own ↦
            let place = p.all i lt (sym (owner_row rows i) ∙ own) in
            let here : Place rows (row_at rows i) = record { at = i; below = lt; is = refl } in
            let can : row_can d rows (row_at rows i) ≡ true =
            subst (λ (r : Field). row_can d rows r ≡ true) place.is (s.so_far place.at (le_trans place.below end) (ap (λ (r : Field). message_of r.owner) place.is ∙ sym (owner_row rows i) ∙ own)) in
            own_is d (fields_of rows) (settings_of rows) x i true own (row_is d rows (row_at rows i) here _ refl ∙ can)
        | no other ↦ entry_other d (fields_of rows) (settings_of rows) (answer_of d rows) x i other
      ])

-- a field of x that cannot
pub scan_not : (d : Derive) {rows : List Field} {x : ℕ} (r : Field) → Place rows r → message_of r.owner ≡ x → row_can d rows r ≡ false → answer_of d rows x ≡ false
scan_not d {rows} {x} r p own cannot =
    entry_not d (fields_of rows) (settings_of rows) x p.at (rw length-fields_of p.below) (rw (owner_row rows p.at, p.is) own) (row_is d rows r p _ refl ∙ cannot)

-- ---- the fields' messages, asked for up to the field i: what a message without fields so far has is true

pub record Asked (d : Derive) (rows : List Field) (out : List Bool) (i : ℕ) : Type 0 where
  pub long : length out ≡ messages
  pub is : (x : ℕ) → x < messages → (get_or out x true ≡ answer_of d rows x) ⊎ ((get_or out x true ≡ true) × ((k : ℕ) → k < i → message_of (row_at rows k).owner ≡ x → ⊥))

module _ {d : Derive} {rows : List Field} where
  pub asked_none : Asked d rows (replicate messages true) 0
  asked_none = record { long = length-replicate messages true; is = λ x h. inr (get_or-replicate messages x true true h, below_none _) }

  pub asked_more : {out : List Bool} {i : ℕ} → Asked d rows out i → (x : ℕ) → x ≡ message_of (row_at rows i).owner → (r : Bool) → r ≡ answer_of d rows x → Asked d rows (set out x r) (i + 1)
  asked_more {out} {i} a x own r can =
      let long = a.long in
      let below = message_of_below (row_at rows i).owner in
      record {
        long = length-set out x r ∙ long;
        is = λ y h.
            elim (ℕ_discrete y x) [
              | yes same ↦ inl (rw same (get_or-set_same out x r true (omega arith) ∙ can))
              | no other ↦
                  let kept = get_or-set_other out x y r true other in
                  ⊎_elim (λ e. inl (kept ∙ e)) (λ free. inr (kept ∙ free.0, below_more _ i free.1 (λ e. other (sym e ∙ sym own)))) (a.is y h)
            ];
      }

  pub asked_all : {out : List Bool} {i : ℕ} → Asked d rows out i → length rows ≤ i → out ≡ tab messages (answer_of d rows)
  asked_all {out} {i} a end =
      let long = a.long in
      let can = answer_of d rows in
      ext_get_or true out (tab messages can) (long ∙ sym (length_tab messages can)) (λ x h.
      let lt : x < messages = omega arith in
      ⊎_elim (λ e. e) (λ free. free.0 ∙ sym (none_can d (fields_of rows) (settings_of rows) x (λ k l own. free.1 k (le_trans (rw length-fields_of at l) end) (sym (owner_row rows k) ∙ own)))) (a.is x lt)
      ∙ sym (tab_at messages can true x lt))
