-- The rule of a field either doesn't look at the answer of its type's message, or gives it; this only at a link that isn't in a loop.
-- Assumes nothing.
use Rattle.std.specs.Prelude.{◌≡◌, refl, Bool, Some, None, not, ◌&&◌, ℕ, eqb}
use Rattle.std.proofs.Common.{sym, ◌∙◌, ap, ⊎_elim}
use Rattle.std.proofs.Math.Bool.{true, false}
use Rattle.base.specs.Choose.{choose}
use Rattle.base.specs.Tests.{bool_cases, both_ways}
use Rattle.field_types.specs.Types.{can_pack, type_eq}
use Rattle.message_graph.specs.Fields.{Fields, owner_of, target_of, kind_of, label_of, is_link, type_message, label_repeated}
use Rattle.message_graph.specs.Leads.{leadsb}
use Rattle.message_graph.specs.Boxes.{boxed_by_loop}
use Rattle.message_graph.specs.BoxLaws.{boxed_link}
use Rattle.derives.specs.declared.Derive.{Derive}
use Rattle.derives.specs.declared.Derive.TheVariants.{Copy, Eq}
use Rattle.derives.specs.Rules.{rule, turn, can_field_derive_copy, can_field_derive_eq}

-- what `answer` does with the message's answer
pub data Shape (answer : Bool → Bool) (is_link looped : Bool) : Type 0 where
  fixed : (r : Bool) → ((c : Bool) → answer c ≡ r) → Shape answer is_link looped
  by_type : ((c : Bool) → answer c ≡ c) → is_link ≡ true → looped ≡ false → Shape answer is_link looped

copy_shape : (repeated message looped set plain : Bool) → Shape (λ c. choose repeated false (choose message (choose looped false (choose set false c)) plain)) (message && not repeated) looped
unfolding choose
copy_shape true message looped set plain = fixed false (λ c. refl)
copy_shape false false looped set plain = fixed plain (λ c. refl)
copy_shape false true true set plain = fixed false (λ c. refl)
copy_shape false true false true plain = fixed false (λ c. refl)
copy_shape false true false false plain = by_type (λ c. refl) refl refl

eq_shape : (repeated message looped plain : Bool) → Shape (λ c. choose message (choose repeated false (choose looped false c)) plain) (message && not repeated) looped
unfolding choose
eq_shape repeated false looped plain = fixed plain (λ c. refl)
eq_shape true true looped plain = fixed false (λ c. refl)
eq_shape false true true plain = fixed false (λ c. refl)
eq_shape false true false plain = by_type (λ c. refl) refl refl

pub shape : (d : Derive) (kind label : ℕ) (looped set : Bool) → Shape (rule d kind label looped set) (is_link kind label) looped
unfolding rule is_link can_field_derive_copy can_field_derive_eq
shape Copy kind label looped set = copy_shape (eqb label label_repeated) (eqb kind type_message) looped set (can_pack kind)
shape Eq kind label looped set = eq_shape (eqb label label_repeated) (eqb kind type_message) looped (type_eq kind)

-- ---- where the field is no link, a loop doesn't count

copy_free : (repeated message looped set plain c : Bool) → (message && not repeated) ≡ false → choose repeated false (choose message (choose looped false (choose set false c)) plain) ≡ choose repeated false (choose message (choose false false (choose set false c)) plain)
unfolding choose
copy_free true message looped set plain c e = refl
copy_free false false looped set plain c e = refl
copy_free false true looped set plain c e = both_ways refl e

eq_free : (repeated message looped plain c : Bool) → (message && not repeated) ≡ false → choose message (choose repeated false (choose looped false c)) plain ≡ choose message (choose repeated false (choose false false c)) plain
unfolding choose
eq_free true true looped plain c e = refl
eq_free repeated false looped plain c e = refl
eq_free false true looped plain c e = both_ways refl e

pub loop_free : (d : Derive) (kind label : ℕ) (looped set c : Bool) → is_link kind label ≡ false → rule d kind label looped set c ≡ rule d kind label false set c
unfolding rule is_link can_field_derive_copy can_field_derive_eq
loop_free Copy kind label looped set c e = copy_free (eqb label label_repeated) (eqb kind type_message) looped set (can_pack kind) c e
loop_free Eq kind label looped set c e = eq_free (eqb label label_repeated) (eqb kind type_message) looped (type_eq kind) c e

-- ---- where it is one, it cannot if its type cannot

copy_none : (repeated message looped set plain : Bool) → (message && not repeated) ≡ true → choose repeated false (choose message (choose looped false (choose set false false)) plain) ≡ false
unfolding choose
copy_none true message looped set plain e = refl
copy_none false false looped set plain e = both_ways e refl
copy_none false true true set plain e = refl
copy_none false true false true plain e = refl
copy_none false true false false plain e = refl

eq_none : (repeated message looped plain : Bool) → (message && not repeated) ≡ true → choose message (choose repeated false (choose looped false false)) plain ≡ false
unfolding choose
eq_none repeated false looped plain e = both_ways e refl
eq_none true true looped plain e = refl
eq_none false true true plain e = refl
eq_none false true false plain e = refl

pub link_none : (d : Derive) (kind label : ℕ) (looped set : Bool) → is_link kind label ≡ true → rule d kind label looped set false ≡ false
unfolding rule is_link can_field_derive_copy can_field_derive_eq
link_none Copy kind label looped set e = copy_none (eqb label label_repeated) (eqb kind type_message) looped set (can_pack kind) e
link_none Eq kind label looped set e = eq_none (eqb label label_repeated) (eqb kind type_message) looped (type_eq kind) e

-- ---- what a field turns on

turn_fixed : (answer : Bool → Bool) (r : Bool) → ((c : Bool) → answer c ≡ r) → turn answer ≡ Some r
unfolding turn choose
turn_fixed answer true h = rw (h true, h false)
turn_fixed answer false h = rw (h true)

turn_same : (answer : Bool → Bool) → ((c : Bool) → answer c ≡ c) → turn answer ≡ None
unfolding turn choose
turn_same answer h = rw (h true, h false)

-- what a field that turns on its type's message is
pub record ByType (answer : Bool → Bool) (is_link looped : Bool) : Type 0 where
  pub same : (c : Bool) → answer c ≡ c
  pub link : is_link ≡ true
  pub free : looped ≡ false

module _ {answer : Bool → Bool} {is_link looped : Bool} where
  pub turn_told : Shape answer is_link looped → (r : Bool) → turn answer ≡ Some r → (c : Bool) → answer c ≡ r
  turn_told (fixed s h) r e c = let t = turn_fixed answer s h in h c ∙ cc
  turn_told (by_type h l o) r e c = let t = turn_same answer h in cc

  pub turn_type : Shape answer is_link looped → turn answer ≡ None → ByType answer is_link looped
  turn_type (fixed s h) e = let t = turn_fixed answer s h in absurd cc
  turn_type (by_type h l o) e = record { same = h; link = l; free = o }

  -- an answer goes by the message's answer at most
  pub shape_same : Shape answer is_link looped → (x y : Bool) → (is_link ≡ true → looped ≡ false → x ≡ y) → answer x ≡ answer y
  shape_same (fixed r h) x y e = h x ∙ sym (h y)
  shape_same (by_type h l o) x y e = h x ∙ e l o ∙ sym (h y)

-- what the rule goes by counts only at a link
pub rule_same : (d : Derive) (kind label : ℕ) (looped looped' set can can' : Bool) → (is_link kind label ≡ true → looped ≡ looped') → (is_link kind label ≡ true → can ≡ can') → rule d kind label looped set can ≡ rule d kind label looped' set can'
rule_same d kind label looped looped' set can can' same_loop same_can =
    ⊎_elim (λ e. ap (λ (o : Bool). rule d kind label o set can) (same_loop e))
    (λ e. loop_free d kind label looped set can e ∙ sym (loop_free d kind label looped' set can e))
    (bool_cases (is_link kind label))
    ∙ shape_same (shape d kind label looped' set) can can' (λ is free. same_can is)

-- so the table of boxes serves as well as the test of leading
pub loop_is_box : (d : Derive) (f : Fields) (i : ℕ) (set c : Bool) → rule d (kind_of f i) (label_of f i) (boxed_by_loop f i) set c ≡ rule d (kind_of f i) (label_of f i) (leadsb f (target_of f i) (owner_of f i)) set c
loop_is_box d f i set c = rule_same d (kind_of f i) (label_of f i) (boxed_by_loop f i) (leadsb f (target_of f i) (owner_of f i)) set c c (boxed_link f i) (λ is. refl)
