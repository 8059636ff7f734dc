-- What holds in each row of the tables holds of each field, and of a message's rows, of its fields. Assumes nothing.
use Rattle.std.specs.Prelude.{◌≡◌, Bool, true, false, ◌&&◌, ◌||◌, not, ℕ, zero, suc, length}
use Rattle.std.proofs.Math.Path.{refl, ap}
use Rattle.std.proofs.Common.{sym, ◌∙◌}
use Rattle.std.proofs.Math.Bool.{and_assoc, and-true}
use mathlib.Core.List.{List, [], ◌∷◌, map}
use Rattle.std.proofs.Math.Logic.{⊎_elim}
use Rattle.base.specs.Bytes.{same, same_sound}
use Rattle.base.specs.Choose.{choose}
use Rattle.base.specs.Lists.{all, any, all_map, all_append}
use Rattle.base.specs.Tests.{bool_cases, or_false_left, or_false_right}
use Rattle.descriptor.specs.Descriptor.{Bytes, FieldDescriptor}
use Rattle.name_rules.specs.FullNames.{Entry}
use Rattle.context.specs.MessageGraph.{fields_of}
use Rattle.derives.specs.Can.{every}
use Rattle.context_laws.specs.At.{At}
use Rattle.context_laws.specs.At.At.{first, next}
use Rattle.context_laws.specs.Tables.{Row, field_row, rows_from, called, listed, Distinct}

every_first : (n : ℕ) (p : ℕ → Bool) → every (suc n) p ≡ (p zero && every n (λ k. p (suc k)))
unfolding every
every_first zero p = sym (and-true (p zero))
every_first (suc n) p = rw (every_first n p) (and_assoc (p zero) (every n (λ k. p (suc k))) (p (suc n)))

-- a test of places and a test of elements
pub every_is_all : {A : Type 0} (xs : List A) (p : ℕ → Bool) (q : A → Bool) → ((x : A) (k : ℕ) → At x xs k → p k ≡ q x) → every (length xs) p ≡ all q xs
unfolding every all
every_is_all [] p q h = refl
every_is_all (x ∷ xs) p q h =
    every_first (length xs) p
    ∙ rw (h x zero (first refl)) (ap (λ (t : Bool). q x && t) (every_is_all xs (λ k. p (suc k)) q (λ y k at. h y (suc k) (next at))))

all_true : {A : Type 0} (p : A → Bool) → ((x : A) → p x ≡ true) → (xs : List A) → all p xs ≡ true
unfolding all
all_true p h [] = refl
all_true p h (x ∷ xs) = rw (h x) (all_true p h xs)

-- the field of a row can, or is of another message
abbrev pub of_other : (Bytes → FieldDescriptor → Bool) → Bytes → Row → Bool
of_other can full r = not (same r.full full) || can r.full r.field

module _ (can : Bytes → FieldDescriptor → Bool) (full : Bytes) where
  by_entry : (i : ℕ) (e : Entry) (es : List Entry) → all (of_other can full) (rows_from i (e ∷ es)) ≡ (all (λ f. of_other can full (field_row i e f)) e.message.fields && all (of_other can full) (rows_from (suc i) es))
  unfolding rows_from
  by_entry i e es =
      all_append (of_other can full) (map (field_row i e) e.message.fields) (rows_from (suc i) es)
      ∙ ap (λ (t : Bool). t && all (of_other can full) (rows_from (suc i) es)) (all_map (of_other can full) (field_row i e) e.message.fields)

  -- of messages with other full names alone
  others : (e : Entry) → same e.full full ≡ false → (i : ℕ) → all (λ f. of_other can full (field_row i e f)) e.message.fields ≡ true
  others e h i = all_true (λ f. of_other can full (field_row i e f)) (λ f. rw h) e.message.fields

  none : (i : ℕ) (es : List Entry) → listed es full ≡ false → all (of_other can full) (rows_from i es) ≡ true
  unfolding listed any rows_from all
  none i [] h = refl
  none i (e ∷ es) h =
      by_entry i e es
      ∙ rw (others e (or_false_left (same e.full full) (any (called full) es) h) i) (none (suc i) es (or_false_right (same e.full full) (any (called full) es) h))

  pub own_rows : (i : ℕ) (es : List Entry) → Distinct es → all (of_other can full) (rows_from i es) ≡ all (can full) (fields_of es full)
  unfolding fields_of rows_from all choose
  own_rows i [] d = refl
  own_rows i (e ∷ es) d =
      by_entry i e es
      ∙ ⊎_elim
      (λ h.
      let is = same_sound e.full full h in
      let rest = none (suc i) es (ap (listed es) (sym is) ∙ d.0) in
      rw (rest, and-true, h) (ap (λ (n : Bytes). all (can n) e.message.fields) is))
      (λ h. rw (others e h i, h) (own_rows (suc i) es d.1))
      (bool_cases (same e.full full))
