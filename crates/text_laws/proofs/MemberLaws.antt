-- The numbers of a message's fields stand for its fields: those of no oneof, and those of each. Assumes nothing.
use Prim.Native.Nat.{ℕ, suc, ◌+◌, ◌≤◌, ◌<◌}
use Rattle.std.specs.Prelude.{◌≡◌, Bool, length, None, Some}
use Rattle.std.specs.Prelude as std
use Rattle.std.proofs.Math.Path.{refl, ap₂}
use Rattle.std.proofs.Common.{sym, ap, ◌∙◌, ⊎_elim, eq-eqb}
use Rattle.std.proofs.Math.Bool.{true, false, ◌||◌, not}
use Rattle.std.proofs.Math.Option.{Option, some, none}
use mathlib.Core.List.{List, [], ◌∷◌}
use native.Mathlib.Omega.{arith}
use Rattle.std.proofs.Math.Decide.{ℕ_discrete}
use Rattle.base.specs.Choose.{choose, choose_case}
use Rattle.base.specs.Lists.{any, is_empty, Every, map_length}
use Rattle.base.specs.Tests.{bool_cases, both_ways, or_false_left, or_false_right}
use Rattle.base.proofs.BytesLaws.{eqb_turned}
use Rattle.descriptor.specs.Descriptor.{Bytes, Forest, FieldDescriptor, MessageDescriptor}
use Rattle.descriptor.specs.Decode.{entries, parts, decode_field, decode_message}
use Rattle.descriptor.specs.Seen.{option_seen}
use Rattle.text_tables.specs.Rows.{message_row, field_row, in_none, is_plain as row_is_plain, in_one, is_in}
use Rattle.text_tables.specs.declared.MessageRow.{MessageRow}
use Rattle.text_tables.specs.declared.FieldRow.{FieldRow}
use Rattle.members.specs.Members.{numbers_where, members, in_oneofs}
use Rattle.code_generator.specs.Oneofs.{oneof_of, is_plain, is_at, plain_fields, fields_at, OneofField, oneofs_from, oneof_fields}
use Rattle.text_laws.specs.Pairwise.{Pairwise}
use Rattle.text_laws.specs.Pairwise.Pairwise.{nil, cons}
use Rattle.text_laws.specs.Described.{Below, From}

-- the tests of a row's oneof
in_none_is : (o : std.Option ℕ) → in_none o ≡ is_plain (option_seen o)
unfolding in_none
in_none_is None = refl
in_none_is (Some i) = refl

in_one_is : (x : ℕ) (o : std.Option ℕ) → in_one x o ≡ is_at x (option_seen o)
unfolding in_one
in_one_is x None = refl
in_one_is x (Some i) = eqb_turned i x

-- a test of a row is that of its field: the numbers that pass it stand for the fields that pass it
module _ {P : ℕ → FieldDescriptor → Type 0} (t : List FieldRow) (test : FieldRow → Bool) (passes : FieldDescriptor → Bool) (is : (k : ℕ) (f : FieldDescriptor) → P k f → test (field_row t k) ≡ passes f)
    (passing : List FieldDescriptor → List FieldDescriptor) (on_nil : passing [] ≡ []) (on_cons : (f : FieldDescriptor) (fs : List FieldDescriptor) → passing (f ∷ fs) ≡ choose (passes f) (f ∷ passing fs) (passing fs)) where
  if_passes : (passed : Bool) {k : ℕ} {f : FieldDescriptor} {ks : List ℕ} {fs : List FieldDescriptor} → P k f → Pairwise P ks fs → Pairwise P (choose passed (k ∷ ks) ks) (choose passed (f ∷ fs) fs)
  unfolding choose
  if_passes true p ps = cons p ps
  if_passes false p ps = ps

  numbers_pairwise : (k : ℕ) (fs : List FieldDescriptor) → From P k fs → Pairwise P (numbers_where test t (length fs) k) (passing fs)
  unfolding numbers_where
  numbers_pairwise k [] h = rw on_nil nil
  numbers_pairwise k (f ∷ fs) h = rw (is k f h.0, on_cons f fs) (if_passes (passes f) h.0 (numbers_pairwise (suc k) fs h.1))

-- what holds of a row and its field; the row has the field's oneof
module _ {P : ℕ → FieldDescriptor → Type 0} (t : List FieldRow) (oneof : (k : ℕ) (f : FieldDescriptor) → P k f → option_seen (field_row t k).oneof ≡ oneof_of f) where
  plain_is : (k : ℕ) (f : FieldDescriptor) → P k f → row_is_plain (field_row t k) ≡ is_plain (oneof_of f)
  plain_is k f p = in_none_is (field_row t k).oneof ∙ ap is_plain (oneof k f p)

  at_is : (x k : ℕ) (f : FieldDescriptor) → P k f → is_in x (field_row t k) ≡ is_at x (oneof_of f)
  at_is x k f p = in_one_is x (field_row t k).oneof ∙ ap (is_at x) (oneof k f p)

  pub plain_numbers : (k : ℕ) (fs : List FieldDescriptor) → From P k fs → Pairwise P (numbers_where row_is_plain t (length fs) k) (plain_fields fs)
  unfolding plain_fields
  plain_numbers = numbers_pairwise t row_is_plain (λ f. is_plain (oneof_of f)) plain_is plain_fields refl (λ f fs. refl)

  pub oneof_numbers : (x k : ℕ) (fs : List FieldDescriptor) → From P k fs → Pairwise P (numbers_where (is_in x) t (length fs) k) (fields_at x fs)
  unfolding fields_at
  oneof_numbers x = numbers_pairwise t (is_in x) (λ f. is_at x (oneof_of f)) (at_is x) (fields_at x) refl (λ f fs. refl)

  -- those of message i, whose part p is
  module _ (messages : List MessageRow) (i : ℕ) (p : Bytes) (rows : From P (message_row messages i).first (decode_message p).fields) where
    pub plain_members : Pairwise P (members row_is_plain messages t i p) (plain_fields (decode_message p).fields)
    unfolding decode_message
    plain_members = rw (← (map_length decode_field (parts 2 (entries p)))) (plain_numbers (message_row messages i).first (decode_message p).fields rows)

    pub oneof_members : (x : ℕ) → Pairwise P (members (is_in x) messages t i p) (fields_at x (decode_message p).fields)
    unfolding decode_message
    oneof_members x = rw (← (map_length decode_field (parts 2 (entries p)))) (oneof_numbers x (message_row messages i).first (decode_message p).fields rows)

  -- is a field in a oneof?
  pub in_oneofs_is : (k : ℕ) (fs : List FieldDescriptor) → From P k fs → in_oneofs t (length fs) k ≡ any (λ (f : FieldDescriptor). not (is_plain (oneof_of f))) fs
  unfolding in_oneofs any
  in_oneofs_is k [] h = refl
  in_oneofs_is k (f ∷ fs) h = ap₂ ◌||◌ (ap not (plain_is k f h.0)) (in_oneofs_is (suc k) fs h.1)

-- ---- a oneof is written where a field is in one

abbrev in_oneof : FieldDescriptor → Bool
in_oneof f = not (is_plain (oneof_of f))

plain_not_at : (i : ℕ) (o : Option ℕ) → not (is_plain o) ≡ false → is_at i o ≡ false
plain_not_at i none h = refl
plain_not_at i (some j) h = both_ways refl h

none_at : (i : ℕ) (fs : List FieldDescriptor) → any in_oneof fs ≡ false → fields_at i fs ≡ []
unfolding any fields_at choose
none_at i [] h = refl
none_at i (f ∷ fs) h =
    rw (plain_not_at i (oneof_of f) (or_false_left (in_oneof f) (any in_oneof fs) h)) (none_at i fs (or_false_right (in_oneof f) (any in_oneof fs) h))

-- a field is in a oneof: the oneof has it
some_at : (i : ℕ) (f : FieldDescriptor) (fs : List FieldDescriptor) → oneof_of f ≡ some i → is_empty (fields_at i (f ∷ fs)) ≡ false
unfolding fields_at choose
some_at i f fs e = rw (e, eq-eqb i i refl)

more_at : (i : ℕ) (f : FieldDescriptor) (fs : List FieldDescriptor) → is_empty (fields_at i fs) ≡ false → is_empty (fields_at i (f ∷ fs)) ≡ false
unfolding fields_at
more_at i f fs h = choose_case (λ (l : List FieldDescriptor). is_empty l ≡ false) (is_at i (oneof_of f)) (λ _. refl) (λ _. h)

record Filled (n : ℕ) (fs : List FieldDescriptor) : Type 0 where
  index : ℕ
  below : index < n
  filled : is_empty (fields_at index fs) ≡ false

filled_by : (n : ℕ) (fs : List FieldDescriptor) → Every (Below n) fs → any in_oneof fs ≡ true → Filled n fs
unfolding any
filled_by n [] b h = both_ways h refl
filled_by n (f ∷ fs) b h = go (filled_by n fs b.1) (oneof_of f) refl h
  where
    go : (any in_oneof fs ≡ true → Filled n fs) → (o : Option ℕ) → oneof_of f ≡ o → (not (is_plain o) || any in_oneof fs) ≡ true → Filled n (f ∷ fs)
    go later none e g = let r = later g in record { index = r.index; below = r.below; filled = more_at r.index f fs r.filled }
    go later (some i) e g = record { index = i; below = b.0 i e; filled = some_at i f fs e }

module _ (m : MessageDescriptor) (nested : Forest MessageDescriptor) where
  no_oneofs : any in_oneof m.fields ≡ false → (i : ℕ) (ns : List (Option Bytes)) → oneofs_from m nested i ns ≡ []
  unfolding oneofs_from choose
  no_oneofs h i [] = refl
  no_oneofs h i (n ∷ ns) = rw (none_at i m.fields h) (no_oneofs h (suc i) ns)

  a_oneof : (j i : ℕ) (ns : List (Option Bytes)) → i ≤ j → j < i + length ns → is_empty (fields_at j m.fields) ≡ false → is_empty (oneofs_from m nested i ns) ≡ false
  unfolding oneofs_from
  a_oneof j i [] low high h = absurd (omega arith)
  a_oneof j i (n ∷ ns) low high h =
      choose_case (λ (l : List OneofField). is_empty l ≡ false) (is_empty (fields_at i m.fields))
      (λ e. a_oneof j (suc i) ns (above (ℕ_discrete i j) e) (omega arith) h)
      (λ _. refl)
    where
      above : Dec (i ≡ j) → is_empty (fields_at i m.fields) ≡ true → suc i ≤ j
      above (yes q) e = both_ways e (ap (λ (x : ℕ). is_empty (fields_at x m.fields)) q ∙ h)
      above (no q) e = omega arith

  pub has_oneof_fields : Every (Below (length m.oneofs)) m.fields → any in_oneof m.fields ≡ not (is_empty (oneof_fields m nested))
  has_oneof_fields b =
      ⊎_elim (λ h. let r = filled_by (length m.oneofs) m.fields b h in h ∙ sym (ap not (a_oneof r.index 0 m.oneofs (omega arith) (let u = r.below in omega arith) r.filled)))
      (λ h. h ∙ sym (ap (λ (l : List OneofField). not (is_empty l)) (no_oneofs h 0 m.oneofs)))
      (bool_cases (any in_oneof m.fields))
