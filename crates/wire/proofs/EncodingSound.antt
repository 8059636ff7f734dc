-- What is read encodes these fields. Assumes nothing.
use mathlib.Core.Path.{◌≡◌, refl, sym, ap, ◌∙◌, subst}
use mathlib.Core.List.{List, [], ◌∷◌, ◌++◌, append_assoc}
use mathlib.Core.Option.{Option, none, some}
use Prim.Native.Nat.{ℕ, zero, suc, ◌+◌, ◌*◌, ◌-◌, ◌/◌, ◌%◌, ◌<◌, ◌≤◌}
use native.Mathlib.Omega.{arith}
use lib.ListN.{length, get_or, take, drop, take-append-drop, length-drop, drop_of_length-le}
use lib.Seq.{drop-drop, length-take-le}
use lib.Dec.{ltb, leb, eqb}
use borrow.Author.Tests.{ltb-true, ltb-false, leb-true, leb-false, eqb-true, eqb-false}
use Rattle.base.specs.Choose.{choose, choose_case}
use Rattle.wire.specs.Varint.{value_at, Varint, varint, groups, on_varint, below, last, cap}
use Rattle.wire.specs.Step.{Record, Step, End, Fault, Found, step_at, payload, sized, scalar, delimited, keyed}
use Rattle.wire.specs.Records.{on_step, scan, records}
use Rattle.wire.specs.Encoding.{Base128, EncodesVarint, EncodesField, EncodesValue, Encodes, Value, varint_value, i64_value, len_value, i32_value, Field, wire_type, little_endian, Bytes}
use Rattle.wire.specs.Encoding.Base128.{last as last_group, more as more_groups}
use Rattle.wire.specs.Encoding.Encodes.{none as no_fields, more as more_fields}
use Rattle.wire.proofs.StepLaws.{Lies, lies}
use Rattle.wire.specs.Contents.{value_of, field_of, fields_of, also, contents, payload_of}
use Rattle.wire.proofs.VarintLaws.{Known, known, known_varint}
use Rattle.std.specs.Prelude.{Some, None}
use Rattle.std.proofs.lemmas.List.{drop_more}

-- the groups that stand from at to next
record GroupsAt (left : ℕ) (s : List ℕ) (at v next : ℕ) : Type 0 where
  bytes : List ℕ
  encoded : Base128 bytes v
  few : length bytes ≤ left
  there : drop at s ≡ bytes ++ drop next s

abbrev Right : ℕ → List ℕ → ℕ → Varint → Type 0
Right left s at None = Unit
Right left s at (Some y) = GroupsAt left s at y.0 y.1

module _ (s : List ℕ) (all_bytes : Bytes s) where
  last_right : (n at : ℕ) → at < length s → get_or s at 0 < 128 → Right (suc n) s at (last (suc n) (get_or s at 0) at)
  last_right n at h small =
      let is : Right (suc n) s at (value_at (get_or s at 0) (at + 1)) = record { bytes = get_or s at 0 ∷ []; encoded = last_group small refl; few = omega arith; there = drop_more s at 0 h } in
      choose_case (Right (suc n) s at) (eqb (suc n) 1) (λ _. choose_case (Right (suc n) s at) (ltb (get_or s at 0) 2) (λ _. is) (λ _. tt)) (λ _. is)

  below_right : (n at : ℕ) (r : Varint) → at < length s → 128 ≤ get_or s at 0 → Right n s (at + 1) r → Right (suc n) s at (below (get_or s at 0 % 128) r)
  unfolding on_varint
  below_right n at None h big k = tt
  below_right n at (Some y) h big k =
      let u : get_or s at 0 < 256 = all_bytes at in
      let e : get_or s at 0 ≡ 128 + get_or s at 0 % 128 = omega arith in
      record {
        bytes = get_or s at 0 ∷ k.bytes;
        encoded = more_groups {n = y.0 * 128 + get_or s at 0 % 128} (get_or s at 0 % 128) y.0 k.bytes (omega arith) k.encoded (ap (λ (x : ℕ). x ∷ k.bytes) e) (omega arith);
        few = let f : length k.bytes ≤ n = k.few in omega arith;
        there = drop_more s at 0 h ∙ ap (λ (x : List ℕ). get_or s at 0 ∷ x) k.there;
      }

  groups_right : (left at : ℕ) → Right left s at (groups left s at)
  unfolding groups
  groups_right zero at = tt
  groups_right (suc n) at =
      choose_case (Right (suc n) s at) (leb (length s) at) (λ _. tt)
      (λ e. choose_case (Right (suc n) s at) (ltb (get_or s at 0) 128) (λ t. last_right n at (leb-false _ _ e) (ltb-true _ _ t))
      (λ t. below_right n at (groups n s (at + 1)) (leb-false _ _ e) (ltb-false _ _ t) (groups_right n (at + 1))))

  -- a varint stands from at to next
  record VarintAt (at v next : ℕ) : Type 0 where
    bytes : List ℕ
    encodes : EncodesVarint bytes v
    there : drop at s ≡ bytes ++ drop next s

  abbrev Encoded : ℕ → Varint → Type 0
  Encoded at None = Unit
  Encoded at (Some y) = VarintAt at y.0 y.1

  encoded_of : (at : ℕ) (r : Varint) → Right 10 s at r → Known 10 s at r → Encoded at r
  unfolding cap
  encoded_of at None g k = tt
  encoded_of at (Some y) g k =
      let l : y.0 < cap 10 = k.0 in
      record { bytes = g.bytes; encodes = record { base128 = g.encoded; at_most_ten = g.few; in_64_bits = omega arith }; there = g.there }

  varint_right : (at : ℕ) → Encoded at (varint s at)
  unfolding varint
  varint_right at = encoded_of at (groups 10 s at) (groups_right 10 at) (known 10 s at)

  -- a field stands from at to the record's end
  record FieldAt (at : ℕ) (f : Record) : Type 0 where
    bytes : List ℕ
    encodes : EncodesField bytes (field_of s f)
    there : drop at s ≡ bytes ++ drop f.next s

  abbrev Holds : ℕ → Step → Type 0
  Holds at End = length s ≤ at
  Holds at (Fault key) = Unit
  Holds at (Found f) = FieldAt at f

  -- key and payload, with what is known of the value
  held : (at number wt start : ℕ) (k : VarintAt at (number * 8 + wt) start) → 1 ≤ number
      → (f : Record) → f.number ≡ number → (x : Value) → value_of s f ≡ x → wire_type x ≡ wt
      → (p : List ℕ) → EncodesValue p x → drop start s ≡ p ++ drop f.next s → FieldAt at f
  unfolding field_of
  held at number wt start k one f is x val w p enc there =
      let same : wire_type (value_of s f) ≡ wt = ap wire_type val ∙ w in
      let key_is : number * 8 + wt ≡ f.number * 8 + wire_type (value_of s f) = omega arith in
      record {
        bytes = k.bytes ++ p;
        encodes = record {
          key = k.bytes;
          payload = p;
          joined = refl;
          number_from_one = omega arith;
          encodes_key = subst (λ (n : ℕ). EncodesVarint k.bytes n) key_is k.encodes;
          encodes_payload = subst (λ (y : Value). EncodesValue p y) (sym val) enc;
        };
        there = k.there ∙ ap (λ (l : List ℕ). k.bytes ++ l) there ∙ sym (append_assoc k.bytes p (drop f.next s));
      }

  -- n bytes from start on
  sized_there : (start n : ℕ) → drop start s ≡ take n (drop start s) ++ drop (start + n) s
  sized_there start n = rw (← drop-drop n start s) (sym (take-append-drop n (drop start s)))

  sized_long : (start n : ℕ) → start ≤ length s → n ≤ length s - start → length (take n (drop start s)) ≡ n
  sized_long start n h l = length-take-le n (drop start s) (rw (length-drop start s) l)

  module _ (at number wt start : ℕ) (k : VarintAt at (number * 8 + wt) start) (one : 1 ≤ number) (after : start ≤ length s) where
    scalar_right : wt ≡ 0 → (r : Varint) → Encoded start r → Holds at (scalar at number wt start r)
    unfolding on_varint value_of choose
    scalar_right is None g = tt
    scalar_right is (Some y) g =
        held at number wt start k one (record { key = at; number = number; wiretype = wt; value = y.0; start = start; next = y.1 }) refl (varint_value y.0) (rw is) (sym is) g.bytes g.encodes g.there

    fixed_right : (n : ℕ) (x : ℕ → Value) → ((v : ℕ) → wire_type (x v) ≡ wt)
        → ((bs : List ℕ) → length bs ≡ n → EncodesValue bs (x (little_endian bs)))
        → ((f : Record) → f.wiretype ≡ wt → value_of s f ≡ x (little_endian (payload_of s f)))
        → Holds at (sized (length s) at number wt 0 start n)
    fixed_right n x w enc val =
        choose_case (Holds at) (leb n (length s - start))
        (λ e.
        let f : Record = record { key = at; number = number; wiretype = wt; value = 0; start = start; next = start + n } in
        let len : start + n - start ≡ n = omega arith in
        let part_is : payload_of s f ≡ take n (drop start s) = ap (λ (m : ℕ). take m (drop start s)) len in
        held at number wt start k one f refl (x (little_endian (payload_of s f))) (val f refl) (w _) (payload_of s f)
        (enc (payload_of s f) (ap length part_is ∙ sized_long start n after (leb-true _ _ e)))
        (rw part_is (sized_there start n)))
        (λ _. tt)

    delimited_right : wt ≡ 2 → (r : Varint) → Encoded start r → Known 10 s start r → Holds at (delimited (length s) at number wt r)
    unfolding on_varint value_of choose
    delimited_right is None g known = tt
    delimited_right is (Some y) g known =
        choose_case (Holds at) (leb y.0 (length s - y.1))
        (λ e.
        let f : Record = record { key = at; number = number; wiretype = wt; value = y.0; start = y.1; next = y.1 + y.0 } in
        let len : y.1 + y.0 - y.1 ≡ y.0 = omega arith in
        let part_is : payload_of s f ≡ take y.0 (drop y.1 s) = ap (λ (m : ℕ). take m (drop y.1 s)) len in
        let long : length (payload_of s f) ≡ y.0 = ap length part_is ∙ sized_long y.1 y.0 known.2 (leb-true _ _ e) in
        held at number wt start k one f refl (len_value (payload_of s f)) (rw is) (sym is) (g.bytes ++ payload_of s f)
        (record { size = g.bytes; encodes_size = rw long g.encodes; joined = refl })
        (g.there ∙ rw part_is (ap (λ (l : List ℕ). g.bytes ++ l) (sized_there y.1 y.0) ∙ sym (append_assoc g.bytes _ _))))
        (λ _. tt)

  payload_right : (at number wt start : ℕ) → VarintAt at (number * 8 + wt) start → start ≤ length s → Holds at (payload s at number wt start)
  unfolding payload value_of choose
  payload_right at number wt start k after =
      choose_case (Holds at) (eqb number 0) (λ _. tt)
      (λ z.
      let not_zero : number ≡ 0 → ⊥ = eqb-false _ _ z in
      let one : 1 ≤ number = omega arith in
      choose_case (Holds at) (eqb wt 0) (λ e. scalar_right at number wt start k one after (eqb-true _ _ e) (varint s start) (varint_right start))
      (λ _. choose_case (Holds at) (eqb wt 1) (λ e. fixed_right at number wt start k one after 8 i64_value (λ _. sym (eqb-true _ _ e)) (λ bs l. (l, refl)) (λ f w. rw (w ∙ eqb-true _ _ e)))
      (λ _. choose_case (Holds at) (eqb wt 2) (λ e. delimited_right at number wt start k one after (eqb-true _ _ e) (varint s start) (varint_right start) (known_varint s start))
      (λ _. choose_case (Holds at) (eqb wt 5) (λ e. fixed_right at number wt start k one after 4 i32_value (λ _. sym (eqb-true _ _ e)) (λ bs l. (l, refl)) (λ f w. rw (w ∙ eqb-true _ _ e)))
      (λ _. tt)))))

  keyed_right : (at : ℕ) (r : Varint) → Encoded at r → Known 10 s at r → Holds at (keyed s at r)
  unfolding on_varint
  keyed_right at None g k = tt
  keyed_right at (Some y) g k =
      let split : y.0 ≡ y.0 / 8 * 8 + y.0 % 8 = omega arith in
      payload_right at (y.0 / 8) (y.0 % 8) y.1 (subst (λ (n : ℕ). VarintAt at n y.1) split g) k.2

  step_right : (at : ℕ) → Holds at (step_at s at)
  unfolding step_at
  step_right at =
      choose_case (Holds at) (leb (length s) at) (λ e. leb-true _ _ e) (λ _. keyed_right at (varint s at) (varint_right at) (known_varint s at))

  also_right : (at : ℕ) (f : Record) → FieldAt at f → (o : Option (List Field)) → ((gs : List Field) → o ≡ some gs → Encodes (drop f.next s) gs)
      → (fs : List Field) → also (field_of s f) o ≡ some fs → Encodes (drop at s) fs
  also_right at f h none on fs e = let z : ◌≡◌ {A = ℕ} 0 1 = cc in absurd (omega arith)
  also_right at f h (some gs) on fs e =
      let is : field_of s f ∷ gs ≡ fs = cc in
      subst (λ (l : List Field). Encodes (drop at s) l) is (more_fields h.bytes (drop f.next s) h.encodes (on gs refl) h.there)

  on_right : (n at : ℕ) → ((f : Record) → Lies (length s) at f → (gs : List Field) → fields_of s (scan n s f.next) ≡ some gs → Encodes (drop f.next s) gs)
      → (r : Step) → r ≡ step_at s at → Holds at r
      → (fs : List Field) → fields_of s (on_step r [] (λ key. Fault key ∷ []) (λ f. Found f ∷ scan n s f.next)) ≡ some fs → Encodes (drop at s) fs
  unfolding on_step fields_of
  on_right n at on End is h fs e =
      let is : ◌≡◌ {A = List Field} [] fs = cc in
      subst (λ (l : List Field). Encodes (drop at s) l) is (no_fields (drop_of_length-le s h))
  on_right n at on (Fault key) is h fs e = let z : ◌≡◌ {A = ℕ} 0 1 = cc in absurd (omega arith)
  on_right n at on (Found f) is h fs e = also_right at f h (fields_of s (scan n s f.next)) (on f (lies s at (Found f) f is refl)) fs e

  scan_right : (n at : ℕ) → length s - at ≤ n → (fs : List Field) → fields_of s (scan n s at) ≡ some fs → Encodes (drop at s) fs
  unfolding scan fields_of
  scan_right zero at enough fs e =
      let is : ◌≡◌ {A = List Field} [] fs = cc in
      let past : length s ≤ at = omega arith in
      subst (λ (l : List Field). Encodes (drop at s) l) is (no_fields (drop_of_length-le s past))
  scan_right (suc n) at enough fs e =
      on_right n at (λ f l gs h. scan_right n f.next (omega arith) gs h) (step_at s at) refl (step_right at) fs e

-- what the reader gives, the bytes encode
pub sound : (s : List ℕ) → Bytes s → (fs : List Field) → contents s ≡ some fs → Encodes s fs
unfolding contents records
sound s all_bytes fs e = scan_right s all_bytes (length s - 0) 0 (omega arith) fs e
