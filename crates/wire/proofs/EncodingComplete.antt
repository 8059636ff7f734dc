-- What the bytes encode is read. Assumes nothing.
use mathlib.Core.Path.{◌≡◌, refl, sym, ap, ◌∙◌}
use mathlib.Core.List.{List, [], ◌∷◌, ◌++◌, append_assoc}
use mathlib.Core.Option.{some}
use Prim.Native.Nat.{ℕ, zero, suc, ◌+◌, ◌*◌, ◌-◌, ◌/◌, ◌%◌, ◌^◌, ◌<◌, ◌≤◌}
use native.Mathlib.Numerals.{sub-one}
use native.Mathlib.Omega.{arith}
use lib.ListN.{length, get_or, take, drop, length-drop, length-append}
use lib.Seq.{drop-drop, drop_at, take_at, get_or-drop}
use borrow.Author.Tests.{ne_eqb, lt-leb, le-leb}
use Rattle.base.specs.Choose.{choose, choices}
use Rattle.wire.specs.Varint.{value_at, varint, groups, on_varint, cap}
use Rattle.wire.specs.Step.{Record, End, Found, step_at, payload, sized}
use Rattle.wire.specs.Records.{records}
use Rattle.wire.specs.Encoding.{Base128, EncodesVarint, EncodesField, EncodesValue, Encodes, Value, varint_value, i64_value, len_value, i32_value, Field, wire_type, little_endian}
use Rattle.wire.specs.Encoding.Base128.{last, more}
use Rattle.wire.specs.Encoding.Encodes.{none as no_fields, more as more_fields}
use Rattle.wire.specs.Contents.{value_of, field_of, fields_of, contents}
use Rattle.wire.proofs.VarintLaws.{tenth, final, goes_value}
use Rattle.wire.proofs.RecordsLaws.{records_end, records_found}

module _ (s : List ℕ) where
  -- these bytes stand from at on: so many are left
  room : (at : ℕ) (a rest : List ℕ) → drop at s ≡ a ++ rest → length a ≤ length s - at
  room at a rest e = let l : length s - at ≡ length a + length rest = sym (length-drop at s) ∙ ap length e ∙ length-append a rest in omega arith

  behind : (at : ℕ) (a rest : List ℕ) → drop at s ≡ a ++ rest → drop (at + length a) s ≡ rest
  behind at a rest e = sym (drop-drop (length a) at s) ∙ ap (drop (length a)) e ∙ drop_at a rest (length a) refl

  first : (at b : ℕ) (rest : List ℕ) → drop at s ≡ b ∷ rest → b ≡ get_or s at 0
  first at b rest e = sym (ap (λ (l : List ℕ). get_or l 0 0) e) ∙ get_or-drop at s 0 0 ∙ ap (λ (i : ℕ). get_or s i 0) (omega arith)

  last_read : (left at n : ℕ) → 1 ≤ left → n < cap left → n < 128 → at < length s → n ≡ get_or s at 0 → value_at n (at + 1) ≡ groups left s at
  unfolding cap
  last_read zero at n pos low small h is = absurd (omega arith)
  last_read (suc zero) at n pos low small h is = tenth 1 s at (λ z. omega arith) h n is small refl low
  last_read (suc (suc m)) at n pos low small h is = final (suc (suc m)) s at (λ z. omega arith) h n is small (λ z. omega arith)

  -- there is no varint of no bytes
  some_bytes : {bs : List ℕ} {n : ℕ} → Base128 bs n → 1 ≤ length bs
  some_bytes {bs} (last small is) = let l : length bs ≡ 1 = ap length is in omega arith
  some_bytes {bs} (more g h tail small on is sum) = let l : length bs ≡ suc (length tail) = ap length is in omega arith

  more_read : (left at n g h : ℕ) (tail : List ℕ) → g < 128 → n ≡ g + 128 * h → at < length s → 128 + g ≡ get_or s at 0
      → value_at h (at + 1 + length tail) ≡ groups left s (at + 1) → value_at n (at + suc (length tail)) ≡ groups (suc left) s at
  more_read left at n g h tail small sum there is on =
      let value : n ≡ h * 128 + (128 + g) % 128 = omega arith in
      let next : at + suc (length tail) ≡ at + 1 + length tail = omega arith in
      ap (λ (x : ℕ). value_at x (at + suc (length tail))) value ∙ ap (λ (x : ℕ). value_at (h * 128 + (128 + g) % 128) x) next
      ∙ goes_value (suc left) s at (λ z. omega arith) there (128 + g) is (value_at h (at + 1 + length tail)) h (at + 1 + length tail) (omega arith) (rw sub-one on) refl

  groups_read : (left at n : ℕ) (bs rest : List ℕ) → Base128 bs n → length bs ≤ left → n < cap left → drop at s ≡ bs ++ rest → value_at n (at + length bs) ≡ groups left s at
  unfolding cap
  groups_read left at n bs rest (last small is) few low e =
      let l : length bs ≡ 1 = ap length is in
      let r : length bs ≤ length s - at = room at bs rest e in
      rw l (last_read left at n (omega arith) low small (omega arith) (first at n rest (e ∙ ap (λ (x : List ℕ). x ++ rest) is)))
  groups_read zero at n bs rest (more g h tail small on is sum) few low e = let l : length bs ≡ suc (length tail) = ap length is in absurd (omega arith)
  groups_read (suc zero) at n bs rest (more g h tail small on is sum) few low e =
      let l : length bs ≡ suc (length tail) = ap length is in
      let m : 1 ≤ length tail = some_bytes on in
      absurd (omega arith)
  groups_read (suc (suc m)) at n bs rest (more g h tail small on is sum) few low e =
      let l : length bs ≡ suc (length tail) = ap length is in
      let r : length bs ≤ length s - at = room at bs rest e in
      let there : drop at s ≡ (128 + g) ∷ (tail ++ rest) = e ∙ ap (λ (x : List ℕ). x ++ rest) is in
      rw l
      (more_read (suc m) at n g h tail small sum (omega arith) (first at (128 + g) (tail ++ rest) there)
      (groups_read (suc m) (at + 1) h tail rest on (omega arith) (omega arith) (behind at ((128 + g) ∷ []) (tail ++ rest) there)))

  varint_read : (at n : ℕ) (bs rest : List ℕ) → EncodesVarint bs n → drop at s ≡ bs ++ rest → value_at n (at + length bs) ≡ varint s at
  unfolding varint cap
  varint_read at n bs rest w e = groups_read 10 at n bs rest w.base128 w.at_most_ten (let l : n < 2 ^ 64 = w.in_64_bits in omega arith) e

  -- a record that holds this field stands from at on, up to next
  pub record RecordAt (at : ℕ) (f : Field) (next : ℕ) : Type 0 where
    pub found : Record
    pub here : Found found ≡ step_at s at
    pub holds : field_of s found ≡ f
    pub ends : found.next ≡ next

  -- the same of a payload from start on
  record PayloadAt (at number wt start : ℕ) (x : Value) (next : ℕ) : Type 0 where
    found : Record
    here : Found found ≡ payload s at number wt start
    numbered : found.number ≡ number
    holds : value_of s found ≡ x
    ends : found.next ≡ next

  -- what stands from start on is what lies between start and the end of it
  part_is : (start : ℕ) (p rest : List ℕ) → drop start s ≡ p ++ rest → take (start + length p - start) (drop start s) ≡ p
  part_is start p rest e =
      let n : start + length p - start ≡ length p = omega arith in
      rw (n, e) (take_at p rest (length p) refl)

  sized_read : (at number wt value start : ℕ) (p rest : List ℕ) → drop start s ≡ p ++ rest
      → Found (record { key = at; number = number; wiretype = wt; value = value; start = start; next = start + length p }) ≡ sized (length s) at number wt value start (length p)
  sized_read at number wt value start p rest e = let l : length p ≤ length s - start = room start p rest e in search choices depth 9

  payload_read : (at number start : ℕ) (x : Value) (p rest : List ℕ) → (number ≡ 0 → ⊥) → EncodesValue p x → drop start s ≡ p ++ rest
      → PayloadAt at number (wire_type x) start x (start + length p)
  unfolding payload value_of choose on_varint
  payload_read at number start (varint_value n) p rest one w e =
      record {
        found = record { key = at; number = number; wiretype = 0; value = n; start = start; next = start + length p };
        here = rw (ne_eqb number 0 one, ← varint_read start n p rest w e);
        numbered = refl;
        holds = refl;
        ends = refl;
      }
  payload_read at number start (i64_value n) p rest one w e =
      record {
        found = record { key = at; number = number; wiretype = 1; value = 0; start = start; next = start + length p };
        here = rw (ne_eqb number 0 one) (sized_read at number 1 0 start p rest e ∙ ap (sized (length s) at number 1 0 start) w.0);
        numbered = refl;
        holds = ap i64_value (ap little_endian (part_is start p rest e) ∙ w.1);
        ends = refl;
      }
  payload_read at number start (len_value q) p rest one w e =
      let there : drop start s ≡ w.size ++ (q ++ rest) = e ∙ ap (λ (x : List ℕ). x ++ rest) w.joined ∙ append_assoc w.size q rest in
      let from : ℕ = start + length w.size in
      let there₂ : drop from s ≡ q ++ rest = behind start w.size (q ++ rest) there in
      record {
        found = record { key = at; number = number; wiretype = 2; value = length q; start = from; next = from + length q };
        here = rw (ne_eqb number 0 one, ← varint_read start (length q) w.size (q ++ rest) w.encodes_size there) (sized_read at number 2 (length q) from q rest there₂);
        numbered = refl;
        holds = ap len_value (part_is from q rest there₂);
        ends = let l : length p ≡ length w.size + length q = ap length w.joined ∙ length-append w.size q in omega arith;
      }
  payload_read at number start (i32_value n) p rest one w e =
      record {
        found = record { key = at; number = number; wiretype = 5; value = 0; start = start; next = start + length p };
        here = rw (ne_eqb number 0 one) (sized_read at number 5 0 start p rest e ∙ ap (sized (length s) at number 5 0 start) w.0);
        numbered = refl;
        holds = ap i32_value (ap little_endian (part_is start p rest e) ∙ w.1);
        ends = refl;
      }

  -- a wire type is below 8
  wire_type_below : (x : Value) → wire_type x < 8
  wire_type_below (varint_value n) = omega arith
  wire_type_below (i64_value n) = omega arith
  wire_type_below (len_value q) = omega arith
  wire_type_below (i32_value n) = omega arith

  step_is : (at key start : ℕ) → at < length s → value_at key start ≡ varint s at → payload s at (key / 8) (key % 8) start ≡ step_at s at
  unfolding step_at choose on_varint
  step_is at key start h e = rw (lt-leb (length s) at h, ← e)

  pub field_read : (at : ℕ) (f : Field) (bs rest : List ℕ) → EncodesField bs f → drop at s ≡ bs ++ rest → RecordAt at f (at + length bs)
  unfolding field_of
  field_read at f bs rest w e =
      let there : drop at s ≡ w.key ++ (w.payload ++ rest) = e ∙ ap (λ (x : List ℕ). x ++ rest) w.joined ∙ append_assoc w.key w.payload rest in
      let start : ℕ = at + length w.key in
      let key : ℕ = f.number * 8 + wire_type f.value in
      let low : wire_type f.value < 8 = wire_type_below f.value in
      let number_is : key / 8 ≡ f.number = omega arith in
      let wire_is : key % 8 ≡ wire_type f.value = omega arith in
      let p : PayloadAt at f.number (wire_type f.value) start f.value (start + length w.payload) =
      payload_read at f.number start f.value w.payload rest (λ z. omega (arith, w.number_from_one)) w.encodes_payload (behind at w.key (w.payload ++ rest) there) in
      let r : length w.key ≤ length s - at = room at w.key (w.payload ++ rest) there in
      let m : 1 ≤ length w.key = some_bytes w.encodes_key.base128 in
      record {
        found = p.found;
        here = p.here ∙ ap (λ (n : ℕ). payload s at n (wire_type f.value) start) (sym number_is) ∙ ap (λ (n : ℕ). payload s at (key / 8) n start) (sym wire_is)
            ∙ step_is at key start (omega arith) (varint_read at key w.key (w.payload ++ rest) w.encodes_key there);
        holds = ap (λ (n : ℕ). record { number = n; value = value_of s p.found }) p.numbered ∙ ap (λ (x : Value). record { number = f.number; value = x }) p.holds;
        ends = let l : length bs ≡ length w.key + length w.payload = ap length w.joined ∙ length-append w.key w.payload in let q : p.found.next ≡ start + length w.payload = p.ends in omega arith;
      }

  fields_read : (at : ℕ) (fs : List Field) (bs : List ℕ) → Encodes bs fs → drop at s ≡ bs → some fs ≡ fields_of s (records s at)
  unfolding fields_of choose step_at
  fields_read at [] bs (no_fields is) e =
      let l : length s - at ≡ 0 = sym (length-drop at s) ∙ ap length (e ∙ is) in
      let past : length s ≤ at = omega arith in
      rw (records_end s at End (rw (le-leb (length s) at past)) refl)
  fields_read at (f ∷ fs) bs (more_fields first rest w on is) e =
      let r : RecordAt at f (at + length first) = field_read at f first rest w (e ∙ is) in
      let there : drop r.found.next s ≡ rest = rw r.ends (behind at first rest (e ∙ is)) in
      rw (records_found s at (Found r.found) r.here r.found refl, ← fields_read r.found.next fs rest on there, r.holds)

-- what the bytes encode, the reader gives
pub complete : (s : List ℕ) (fs : List Field) → Encodes s fs → contents s ≡ some fs
unfolding contents
complete s fs w = sym (fields_read s 0 fs s w refl)
