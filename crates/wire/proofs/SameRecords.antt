-- The records that the iterator gives are those of the positions' reader: the same fields at the same places, and a fault at the same key.
use mathlib.Core.Path.{◌≡◌, refl, sym, ap, ◌∙◌}
use mathlib.Core.Bool.{Bool, true, false, cond, ◌&&◌}
use mathlib.Core.List.{List, [], ◌∷◌}
use Prim.Native.Nat.{ℕ, zero, suc, ◌+◌, ◌-◌, ◌*◌, ◌/◌, ◌%◌, ◌<◌, ◌≤◌}
use native.Mathlib.Numerals.{unary_clauses}
use native.Mathlib.Omega.{arith}
use lib.ListN.{length, get_or, drop, take, length-drop, drop_of_length-le}
use lib.Seq.{drop-drop}
use lib.Dec.{ltb, leb, eqb}
use borrow.Author.Tests.{ltb-true, ltb-false, leb-true, leb-false, eqb-true, eqb-false, ne_eqb}
use Rattle.std.specs.Prelude.{Option, Some, None, Result, Ok, Err}
use Rattle.std.specs.Option.{option_map}
use Rattle.base.specs.Choose.{choose, choose_case}
use Rattle.std.proofs.lemmas.List.{drop_more}
use Rattle.wire.specs.Varint.{value_at, Varint, varint, groups, on_varint, below, last}
use Rattle.wire.specs.Step.{Record, Step, End, Fault, Found, step_at, payload, sized, scalar, delimited, keyed}
use Rattle.wire.specs.Records.{on_step, scan, records}
use Rattle.wire.specs.Contents.{value_of, field_of, fields_of, also, contents, all_fields, payload_of}
use Rattle.wire.specs.Encoding.{Value, varint_value, i64_value, len_value, i32_value, little_endian}
use Rattle.wire.specs.Readers.{◌>>=◌, cut, varint as front_varint, groups as front_groups, payload as front_payload}
use Rattle.wire.specs.Message.{Entry, record_at, with_others, records_within, records_at}
use Rattle.wire.proofs.StepLaws.{Lies, lies, fault_lies, stands}
use Rattle.wire.proofs.VarintLaws.{Known, known_varint}
use Rattle.wire.proofs.RecordsLaws.{past}
use Rattle.wire.specs.declared.records.record.Fault.{Fault as FaultAt}

-- what holds of two tests' results, each under the test, holds of both picks
both {ℓ κ ι} : {A : Type ℓ} {B : Type κ} (P : A → B → Type ι) (t : Bool) {a b : A} {c d : B} → (t ≡ true → P a c) → (t ≡ false → P b d) → P (choose t a b) (cond t c d)
unfolding choose
both P true f g = f refl
both P false f g = g refl

-- a key's record at a position of s, where the bytes of s stand at base
abbrev pub entry_of : ℕ → List ℕ → Record → Entry
entry_of base s f = record { key = base + f.key; field = field_of s f; start = base + f.start }

unfoldable pub listed : ℕ → List ℕ → List Step → List (Result Entry FaultAt)
listed base s [] = []
listed base s (End ∷ rs) = []
listed base s (Fault key ∷ rs) = Err (record { key = base + key }) ∷ []
listed base s (Found f ∷ rs) = Ok (entry_of base s f) ∷ listed base s rs

module _ (s : List ℕ) where
  abbrev SameVarint : Varint → Option (ℕ × List ℕ) → Type 0
  SameVarint None None = Unit
  SameVarint None (Some x) = ⊥
  SameVarint (Some y) None = ⊥
  SameVarint (Some y) (Some x) = (x.0 ≡ y.0) × (x.1 ≡ drop y.1 s)

  tenth_same : (at b : ℕ) (t u : Bool) → ltb b 2 ≡ t → ltb 1 b ≡ u → SameVarint (choose t (value_at b (at + 1)) None) (cond u None (Some (b, drop (at + 1) s)))
  unfolding choose
  tenth_same at b true true e f = absurd (omega (arith, ltb-true b 2 e, ltb-true 1 b f))
  tenth_same at b true false e f = (refl, refl)
  tenth_same at b false true e f = tt
  tenth_same at b false false e f = absurd (omega (arith, ltb-false b 2 e, ltb-false 1 b f))

  last_same : (n at b : ℕ) → SameVarint (last (suc n) b at) (cond (eqb n 0 && ltb 1 b) None (Some (b, drop (at + 1) s)))
  unfolding choose
  last_same zero at b = tenth_same at b (ltb b 2) (ltb 1 b) refl refl
  last_same (suc n) at b =
      let more : eqb (suc (suc n)) 1 ≡ false = ne_eqb (suc (suc n)) 1 (λ e. omega arith) in
      let some : eqb (suc n) 0 ≡ false = ne_eqb (suc n) 0 (λ e. omega arith) in
      rw (more, some) (refl, refl)

  below_same : (b : ℕ) (r : Varint) (o : Option (ℕ × List ℕ)) → SameVarint r o → SameVarint (below (b % 128) r) (option_map (λ v. (v.0 * 128 + b % 128, v.1)) o)
  unfolding on_varint
  below_same b None None h = tt
  below_same b None (Some x) h = absurd h
  below_same b (Some y) None h = absurd h
  below_same b (Some y) (Some x) h = (rw (h.0), h.1)

  groups_same : (left at : ℕ) → SameVarint (groups left s at) (front_groups left (drop at s))
  unfolding groups front_groups
  groups_same zero at = tt
  groups_same (suc n) at =
      choose_case (λ r. SameVarint r (front_groups (suc n) (drop at s))) (leb (length s) at)
      (λ e. let past : drop at s ≡ [] = drop_of_length-le s (leb-true _ _ e) in rw past tt)
      (λ e. rw (drop_more s at 0 (leb-false _ _ e))
      (both SameVarint (ltb (get_or s at 0) 128) (λ _. last_same n at (get_or s at 0))
      (λ _. below_same (get_or s at 0) (groups n s (at + 1)) (front_groups n (drop (at + 1) s)) (groups_same n (at + 1)))))

  varint_same : (at : ℕ) → SameVarint (varint s at) (front_varint (drop at s))
  unfolding varint front_varint
  varint_same at = groups_same 10 at

  -- a payload of a record with the number
  abbrev SamePayload : ℕ → Step → Option ((Value × List ℕ) × List ℕ) → Type 0
  SamePayload number End o = ⊥
  SamePayload number (Fault key) None = Unit
  SamePayload number (Fault key) (Some x) = ⊥
  SamePayload number (Found f) None = ⊥
  SamePayload number (Found f) (Some x) = (f.number ≡ number) × (x.0.0 ≡ value_of s f) × (x.0.1 ≡ drop f.start s) × (x.1 ≡ drop f.next s)

  abbrev sized_value : (List ℕ → Value) → List ℕ → Option (List ℕ × List ℕ) → Option ((Value × List ℕ) × List ℕ)
  sized_value x from o = o >>= λ c. Some ((x c.0, from), c.1)

  module _ (at number wt start : ℕ) where
    scalar_same : wt ≡ 0 → (r : Varint) (o : Option (ℕ × List ℕ)) → SameVarint r o
        → SamePayload number (scalar at number wt start r) (o >>= λ v. Some ((varint_value v.0, drop start s), v.1))
    unfolding on_varint value_of choose
    scalar_same e None None h = tt
    scalar_same e None (Some x) h = absurd h
    scalar_same e (Some y) None h = absurd h
    scalar_same e (Some y) (Some x) h = (refl, rw (e, h.0), refl, h.1)

    sized_same : (v from len : ℕ) (x : List ℕ → Value) (inside : from ≤ length s)
        → ((f : Record) → f.wiretype ≡ wt → value_of s f ≡ x (payload_of s f))
        → SamePayload number (sized (length s) at number wt v from len) (sized_value x (drop from s) (cut len (drop from s)))
    unfolding cut choose
    sized_same v from len x inside val =
        rw (length-drop from s)
        (elim (leb len (length s - from)) as (λ t. SamePayload number (choose t (Found (record { key = at; number = number; wiretype = wt; value = v; start = from; next = from + len })) (Fault at))
        (sized_value x (drop from s) (cond t (Some (take len (drop from s), drop len (drop from s))) None)))
        [ true ↦ found | false ↦ tt ])
      where
        found : SamePayload number (Found (record { key = at; number = number; wiretype = wt; value = v; start = from; next = from + len })) (Some ((x (take len (drop from s)), drop from s), drop len (drop from s)))
        found =
            let is : from + len - from ≡ len = omega arith in
            (refl, ap (λ (n : ℕ). x (take n (drop from s))) (sym is) ∙ sym (val (record { key = at; number = number; wiretype = wt; value = v; start = from; next = from + len }) refl), refl, drop-drop len from s)

    delimited_same : wt ≡ 2 → (r : Varint) (o : Option (ℕ × List ℕ)) → SameVarint r o → Known 10 s start r
        → SamePayload number (delimited (length s) at number wt r) (o >>= λ len. cut len.0 len.1 >>= λ v. Some ((len_value v.0, len.1), v.1))
    unfolding on_varint value_of choose
    delimited_same e None None h k = tt
    delimited_same e None (Some x) h k = absurd h
    delimited_same e (Some y) None h k = absurd h
    delimited_same e (Some y) (Some x) h k = rw (h.0, h.1) (sized_same y.0 y.1 y.0 len_value k.2 (λ f w. rw (w ∙ e)))

    payload_same : start ≤ length s → (number ≡ 0 → ⊥) → SamePayload number (payload s at number wt start) (front_payload wt (drop start s))
    unfolding payload front_payload value_of choose
    payload_same inside some =
        choose_case (λ r. SamePayload number r (front_payload wt (drop start s))) (eqb number 0) (λ e. absurd (some (eqb-true _ _ e)))
        (λ _. both (SamePayload number) (eqb wt 0) (λ e. scalar_same (eqb-true _ _ e) (varint s start) (front_varint (drop start s)) (varint_same start))
        (λ _. both (SamePayload number) (eqb wt 1) (λ e. sized_same 0 start 8 (λ b. i64_value (little_endian b)) inside (λ f w. rw (w ∙ eqb-true _ _ e)))
        (λ _. both (SamePayload number) (eqb wt 2) (λ e. delimited_same (eqb-true _ _ e) (varint s start) (front_varint (drop start s)) (varint_same start) (known_varint s start))
        (λ _. both (SamePayload number) (eqb wt 5) (λ e. sized_same 0 start 4 (λ b. i32_value (little_endian b)) inside (λ f w. rw (w ∙ eqb-true _ _ e))) (λ _. tt)))))

  -- the record at a position, where the bytes of s stand at base
  module _ (base : ℕ) where
    abbrev pub SameRecord : Step → Option (Entry × List ℕ) → Type 0
    SameRecord End o = ⊥
    SameRecord (Fault key) None = Unit
    SameRecord (Fault key) (Some x) = ⊥
    SameRecord (Found f) None = ⊥
    SameRecord (Found f) (Some x) = (x.0 ≡ entry_of base s f) × (x.1 ≡ drop f.next s)

    framed_same : (at number : ℕ) (r : Step) (o : Option ((Value × List ℕ) × List ℕ)) → ((f : Record) → r ≡ Found f → Lies (length s) at f) → SamePayload number r o
        → SameRecord r (o >>= λ v. Some (record { key = base + at; field = record { number = number; value = v.0.0 }; start = base + at + (length (drop at s) - length v.0.1) }, v.1))
    unfolding field_of
    framed_same at number End o l h = absurd h
    framed_same at number (Fault key) None l h = tt
    framed_same at number (Fault key) (Some x) l h = absurd h
    framed_same at number (Found f) None l h = absurd h
    framed_same at number (Found f) (Some x) l h =
        let k = l f refl in
        let start_is : base + at + (length (drop at s) - length x.0.1) ≡ base + f.start = rw (h.2, length-drop at s, length-drop f.start s) (omega arith) in
        (rw (start_is, ← k.key, ← h.0, h.1) refl, h.3)

    keyed_same : (at : ℕ) (r : Varint) (o : Option (ℕ × List ℕ)) → ((f : Record) → keyed s at r ≡ Found f → Lies (length s) at f) → SameVarint r o → Known 10 s at r
        → SameRecord (keyed s at r) (o >>= λ tag. cond (eqb (tag.0 / 8) 0) None
        (front_payload (tag.0 % 8) tag.1 >>= λ v. Some (record { key = base + at; field = record { number = tag.0 / 8; value = v.0.0 }; start = base + at + (length (drop at s) - length v.0.1) }, v.1)))
    unfolding on_varint payload choose
    keyed_same at None None l h k = tt
    keyed_same at None (Some x) l h k = absurd h
    keyed_same at (Some y) None l h k = absurd h
    keyed_same at (Some y) (Some x) l h k =
        rw (h.0, h.1) (by_number (eqb (y.0 / 8) 0) refl)
      where
        by_number : (t : Bool) → eqb (y.0 / 8) 0 ≡ t → SameRecord (payload s at (y.0 / 8) (y.0 % 8) y.1) (cond t None
            (front_payload (y.0 % 8) (drop y.1 s) >>= λ v. Some (record { key = base + at; field = record { number = y.0 / 8; value = v.0.0 }; start = base + at + (length (drop at s) - length v.0.1) }, v.1)))
        by_number true e = rw e tt
        by_number false e = framed_same at (y.0 / 8) (payload s at (y.0 / 8) (y.0 % 8) y.1) (front_payload (y.0 % 8) (drop y.1 s)) l
            (payload_same at (y.0 / 8) (y.0 % 8) y.1 k.2 (eqb-false _ _ e))

    pub step_same : (at : ℕ) → at < length s → SameRecord (step_at s at) (record_at (base + at) (drop at s))
    unfolding step_at record_at
    step_same at h =
        choose_case (λ r. SameRecord r (record_at (base + at) (drop at s))) (leb (length s) at)
        (λ e. let k = leb-true _ _ e in absurd (omega arith))
        (λ _. keyed_same at (varint s at) (front_varint (drop at s)) (λ f is. lies s at (keyed s at (varint s at)) f (stands s at h) is) (varint_same at) (known_varint s at))

    others_same : (n at : ℕ) → ((f : Record) → Lies (length s) at f → records_within n (base + f.next) (drop f.next s) ≡ listed base s (scan n s f.next))
        → (r : Step) (o : Option (Entry × List ℕ)) → r ≡ step_at s at → SameRecord r o
        → with_others o (base + at) (λ rest. records_within n (base + at + (length (drop at s) - length rest)) rest) ≡ listed base s (on_step r [] (λ key. Fault key ∷ []) (λ f. Found f ∷ scan n s f.next))
    unfolding with_others listed on_step
    others_same n at on End o e h = absurd h
    others_same n at on (Fault key) None e h = let l = fault_lies s at (Fault key) key e refl in rw (l.0) refl
    others_same n at on (Fault key) (Some x) e h = absurd h
    others_same n at on (Found f) None e h = absurd h
    others_same n at on (Found f) (Some x) e h =
        let l = lies s at (Found f) f e refl in
        let next_is : base + at + (length (drop at s) - length (drop f.next s)) ≡ base + f.next = rw (length-drop at s, length-drop f.next s) (omega arith) in
        rw (h.0, h.1) (ap (λ (rs : List (Result Entry FaultAt)). Ok (entry_of base s f) ∷ rs) (ap (λ (p : ℕ). records_within n p (drop f.next s)) next_is ∙ on f l))

    first_within : (n at : ℕ) (bytes : List ℕ) → 0 < length bytes → records_within (suc n) at bytes ≡ with_others (record_at at bytes) at (λ rest. records_within n (at + (length bytes - length rest)) rest)
    unfolding records_within
    first_within n at [] h = absurd (omega arith)
    first_within n at (b ∷ bs) h = refl

    none_within : (n at : ℕ) (bytes : List ℕ) → length bytes ≡ 0 → records_within n at bytes ≡ []
    unfolding records_within
    none_within n at [] h = refl
    none_within n at (b ∷ bs) h = absurd (omega arith)

    scan_same : (n at : ℕ) → length s - at ≤ n → records_within n (base + at) (drop at s) ≡ listed base s (scan n s at)
    unfolding listed scan on_step
    scan_same zero at enough = none_within zero (base + at) (drop at s) (rw (length-drop at s) (omega arith))
    scan_same (suc n) at enough = by_rest (λ f l. scan_same n f.next (omega arith)) (leb (length s) at) refl
      where
        by_rest : ((f : Record) → Lies (length s) at f → records_within n (base + f.next) (drop f.next s) ≡ listed base s (scan n s f.next)) → (t : Bool) → leb (length s) at ≡ t → records_within (suc n) (base + at) (drop at s) ≡ listed base s (scan (suc n) s at)
        by_rest on true e =
            let k = leb-true _ _ e in
            none_within (suc n) (base + at) (drop at s) (rw (length-drop at s) (omega arith)) ∙ rw (past s at k) refl
        by_rest on false e =
            let k = leb-false _ _ e in
            first_within n (base + at) (drop at s) (rw (length-drop at s) (omega arith))
            ∙ others_same n at on (step_at s at) (record_at (base + at) (drop at s)) refl (step_same at k)

-- where the bytes of a message stand at base: the same records, one behind the other
pub same_records : (base : ℕ) (s : List ℕ) → records_at base s ≡ listed base s (records s 0)
unfolding records_at records
same_records base s = simp unary_clauses (simp unary_clauses at (scan_same s base (length s) 0 (omega arith)))

all_listed : (base : ℕ) (s : List ℕ) (rs : List Step) → all_fields (listed base s rs) ≡ fields_of s rs
unfolding listed all_fields fields_of
all_listed base s [] = refl
all_listed base s (End ∷ rs) = refl
all_listed base s (Fault key ∷ rs) = refl
all_listed base s (Found f ∷ rs) = ap (also (field_of s f)) (all_listed base s rs)

-- the fields of a message without a fault
pub same_contents : (base : ℕ) (s : List ℕ) → all_fields (records_at base s) ≡ contents s
unfolding contents
same_contents base s = ap all_fields (same_records base s) ∙ all_listed base s (records s 0)
