-- The cases of a pack are its records, one after the other.
use Rattle.std.proofs.Common.{◌≡◌, refl, ap, ◌∙◌, ℕ, zero, suc, ◌+◌, ◌-◌, ◌≤◌, List, [], ◌∷◌, length, map, Result, Err, arith}
use Rattle.std.proofs.lemmas.List.{length-map}
use Rattle.wire.specs.Step.{Record, Step, End, Fault, Found, step_at}
use Rattle.wire.specs.Records.{on_step, scan, records}
use Rattle.wire.specs.Contents.{field_of}
use Rattle.wire.specs.Message.{records_at}
use Rattle.wire.proofs.MessageLaws.{records_bound}
use Rattle.wire.proofs.SameRecords.{listed, same_records}
use Rattle.cases.specs.Seen.{SeenCase, case_in, case_of}

scanned : (n : ℕ) (s : List ℕ) (at : ℕ) → map case_of (listed 0 s (scan n s at)) ≡ map (case_in s) (scan n s at)
unfolding scan on_step listed field_of
scanned zero s at = refl
scanned (suc n) s at = go (λ f. scanned n s f.next) (step_at s at)
  where
    go : ((f : Record) → map case_of (listed 0 s (scan n s f.next)) ≡ map (case_in s) (scan n s f.next)) → (r : Step) → map case_of (listed 0 s (on_step r [] (λ key. Fault key ∷ []) (λ f. Found f ∷ scan n s f.next))) ≡ map (case_in s) (on_step r [] (λ key. Fault key ∷ []) (λ f. Found f ∷ scan n s f.next))
    go h End = refl
    go h (Fault key) = ap (λ (k : ℕ). Err k ∷ []) (let is : 0 + key ≡ key = omega arith in is)
    go h (Found f) = ap (λ (cs : List (Result SeenCase ℕ)). case_in s (Found f) ∷ cs) (h f)

pub cases_read : (s : List ℕ) → map case_of (records_at 0 s) ≡ map (case_in s) (records s 0)
unfolding records
cases_read s = ap (map case_of) (same_records 0 s) ∙ scanned (length s - 0) s 0

-- each case takes a byte at least
pub no_more_cases : (s : List ℕ) → length (map (case_in s) (records s 0)) ≤ length s
no_more_cases s = rw (← cases_read s) (omega (arith, records_bound 0 s, length-map (records_at 0 s) case_of))
