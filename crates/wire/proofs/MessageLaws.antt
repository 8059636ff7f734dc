-- The records of some bytes are the first, and those of the bytes after it.
use Rattle.std.proofs.Common.{◌≡◌, ℕ, zero, suc, ◌+◌, ◌-◌, ◌<◌, ◌≤◌, List, [], ◌∷◌, length, Option, Some, None, Result, Ok, Err, refl, ap, arith}
use Rattle.wire.specs.declared.records.record.Fault.{Fault}
use Rattle.wire.specs.Message.{Entry, record_at, with_others, records_within, records_at}
use Rattle.wire.proofs.Shorter.{rest_shorter}

-- with enough, it does not matter how many more may come
same_others : (at key : ℕ) (bytes : List ℕ) (n m : ℕ) (o : Option (Entry × List ℕ)) → record_at key bytes ≡ o → ((at' : ℕ) (rest : List ℕ) → length rest < length bytes → records_within n at' rest ≡ records_within m at' rest)
    → with_others o at (λ rest. records_within n (at + (length bytes - length rest)) rest) ≡ with_others o at (λ rest. records_within m (at + (length bytes - length rest)) rest)
unfolding with_others
same_others at key bytes n m None is h = refl
same_others at key bytes n m (Some x) is h = ap (λ rs. Ok x.0 ∷ rs) (h _ x.1 (rest_shorter key bytes x.1 x.0 is))

enough : (n m at : ℕ) (bytes : List ℕ) → length bytes ≤ n → length bytes ≤ m → records_within n at bytes ≡ records_within m at bytes
unfolding records_within
enough n m at [] p q = refl
enough zero m at (b ∷ bs) p q = absurd (omega arith)
enough (suc n) zero at (b ∷ bs) p q = absurd (omega arith)
enough (suc n) (suc m) at (b ∷ bs) p q =
    same_others at at (b ∷ bs) n m (record_at at (b ∷ bs)) refl (λ at' rest h. enough n m at' rest (omega arith) (omega arith))

pub no_records : (at : ℕ) (bytes : List ℕ) → length bytes ≡ 0 → records_at at bytes ≡ []
unfolding records_at records_within
no_records at [] e = refl
no_records at (b ∷ bs) e = absurd (omega arith)

pub first_record : (at : ℕ) (bytes rest : List ℕ) (e : Entry) → record_at at bytes ≡ Some (e, rest) → records_at at bytes ≡ Ok e ∷ records_at (at + (length bytes - length rest)) rest
unfolding records_at records_within with_others
first_record at [] rest e is = absurd (omega (arith, rest_shorter at [] rest e is))
first_record at (b ∷ bs) rest e is =
    let h = rest_shorter at (b ∷ bs) rest e is in
    rw is (ap (λ rs. Ok e ∷ rs) (enough (length bs) (length rest) (at + (length (b ∷ bs) - length rest)) rest (omega arith) (omega arith)))

pub first_fault : (at : ℕ) (bytes : List ℕ) → 0 < length bytes → record_at at bytes ≡ None → records_at at bytes ≡ Err (record { key = at }) ∷ []
unfolding records_at records_within with_others
first_fault at [] h is = absurd (omega arith)
first_fault at (b ∷ bs) h is = rw is refl

-- each takes a byte at least
others_bound : (at : ℕ) (bytes : List ℕ) (others : List ℕ → List (Result Entry Fault)) (o : Option (Entry × List ℕ)) → record_at at bytes ≡ o → 0 < length bytes → ((rest : List ℕ) → length (others rest) ≤ length rest)
    → length (with_others o at others) ≤ length bytes
unfolding with_others
others_bound at bytes others None is h k = omega arith
others_bound at bytes others (Some x) is h k = omega (arith, rest_shorter at bytes x.1 x.0 is, k x.1)

within_bound : (n at : ℕ) (bytes : List ℕ) → length (records_within n at bytes) ≤ length bytes
unfolding records_within
within_bound n at [] = omega arith
within_bound zero at (b ∷ bs) = omega arith
within_bound (suc n) at (b ∷ bs) =
    others_bound at (b ∷ bs) _ (record_at at (b ∷ bs)) refl (omega arith) (λ rest. within_bound n _ rest)

pub records_bound : (at : ℕ) (bytes : List ℕ) → length (records_at at bytes) ≤ length bytes
unfolding records_at
records_bound at bytes = within_bound (length bytes) at bytes

pub ruleset laws = (no_records, first_record, first_fault, rest_shorter)
