-- The lowest limit that a set passes; a set that can be read and passes none.
use Rattle.std.proofs.Common.{◌≡◌, refl, sym, ap, ◌∙◌, ℕ, ◌≤◌, ◌<◌, length, eqb-true}
use Rattle.std.specs.Prelude.{Bool, true, false, cond, List, [], ◌∷◌, eqb, Option, Some, None, Result, Ok, Err}
use Rattle.std.specs.List.{find}
use Rattle.base.specs.Choose.{choose, then_lt, else_lt}
use Rattle.base.specs.declared.refusal.Refusal.{Refusal}
use Rattle.base.specs.declared.refusal.Refusal.TheVariants as refusals
use Rattle.base.proofs.RefusalLaws.{not_refused, chosen, other}
use Rattle.wire.specs.declared.records.record.Fault.{Fault}
use Rattle.descriptor.specs.Descriptor.{Bytes}
use Rattle.descriptor.specs.Decode.{entries, parts}
use Rattle.descriptor.specs.Limits.{max_set, max_files, limit_passed}
use Rattle.known_fields.specs.Check.{check_set}
use Rattle.limits.specs.declared.limit.Limit.{Limit}
use Rattle.limits.specs.declared.limit.Limit.TheVariants as limits
use Rattle.limits.specs.declared.limit.Passed.{Passed}
use Rattle.limits.specs.declared.limit.Passed.TheVariants as passed
use Rattle.limits.specs.Answer.{passed_number, number_or_none, readable, read_set}
use Rattle.limits.specs.Weights.{passes, limit_number, all_limits}
use Rattle.limits.proofs.LimitLaws.{limit_is}

-- ---- the lowest of the limits 3 to 10
abbrev number_or : Option Limit → ℕ
number_or None = 0
number_or (Some limit) = limit_number limit

lowest : (a c d e f g h i : Bool)
    → choose a 3 (choose c 4 (choose d 5 (choose e 6 (choose f 7 (choose g 8 (choose h 9 (choose i 10 0)))))))
    ≡ number_or
    (cond a (Some limits.Messages)
    (cond c (Some limits.Fields)
    (cond d (Some limits.Enums)
    (cond e (Some limits.Values) (cond f (Some limits.Nesting) (cond g (Some limits.Names) (cond h (Some limits.FullNames) (cond i (Some limits.Defaults) None))))))))
unfolding choose limit_number
lowest true c d e f g h i = refl
lowest false true d e f g h i = refl
lowest false false true e f g h i = refl
lowest false false false true f g h i = refl
lowest false false false false true g h i = refl
lowest false false false false false true h i = refl
lowest false false false false false false true i = refl
lowest false false false false false false false true = refl
lowest false false false false false false false false = refl

none_found : (p : Limit → Bool) → ((limit : Limit) → p limit ≡ false) → (ls : List Limit) → find p ls ≡ None
none_found p none [] = refl
none_found p none (l ∷ ls) = rw (none l) (none_found p none ls)

module _ (s : Bytes) where
  pub passed_1 : max_set < length s → 1 ≡ limit_passed s
  passed_1 long = rw (limit_is s) (then_lt _ _ 1 max_set (length s) long refl)

  module _ (fits : length s ≤ max_set) where
    pub passed_2 : max_files < length (parts 1 (entries s)) → 2 ≡ limit_passed s
    passed_2 many = rw (limit_is s) (else_lt _ _ 2 max_set (length s) fits (then_lt _ _ 2 max_files (length (parts 1 (entries s))) many refl))

    module _ (few : length (parts 1 (entries s)) ≤ max_files) where
      found : (n : ℕ) (r : Option Limit) → r ≡ find (λ limit. passes limit s) all_limits → n ≡ number_or r → n ≡ limit_passed s
      found n r is n_is =
          rw (limit_is s)
          (else_lt _ _ n max_set (length s) fits (else_lt _ _ n max_files (length (parts 1 (entries s))) few
          (n_is ∙ ap number_or is
          ∙ sym (lowest (passes limits.Messages s) (passes limits.Fields s) (passes limits.Enums s) (passes limits.Values s) (passes limits.Nesting s) (passes limits.Names s) (passes limits.FullNames s) (passes limits.Defaults s)))))

      pub passed_some : (limit : Limit) → Some limit ≡ find (λ limit. passes limit s) all_limits → limit_number limit ≡ limit_passed s
      passed_some limit is = found (limit_number limit) (Some limit) is refl

      pub passed_none : None ≡ find (λ limit. passes limit s) all_limits → 0 ≡ limit_passed s
      passed_none is = found 0 None is refl

      pub none_passes : ((limit : Limit) → passes limit s ≡ false) → 0 ≡ limit_passed s
      none_passes none = found 0 None (sym (none_found (λ limit. passes limit s) none all_limits)) refl

-- ---- a limit's number is not 0
abbrev limited : ℕ → Result Unit Refusal
limited n = Err (refusals.Limit n)

abbrev judgement : ℕ → Result Unit Refusal
judgement n = choose (eqb n 0) (Ok tt) (limited n)

limit_answer : (p : Passed) → limited (passed_number p) ≡ judgement (passed_number p)
unfolding choose limit_number
limit_answer passed.Bytes = refl
limit_answer passed.Files = refl
limit_answer (passed.Declarations limits.Messages) = refl
limit_answer (passed.Declarations limits.Fields) = refl
limit_answer (passed.Declarations limits.Enums) = refl
limit_answer (passed.Declarations limits.Values) = refl
limit_answer (passed.Declarations limits.Nesting) = refl
limit_answer (passed.Declarations limits.Names) = refl
limit_answer (passed.Declarations limits.FullNames) = refl
limit_answer (passed.Declarations limits.Defaults) = refl

module _ (s : Bytes) where
  pub refused : (p : Passed) → number_or_none (Some p) ≡ limit_passed s → limited (passed_number p) ≡ judgement (limit_passed s)
  refused p is = rw (← is) (limit_answer p)

  pub accepted : number_or_none None ≡ limit_passed s → Ok tt ≡ judgement (limit_passed s)
  unfolding choose
  accepted is = rw (← is) refl

pub ruleset judged = (refused, accepted)

pub ruleset answers = (passed_1, passed_2, passed_some, passed_none, none_passes)

-- ---- a set that can be read and passes no limit
fine : (k : Result Unit Fault) (x : Result Unit Refusal) → readable k x ≡ Ok tt → x ≡ Ok tt
fine (Err fault) x e = not_refused e
fine (Ok u) x e = e

pub none_passed : (s : Bytes) → read_set s ≡ Ok tt → limit_passed s ≡ 0
unfolding read_set
none_passed s e =
    let rest = fine (check_set s) _ (other _ _ _ e).1 in
    eqb-true (limit_passed s) 0 (chosen (eqb (limit_passed s) 0) _ _ rest).0
