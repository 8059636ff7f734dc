-- How many cases a tally counts. Assumes nothing.
use Rattle.std.proofs.Common.{◌≡◌, refl, ap, ◌∙◌, ℕ, ◌-◌, ◌^◌, min, Option, List, length, Result, Ok, Err, IfOk}
use Rattle.std.specs.Iterator.{Drains}
use Rattle.std.proofs.lemmas.Iterator.{YieldsList}
use Rattle.std.specs.declared.iter.Enumerate.{Enumerate}
use Rattle.std.specs.Iterator.Adapters.{enumerate_source, enumerate_count, enumerate_steps}
use Rattle.std.proofs.lemmas.Iterator.Consumers.{count_from_yields_List, YieldsList-from_enumerate}
use Rattle.std.proofs.lemmas.List.FromFn.{length-enumerate_from}
use Rattle.cases.specs.Compared.{Compared}
use Rattle.cases.specs.declared.tally.Tally.{Tally}

-- of cases that come with their index
pub each_counted : {S A B E : Type 0} {steps : S → Option A → S → Type 0} {v : A → B} (Same Differs : ℕ × A → Type 0) (s : Enumerate S) (ys : List B) (r : Result Tally E)
    → IfOk r (λ t. (all : List (ℕ × A)) × Drains (enumerate_steps steps) s all × Compared Same Differs all t) → YieldsList steps v (enumerate_source s) ys → enumerate_count s ≡ 0
    → IfOk r (λ t. t.compared ≡ min (length ys) (2 ^ 64 - 1))
each_counted Same Differs s ys (Ok t) h e z =
    h.2.counted ∙ ap (λ (n : ℕ). min n (2 ^ 64 - 1)) (count_from_yields_List s (length h.0) (h.0, h.1, refl) (YieldsList-from_enumerate e z) ∙ length-enumerate_from 0 ys)
each_counted Same Differs s ys (Err x) h e z = tt
