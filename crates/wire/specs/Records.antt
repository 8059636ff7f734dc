-- The records of a message, one after the other, up to its end or its first fault; and what is made of them in one pass.
use Rattle.std.specs.Prelude.{ℕ, zero, suc, ◌-◌, List, [], ◌∷◌, length, take, drop}
use Rattle.wire.specs.Step.{Record, Step, End, Fault, Found, step_at}

unfoldable pub on_step {ℓ} : {A : Type ℓ} → Step → A → (ℕ → A) → (Record → A) → A
on_step End x g h = x
on_step (Fault key) x g h = g key
on_step (Found f) x g h = h f

-- at most n records from position at on. A fault is the last
unfoldable pub scan : ℕ → List ℕ → ℕ → List Step
scan zero s at = []
scan (suc n) s at = on_step (step_at s at) [] (λ key. Fault key ∷ []) (λ f. Found f ∷ scan n s f.next)

-- all from position at on: each takes a byte at least
unfoldable pub records : List ℕ → ℕ → List Step
records s at = scan (length s - at) s at

-- a pass over the records with a state: what to do at a record, given how to go on with a state; at a fault; and at the end
unfoldable pub pass {ℓ κ} : {A : Type ℓ} {S : Type κ} → (Record → S → (S → A) → A) → (ℕ → S → A) → (S → A) → List Step → S → A
pass body fault done [] x = done x
pass body fault done (End ∷ rs) x = done x
pass body fault done (Fault key ∷ rs) x = fault key x
pass body fault done (Found f ∷ rs) x = body f x (λ y. pass body fault done rs y)

-- the pass from position at on
unfoldable pub over {ℓ κ} : {A : Type ℓ} {S : Type κ} → (Record → S → (S → A) → A) → (ℕ → S → A) → (S → A) → List ℕ → ℕ → S → A
over body fault done s at x = pass body fault done (records s at) x

-- the n bytes of s from a on
abbrev pub part : List ℕ → ℕ → ℕ → List ℕ
part s a n = take n (drop a s)
