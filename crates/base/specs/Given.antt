-- What may be missing: a flag and a value, or an `Option`, as code has it, and the option that they stand for. Assumes nothing.
use Rattle.std.specs.Prelude.{Bool, true, false, List, ℕ, Option as Held, Some, None}
use Rattle.std.specs.Borrow.{Bor}
use Rattle.std.proofs.Math.Option.{Option, some, none}

abbrev pub given {ℓ} : {A : Type ℓ} → Bool → A → Option A
given true x = some x
given false x = none

abbrev pub option_seen : {A : Type 0} → Held A → Option A
option_seen None = none
option_seen (Some x) = some x

-- of bytes behind a reference
abbrev pub text_seen : Held (Bor (List ℕ)) → Option (List ℕ)
text_seen None = none
text_seen (Some s) = some s.now
