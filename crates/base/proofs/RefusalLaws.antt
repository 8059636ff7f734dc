-- A refusal is not the answer that nothing is refused.
use Rattle.std.proofs.Common.{◌≡◌, refl, ap, Bool, true, false}
use Rattle.base.specs.Choose.{choose}
use Rattle.std.specs.Prelude.{Result, Ok, Err}
use Rattle.base.specs.Tests.{both_ways}
use Rattle.base.specs.declared.refusal.Refusal.{Refusal}

abbrev done : Result Unit Refusal → Bool
done (Ok u) = true
done (Err x) = false

pub not_refused : {x : Refusal} {A : Type 0} → ◌≡◌ {A = Result Unit Refusal} (Err x) (Ok tt) → A
not_refused e = both_ways (ap done e) refl

-- where one of two answers is a refusal, and nothing is refused, the other was given
pub chosen : (t : Bool) (x : Result Unit Refusal) (r : Refusal) → choose t x (Err r) ≡ Ok tt → (t ≡ true) × (x ≡ Ok tt)
unfolding choose
chosen true x r e = (refl, e)
chosen false x r e = not_refused e

pub other : (t : Bool) (x : Result Unit Refusal) (r : Refusal) → choose t (Err r) x ≡ Ok tt → (t ≡ false) × (x ≡ Ok tt)
unfolding choose
other true x r e = not_refused e
other false x r e = (refl, e)
