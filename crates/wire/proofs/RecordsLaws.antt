-- The records from a position on, a pass over them one record on, and what a record's place gives a loop. Assumes nothing.
use mathlib.Core.Path.{◌≡◌, refl, sym, ap, ◌∙◌}
use mathlib.Core.List.{List, [], ◌∷◌}
use Prim.Native.Nat.{ℕ, zero, suc, ◌+◌, ◌-◌, ◌^◌, ◌<◌, ◌≤◌}
use native.Mathlib.Omega.{arith}
use native.Mathlib.Nat.{min-le_left}
use mir.Syntax.{w64}
use mir.Val.{Fits}
use lib.ListN.{length, drop, length-take, length-drop}
use lib.Seq.{length-take-le}
use Rattle.base.specs.Choose.{choices}
use Rattle.wire.specs.Step.{Record, Step, End, Fault, Found, step_at}
use Rattle.wire.specs.Records.{on_step, scan, records, pass, over, part}
use Rattle.wire.proofs.StepLaws.{Lies, lies, fault_lies}

pub past : (s : List ℕ) (at : ℕ) → length s ≤ at → step_at s at ≡ End
unfolding step_at
past s at h = sym (search choices)

none_past : (m : ℕ) (s : List ℕ) (at : ℕ) → length s ≤ at → scan m s at ≡ []
unfolding scan on_step
none_past zero s at h = refl
none_past (suc m) s at h = rw (past s at h)

-- a record, and what follows it read with one fuel or another
same_step : (n m : ℕ) (s : List ℕ) (at : ℕ)
    → ((f : Record) → Lies (length s) at f → scan n s f.next ≡ scan m s f.next)
    → (r : Step) → r ≡ step_at s at
    → on_step r [] (λ key. Fault key ∷ []) (λ f. Found f ∷ scan n s f.next) ≡ on_step r [] (λ key. Fault key ∷ []) (λ f. Found f ∷ scan m s f.next)
unfolding on_step
same_step n m s at on End e = refl
same_step n m s at on (Fault key) e = refl
same_step n m s at on (Found f) e = ap (λ (rs : List Step). Found f ∷ rs) (on f (lies s at (Found f) f e refl))

-- more fuel than bytes changes nothing
enough : (n m : ℕ) (s : List ℕ) (at : ℕ) → length s - at ≤ n → length s - at ≤ m → scan n s at ≡ scan m s at
unfolding scan
enough zero m s at a b = sym (none_past m s at (omega arith))
enough (suc n) zero s at a b = none_past (suc n) s at (omega arith)
enough (suc n) (suc m) s at a b = same_step n m s at (λ f l. enough n m s f.next (omega arith) (omega arith)) (step_at s at) refl

-- the list at a position, by what stands there
at_step : (s : List ℕ) (at : ℕ) → records s at ≡ scan (suc (length s)) s at
unfolding records
at_step s at = enough (length s - at) (suc (length s)) s at (omega arith) (omega arith)

module _ (s : List ℕ) (at : ℕ) (r : Step) (e : r ≡ step_at s at) where
  pub records_end : r ≡ End → records s at ≡ []
  unfolding scan on_step
  records_end is = at_step s at ∙ rw (← e, is)

  pub records_fault : (key : ℕ) → r ≡ Fault key → records s at ≡ Fault key ∷ []
  unfolding scan on_step
  records_fault key is = at_step s at ∙ rw (← e, is)

  pub records_found : (f : Record) → r ≡ Found f → records s at ≡ Found f ∷ records s f.next
  unfolding scan on_step records
  records_found f is =
      let l : Lies (length s) at f = lies s at r f e is in
      at_step s at ∙ rw (← e, is) (ap (λ (rs : List Step). Found f ∷ rs) (enough (length s) (length s - f.next) s f.next (omega arith) (omega arith)))

-- a pass at a position, by what stands there: `search passes` goes one step through it
module _ {ℓ κ} {A : Type ℓ} {S : Type κ} (body : Record → S → (S → A) → A) (fault : ℕ → S → A) (done : S → A) (s : List ℕ) (at : ℕ) (x : S) (z : A) (r : Step) (e : r ≡ step_at s at) where
  pub over_end : r ≡ End → z ≡ done x → z ≡ over body fault done s at x
  unfolding over pass
  over_end is h = rw (records_end s at r e is) h

  pub over_fault : (key : ℕ) → r ≡ Fault key → z ≡ fault key x → z ≡ over body fault done s at x
  unfolding over pass
  over_fault key is h = rw (records_fault s at r e key is) h

  pub over_found : (f : Record) → r ≡ Found f → z ≡ body f x (λ y. over body fault done s f.next y) → z ≡ over body fault done s at x
  unfolding over pass
  over_found f is h = rw (records_found s at r e f is) h

pub ruleset passes = (over_end, over_fault, over_found)

-- what a record's place gives a loop that goes on at its end
module _ (s : List ℕ) (at : ℕ) (r : Step) (f : Record) (e : r ≡ step_at s at) (is : r ≡ Found f) where
  pub closer : length s - f.next < length s - at
  closer = let l : Lies (length s) at f = lies s at r f e is in omega arith

  pub within : f.next ≤ length s
  within = let l : Lies (length s) at f = lies s at r f e is in omega arith

  pub starts : f.start ≤ f.next
  starts = let l : Lies (length s) at f = lies s at r f e is in omega arith

  pub kept : (n : ℕ) → n ≤ at → n ≤ f.next
  kept n h = let l : Lies (length s) at f = lies s at r f e is in omega arith

  pub ahead : (n : ℕ) → n ≤ at → n + 1 ≤ f.next
  ahead n h = let l : Lies (length s) at f = lies s at r f e is in omega arith

pub ruleset places = (closer, within, starts, kept, ahead)

-- the way from a step to the whole
pub whole {ℓ} : {A : Type ℓ} {x y z : A} → y ≡ z → x ≡ y → x ≡ z
whole q p = p ∙ q

-- positions of a part of a larger whole, which fit a word
module _ (s : List ℕ) (at base : ℕ) (r : Step) (room : base + length s < 2 ^ 64) (e : r ≡ step_at s at) where
  pub fault_room : (key : ℕ) → r ≡ Fault key → Fits w64 (base + key)
  fault_room key is = let l : (key ≡ at) × (key < length s) = fault_lies s at r key e is in record { fits = omega arith }

  module _ (f : Record) (is : r ≡ Found f) where
    pub key_room : Fits w64 (base + f.key)
    key_room = let l : Lies (length s) at f = lies s at r f e is in record { fits = omega arith }

    pub start_room : Fits w64 (base + f.start)
    start_room = let l : Lies (length s) at f = lies s at r f e is in record { fits = omega arith }

    pub part_room : base + f.start + length (part s f.start (f.next - f.start)) < 2 ^ 64
    part_room =
        let l : Lies (length s) at f = lies s at r f e is in
        let n : length (part s f.start (f.next - f.start)) ≤ f.next - f.start = rw (length-take (f.next - f.start) (drop f.start s)) (min-le_left (f.next - f.start) (length (drop f.start s))) in
        omega arith

pub ruleset rooms = (fault_room, key_room, start_room, part_room)

pub length_part : (s : List ℕ) (a e : ℕ) → e ≤ length s → length (part s a (e - a)) ≡ e - a
length_part s a e l = length-take-le (e - a) (drop a s) (rw (length-drop a s) (omega arith))

-- Where a record of a message of n bytes lies.
pub record In (n : ℕ) (f : Record) : Type 0 where
  pub from : f.start ≤ f.next
  pub to : f.next ≤ n

abbrev pub AllIn : ℕ → List Step → Type 0
AllIn n [] = Unit
AllIn n (End ∷ rs) = AllIn n rs
AllIn n (Fault key ∷ rs) = AllIn n rs
AllIn n (Found f ∷ rs) = In n f × AllIn n rs

step_in : (s : List ℕ) (at : ℕ) (more : Record → List Step) → ((f : Record) → AllIn (length s) (more f)) → (r : Step) → r ≡ step_at s at
    → AllIn (length s) (on_step r [] (λ key. Fault key ∷ []) (λ f. Found f ∷ more f))
unfolding on_step
step_in s at more h End e = tt
step_in s at more h (Fault key) e = tt
step_in s at more h (Found f) e = let l = lies s at (Found f) f e refl in (record { from = l.from; to = l.to }, h f)

scan_in : (n : ℕ) (s : List ℕ) (at : ℕ) → AllIn (length s) (scan n s at)
unfolding scan
scan_in zero s at = tt
scan_in (suc n) s at = step_in s at (λ f. scan n s f.next) (λ f. scan_in n s f.next) (step_at s at) refl

pub records_in : (s : List ℕ) (at : ℕ) → AllIn (length s) (records s at)
unfolding records
records_in s at = scan_in (length s - at) s at

-- What holds at the end and at a fault, and at a record where it holds of going on, holds of a pass.
module _ {ℓ κ ι} {A : Type ℓ} {S : Type κ} (P : A → Type ι) (body : Record → S → (S → A) → A) (fault : ℕ → S → A) (done : S → A) (n : ℕ)
    (at_end : (x : S) → P (done x)) (at_fault : (key : ℕ) (x : S) → P (fault key x))
    (at_found : (f : Record) → In n f → (x : S) (go_on : S → A) → ((y : S) → P (go_on y)) → P (body f x go_on)) where
  pass_ind : (rs : List Step) → AllIn n rs → (x : S) → P (pass body fault done rs x)
  unfolding pass
  pass_ind [] h x = at_end x
  pass_ind (End ∷ rs) h x = at_end x
  pass_ind (Fault key ∷ rs) h x = at_fault key x
  pass_ind (Found f ∷ rs) h x = at_found f h.0 x (λ y. pass body fault done rs y) (λ y. pass_ind rs h.1 y)

pub over_ind {ℓ κ ι} : {A : Type ℓ} {S : Type κ} (P : A → Type ι) (body : Record → S → (S → A) → A) (fault : ℕ → S → A) (done : S → A) (s : List ℕ)
    → ((x : S) → P (done x)) → ((key : ℕ) (x : S) → P (fault key x))
    → ((f : Record) → In (length s) f → (x : S) (go_on : S → A) → ((y : S) → P (go_on y)) → P (body f x go_on))
    → (at : ℕ) (x : S) → P (over body fault done s at x)
unfolding over records
over_ind P body fault done s at_end at_fault at_found at x = pass_ind P body fault done (length s) at_end at_fault at_found (records s at) (scan_in (length s - at) s at) x

-- A state that holds of something keeps it over a pass that only changes the state.
module _ {κ ι} {S : Type κ} (Q : S → Type ι) (step : Record → S → S) (n : ℕ) (keeps : (f : Record) → In n f → (x : S) → Q x → Q (step f x)) where
  pass_keeps : (rs : List Step) → AllIn n rs → (x : S) → Q x → Q (pass (λ f x go_on. go_on (step f x)) (λ key x. x) (λ x. x) rs x)
  unfolding pass
  pass_keeps [] h x q = q
  pass_keeps (End ∷ rs) h x q = q
  pass_keeps (Fault key ∷ rs) h x q = q
  pass_keeps (Found f ∷ rs) h x q = pass_keeps rs h.1 (step f x) (keeps f h.0 x q)

pub over_keeps {κ ι} : {S : Type κ} (Q : S → Type ι) (step : Record → S → S) (s : List ℕ) → ((f : Record) → In (length s) f → (x : S) → Q x → Q (step f x))
    → (at : ℕ) (x : S) → Q x → Q (over (λ f x go_on. go_on (step f x)) (λ key x. x) (λ x. x) s at x)
unfolding over records
over_keeps Q step s keeps at x q = pass_keeps Q step (length s) keeps (records s at) (scan_in (length s - at) s at) x q
