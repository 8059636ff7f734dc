-- What stands at a place of the bytes, and where a record lies. Assumes nothing.
use mathlib.Core.Path.{◌≡◌, refl}
use mathlib.Core.List.{List}
use Prim.Native.Nat.{ℕ, ◌-◌, ◌/◌, ◌%◌, ◌<◌, ◌≤◌}
use native.Mathlib.Omega.{arith}
use lib.ListN.{length}
use lib.Dec.{leb, eqb}
use borrow.Author.Tests.{leb-true, leb-false, lt-leb}
use Rattle.base.specs.Choose.{choose, choose_case}
use Rattle.wire.specs.Varint.{Varint, varint, on_varint}
use Rattle.wire.specs.Step.{Record, Step, End, Fault, Found, step_at, payload, keyed, sized, scalar, delimited}
use Rattle.wire.proofs.VarintLaws.{Known, known_varint}
use Rattle.std.specs.Prelude.{Some, None}

-- at a place of the bytes a record or a fault stands
pub stands : (s : List ℕ) (at : ℕ) → at < length s → keyed s at (varint s at) ≡ step_at s at
unfolding step_at choose
stands s at h = rw (lt-leb (length s) at h)

-- a record read at position at of n bytes
pub record Lies (n at : ℕ) (f : Record) : Type 0 where
  pub key : f.key ≡ at
  pub after : at < f.start
  pub from : f.start ≤ f.next
  pub to : f.next ≤ n

abbrev pub Fine : ℕ → ℕ → Step → Type 0
Fine n at End = Unit
Fine n at (Fault key) = (key ≡ at) × (key < n)
Fine n at (Found f) = Lies n at f

sized_fine : (n at number wiretype value start len : ℕ) → at < start → start ≤ n → Fine n at (sized n at number wiretype value start len)
sized_fine n at number wiretype value start len h l =
    choose_case (Fine n at) (leb len (n - start))
    (λ e. let m : len ≤ n - start = leb-true _ _ e in record { key = refl; after = h; from = omega arith; to = omega arith }) (λ _. (refl, omega arith))

scalar_fine : (s : List ℕ) (at number wiretype start : ℕ) (w : Varint) → at < start → start ≤ length s → Known 10 s start w → Fine (length s) at (scalar at number wiretype start w)
unfolding on_varint
scalar_fine s at number wiretype start None h l k = (refl, omega arith)
scalar_fine s at number wiretype start (Some y) h l k = record { key = refl; after = h; from = omega arith; to = k.2 }

delimited_fine : (s : List ℕ) (at number wiretype start : ℕ) (w : Varint) → at < start → start ≤ length s → Known 10 s start w → Fine (length s) at (delimited (length s) at number wiretype w)
unfolding on_varint
delimited_fine s at number wiretype start None h l k = (refl, omega arith)
delimited_fine s at number wiretype start (Some y) h l k = sized_fine (length s) at number wiretype y.0 y.1 y.0 (omega arith) k.2

payload_fine : (s : List ℕ) (at number wiretype start : ℕ) → at < start → start ≤ length s → Fine (length s) at (payload s at number wiretype start)
unfolding payload
payload_fine s at number wiretype start h l =
    let F : Step → Type 0 = Fine (length s) at in
    let fault : (at ≡ at) × (at < length s) = (refl, omega arith) in
    choose_case F (eqb number 0) (λ _. fault)
    (λ _. choose_case F (eqb wiretype 0) (λ _. scalar_fine s at number wiretype start (varint s start) h l (known_varint s start))
    (λ _. choose_case F (eqb wiretype 1) (λ _. sized_fine (length s) at number wiretype 0 start 8 h l)
    (λ _. choose_case F (eqb wiretype 2) (λ _. delimited_fine s at number wiretype start (varint s start) h l (known_varint s start))
    (λ _. choose_case F (eqb wiretype 5) (λ _. sized_fine (length s) at number wiretype 0 start 4 h l) (λ _. fault)))))

keyed_fine : (s : List ℕ) (at : ℕ) (w : Varint) → at < length s → Known 10 s at w → Fine (length s) at (on_varint w (Fault at) (λ key start. payload s at (key / 8) (key % 8) start))
unfolding on_varint
keyed_fine s at None h k = (refl, h)
keyed_fine s at (Some y) h k = payload_fine s at (y.0 / 8) (y.0 % 8) y.1 k.1 k.2

step_fine : (s : List ℕ) (at : ℕ) → Fine (length s) at (step_at s at)
unfolding step_at
step_fine s at = choose_case (Fine (length s) at) (leb (length s) at) (λ _. tt) (λ e. keyed_fine s at (varint s at) (leb-false _ _ e) (known_varint s at))

pub lies : (s : List ℕ) (at : ℕ) (r : Step) (f : Record) → r ≡ step_at s at → r ≡ Found f → Lies (length s) at f
lies s at r f e is = rw (← e, is) at (step_fine s at)

pub fault_lies : (s : List ℕ) (at : ℕ) (r : Step) (key : ℕ) → r ≡ step_at s at → r ≡ Fault key → (key ≡ at) × (key < length s)
fault_lies s at r key e is = rw (← e, is) at (step_fine s at)
