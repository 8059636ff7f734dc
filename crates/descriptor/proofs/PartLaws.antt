-- Parts of a set, and the bytes of a record. Assumes nothing.
use mathlib.Core.Path.{◌≡◌, refl, sym, ap, ◌∙◌}
use mathlib.Core.Bool.{true, false}
use mathlib.Core.List.{List, [], ◌∷◌}
use Prim.Native.Nat.{ℕ, zero, suc, ◌+◌, ◌-◌, ◌≤◌}
use native.Mathlib.Nat.{le_refl, min-le_left}
use native.Mathlib.Omega.{arith}
use lib.ListN.{length, take, drop, length-take}
use lib.Seq.{drop-drop, take-take, take-nil, take_all}
use lib.Dec.{eqb}
use borrow.Author.Tests.{eqb-true}
use Rattle.base.specs.Choose.{choose, choose_case}
use Rattle.wire.proofs.RecordsLaws.{In, length_part}
use Rattle.descriptor.specs.Places.{end_in, inside}
use Rattle.wire.specs.Records.{part}
use Rattle.wire.specs.Encoding.{Field, Value}
use Rattle.wire.specs.Contents.{payload_of, value_of}
use Rattle.wire.specs.Step.{Record}
use Rattle.descriptor.specs.Decode.{bytes_in, parts}

-- a part of a part
pub drop_take : (x m : ℕ) (l : List ℕ) → drop x (take m l) ≡ take (m - x) (drop x l)
drop_take zero m l = ap (λ (k : ℕ). take k l) (let e : m ≡ m - 0 = omega arith in e)
drop_take (suc x) zero l = sym (ap (λ (k : ℕ). take k (drop (suc x) l)) (let e : 0 - suc x ≡ 0 = omega arith in e))
drop_take (suc x) (suc m) [] = sym (take-nil (suc m - suc x))
drop_take (suc x) (suc m) (a ∷ l) = drop_take x m l ∙ ap (λ (k : ℕ). take k (drop x l)) (let e : m - x ≡ suc m - suc x = omega arith in e)

pub part_part : (s : List ℕ) (a m x k : ℕ) → x + k ≤ length (part s a m) → part (part s a m) x k ≡ part s (a + x) k
part_part s a m x k h =
    let l : length (part s a m) ≤ m = rw (length-take m (drop a s)) (min-le_left m (length (drop a s))) in
    ap (take k) (drop_take x m (drop a s)) ∙ take-take k (m - x) (drop x (drop a s)) (omega arith) ∙ ap (take k) (drop-drop x a s)

pub whole_part : (s : List ℕ) → part s 0 (length s - 0) ≡ s
whole_part s = let e : length s - 0 ≡ length s = omega arith in ap (λ (n : ℕ). take n s) e ∙ take_all (length s) s (le_refl _)

-- a record of another wire type has no bytes
pub bytes_of : (s : List ℕ) (f : Record) → choose (eqb f.wiretype 2) (payload_of s f) [] ≡ bytes_in (value_of s f)
unfolding value_of choose
bytes_of s f =
    choose_case (λ (x : List ℕ). x ≡ bytes_in (value_of s f)) (eqb f.wiretype 2)
    (λ e. rw (eqb-true f.wiretype 2 e))
    (λ e. choose_case (λ (v : Value). [] ≡ bytes_in v) (eqb f.wiretype 0) (λ _. refl)
    (λ _. choose_case (λ (v : Value). [] ≡ bytes_in v) (eqb f.wiretype 1) (λ _. refl)
    (λ _. choose_case (λ (v : Value). [] ≡ bytes_in v) (eqb f.wiretype 2) (λ q. absurd (let z : true ≡ false = sym q ∙ e in let w : ◌≡◌ {A = ℕ} 0 1 = cc in omega arith)) (λ _. refl))))

-- the bytes inside a record
pub inside_is : (s : List ℕ) (f : Record) → inside s f ≡ bytes_in (value_of s f)
unfolding end_in choose
inside_is s f =
    choose_case (λ (n : ℕ). part s f.start (n - f.start) ≡ bytes_in (value_of s f)) (eqb f.wiretype 2)
    (λ e. let p : choose (eqb f.wiretype 2) (payload_of s f) [] ≡ payload_of s f = rw e in sym p ∙ bytes_of s f)
    (λ e.
    let p : choose (eqb f.wiretype 2) (payload_of s f) [] ≡ [] = rw e in
    let z : f.start - f.start ≡ 0 = omega arith in
    ap (λ (n : ℕ). take n (drop f.start s)) z ∙ sym p ∙ bytes_of s f)

pub end_before : (n : ℕ) (f : Record) → In n f → (f.start ≤ end_in f) × (end_in f ≤ n)
unfolding end_in
end_before n f l = choose_case (λ (e : ℕ). (f.start ≤ e) × (e ≤ n)) (eqb f.wiretype 2) (λ _. (l.from, l.to)) (λ _. let a = l.from in let c = l.to in (omega arith, omega arith))

-- an embedded message ends behind its bytes
pub inside_length : (s : List ℕ) (f : Record) → In (length s) f → f.start + length (bytes_in (value_of s f)) ≡ end_in f
inside_length s f l =
    let e = end_before (length s) f l in
    let a : f.start ≤ end_in f = e.0 in
    let n : length (bytes_in (value_of s f)) ≡ end_in f - f.start = ap length (sym (inside_is s f)) ∙ length_part s f.start (end_in f) e.1 in
    omega arith

pub parts_few : (n : ℕ) (fs : List Field) → length (parts n fs) ≤ length fs
unfolding parts
parts_few n [] = omega arith
parts_few n (f ∷ fs) = let h = parts_few n fs in choose_case (λ (l : List (List ℕ)). length l ≤ suc (length fs)) (eqb f.number n) (λ _. omega arith) (λ _. omega arith)
