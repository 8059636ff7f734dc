-- What a set embeds takes its bytes, so there are fewer declarations than bytes. Assumes nothing.
use mathlib.Core.Path.{◌≡◌, refl, sym, ap, ◌∙◌}
use mathlib.Core.List.{List, [], ◌∷◌, ◌++◌}
use Prim.Native.Nat.{ℕ, zero, suc, ◌+◌, ◌-◌, ◌≤◌}
use native.Mathlib.Omega.{arith}
use native.Mathlib.Nat.{min-le_left, le_refl}
use lib.ListN.{length, length-append, length-take, drop}
use lib.Dec.{eqb}
use borrow.Author.Tests.{eqb-true}
use Rattle.base.specs.Choose.{choose, choose_case}
use Rattle.base.specs.Lists.{all_of, all_of_append}
use Rattle.wire.specs.Step.{Record, Step, End, Fault, Found, step_at}
use Rattle.wire.specs.Records.{on_step, scan, records, part}
use Rattle.wire.specs.Encoding.{Field}
use Rattle.wire.specs.Contents.{field_of, value_of}
use Rattle.wire.proofs.StepLaws.{Lies, lies}
use Rattle.descriptor.specs.Descriptor.{Bytes, preorder}
use Rattle.descriptor.specs.Decode.{entries, entries_of, bytes_in, parts}
use Rattle.descriptor.specs.Places.{end_in, inside}
use Rattle.descriptor.proofs.PartLaws.{inside_is}
use Rattle.index.proofs.DecodedLaws.{nest}

-- the bytes of messages, with one for the key of each
unfoldable takes : List Bytes → ℕ
takes [] = 0
takes (p ∷ ps) = 1 + length p + takes ps

unfoldable pub field_bytes : List Field → ℕ
field_bytes [] = 0
field_bytes (f ∷ fs) = 1 + length (bytes_in f.value) + field_bytes fs

-- ---- the fields of a message

inside_length : (s : List ℕ) (f : Record) → f.start ≤ f.next → length (inside s f) ≤ f.next - f.start
unfolding end_in
inside_length s f h =
    let e : end_in f ≤ f.next = choose_case (λ (n : ℕ). n ≤ f.next) (eqb f.wiretype 2) (λ _. le_refl f.next) (λ _. h) in
    let l : length (part s f.start (end_in f - f.start)) ≤ end_in f - f.start = rw (length-take (end_in f - f.start) (drop f.start s)) (min-le_left (end_in f - f.start) (length (drop f.start s))) in
    omega arith

step_takes : (s : List ℕ) (at : ℕ) (more : Record → List Step) → ((f : Record) → field_bytes (entries_of s (more f)) ≤ length s - f.next) → (r : Step) → r ≡ step_at s at
    → field_bytes (entries_of s (on_step r [] (λ key. Fault key ∷ []) (λ f. Found f ∷ more f))) ≤ length s - at
unfolding on_step entries_of field_bytes field_of
step_takes s at more on End e = omega arith
step_takes s at more on (Fault key) e = omega arith
step_takes s at more on (Found f) e =
    let l : Lies (length s) at f = lies s at (Found f) f e refl in
    let n : length (inside s f) ≤ f.next - f.start = inside_length s f l.from in
    let same : length (inside s f) ≡ length (bytes_in (value_of s f)) = ap length (inside_is s f) in
    let rest = on f in
    omega arith

scan_takes : (m : ℕ) (s : List ℕ) (at : ℕ) → field_bytes (entries_of s (scan m s at)) ≤ length s - at
unfolding scan entries_of field_bytes
scan_takes zero s at = omega arith
scan_takes (suc m) s at = step_takes s at (λ f. scan m s f.next) (λ f. scan_takes m s f.next) (step_at s at) refl

pub entries_take : (s : List ℕ) → field_bytes (entries s) ≤ length s
unfolding entries records
entries_take s = let h = scan_takes (length s - 0) s 0 in omega arith

-- ---- embedded messages

few_parts : (ps : List Bytes) → length ps ≤ takes ps
unfolding takes
few_parts [] = omega arith
few_parts (p ∷ ps) = let on = few_parts ps in omega arith

-- those of two field numbers take their own bytes
two_take : (n m : ℕ) → (n ≡ m → ⊥) → (fs : List Field) → takes (parts n fs) + takes (parts m fs) ≤ field_bytes fs
unfolding takes parts field_bytes
two_take n m ne [] = omega arith
two_take n m ne (f ∷ fs) =
    let on = two_take n m ne fs in
    let b : Bytes = bytes_in f.value in
    let all : ℕ = 1 + length b + field_bytes fs in
    choose_case (λ (ps : List Bytes). takes ps + takes (choose (eqb f.number m) (b ∷ parts m fs) (parts m fs)) ≤ all) (eqb f.number n)
    (λ e. choose_case (λ (qs : List Bytes). takes (b ∷ parts n fs) + takes qs ≤ all) (eqb f.number m)
    (λ e'. absurd (ne (sym (eqb-true f.number n e) ∙ eqb-true f.number m e'))) (λ _. omega arith))
    (λ _. choose_case (λ (qs : List Bytes). takes (parts n fs) + takes qs ≤ all) (eqb f.number m) (λ _. omega arith) (λ _. omega arith))

module _ (number : ℕ) (unlike : number ≡ 3 → ⊥) where
  abbrev inner : Bytes → List Bytes
  inner p = parts number (entries p)

  -- what messages and those nested in them embed
  nest_takes : (k : ℕ) (ps : List Bytes) → length (all_of inner (preorder (nest k ps))) ≤ takes ps
  unfolding nest preorder all_of takes
  nest_takes zero ps = omega arith
  nest_takes (suc k) [] = omega arith
  nest_takes (suc k) (p ∷ ps) =
      let nested : List Bytes = preorder (nest k (parts 3 (entries p))) in
      let following : List Bytes = preorder (nest (suc k) ps) in
      let a = nest_takes k (parts 3 (entries p)) in
      let c = nest_takes (suc k) ps in
      let few = few_parts (inner p) in
      let own = two_take number 3 unlike (entries p) in
      let whole = entries_take p in
      let l = length-append (inner p) (all_of inner (nested ++ following)) in
      let apart : length (all_of inner (nested ++ following)) ≡ length (all_of inner nested ++ all_of inner following) = ap length (all_of_append inner nested following) in
      let m = length-append (all_of inner nested) (all_of inner following) in
      omega arith

  -- what the messages of files embed
  files_take : (k : ℕ) (ps : List Bytes) → length (all_of inner (all_of (λ (p : Bytes). preorder (nest k (parts 4 (entries p)))) ps)) + length ps ≤ takes ps
  unfolding all_of takes
  files_take k [] = omega arith
  files_take k (p ∷ ps) =
      let here : List Bytes = preorder (nest k (parts 4 (entries p))) in
      let rest : List Bytes = all_of (λ (p : Bytes). preorder (nest k (parts 4 (entries p)))) ps in
      let a = nest_takes k (parts 4 (entries p)) in
      let c = files_take k ps in
      let own = two_take 4 3 (λ e. omega arith) (entries p) in
      let whole = entries_take p in
      let apart : length (all_of inner (here ++ rest)) ≡ length (all_of inner here ++ all_of inner rest) = ap length (all_of_append inner here rest) in
      let m = length-append (all_of inner here) (all_of inner rest) in
      omega arith

  few_in_files : (k : ℕ) (ps : List Bytes) → takes ps ≤ 32768 → length (all_of inner (all_of (λ (p : Bytes). preorder (nest k (parts 4 (entries p)))) ps)) ≤ 32767
  unfolding all_of
  few_in_files k [] h = omega arith
  few_in_files k (p ∷ ps) h = let c = files_take k (p ∷ ps) in omega arith

  -- fewer than the set has bytes
  pub set_takes : (k : ℕ) (set : List ℕ) → length set ≤ 32768 → length (all_of inner (all_of (λ (p : Bytes). preorder (nest k (parts 4 (entries p)))) (parts 1 (entries set)))) ≤ 32767
  set_takes k set small =
      let own = two_take 1 3 (λ e. omega arith) (entries set) in
      let whole = entries_take set in
      few_in_files k (parts 1 (entries set)) (omega arith)
