-- Each file, message, field and enum of a set takes two bytes at least. Assumes nothing.
use mathlib.Core.Path.{◌≡◌, refl}
use mathlib.Core.List.{List, [], ◌∷◌}
use Prim.Native.Nat.{ℕ, zero, suc, ◌+◌, ◌-◌, ◌*◌, ◌/◌, ◌%◌, ◌≤◌, ◌<◌}
use native.Mathlib.Omega.{arith}
use native.Mathlib.Nat.{min-le_left, min-le_right}
use lib.ListN.{length, drop, length-append, length-take, length-drop}
use lib.Dec.{leb, eqb}
use borrow.Author.Tests.{eqb-true}
use Rattle.base.specs.Choose.{choose, choose_case}
use Rattle.base.specs.Lists.{all_of, map_length}
use Rattle.wire.specs.Encoding.{Field}
use Rattle.wire.specs.Contents.{field_of, value_of}
use Rattle.wire.specs.Records.{on_step, scan, records, part}
use Rattle.wire.specs.Step.{Record, Step, End, Fault, Found, step_at, payload, sized, scalar, delimited}
use Rattle.wire.specs.Varint.{Varint, varint, on_varint}
use Rattle.wire.proofs.StepLaws.{Lies, lies}
use Rattle.wire.proofs.VarintLaws.{Known, known_varint}
use Rattle.descriptor.specs.Descriptor.{Bytes, preorder, MessageDescriptor, FileDescriptor}
use Rattle.descriptor.specs.Decode.{entries, entries_of, bytes_in, parts, decode_field, decode_enum, decode_message, decode_messages, decode_file, decode_set}
use Rattle.descriptor.specs.Limits.{messages_in, fields_in, enums_in}
use Rattle.descriptor.proofs.PartLaws.{bytes_of}
use Rattle.limits.specs.Sums.{sum}
use Rattle.limits.proofs.SumLaws.{sum_plus, sum_append, sum_below, sum_map, sum_all_of}
use Rattle.limits.proofs.PartTallies.{at_number, sum_parts}
use Rattle.std.specs.Prelude.{Some, None}

-- ---- a record takes a byte for its key, and one more before or in its payload
abbrev Long : ℕ → Step → Type 0
Long at End = Unit
Long at (Fault key) = Unit
Long at (Found f) = (at + 2 ≤ f.next) × (f.wiretype ≡ 2 → at + 2 ≤ f.start)

sized_long : (n at number wiretype value start len : ℕ) → at + 2 ≤ start + len → (wiretype ≡ 2 → at + 2 ≤ start) → Long at (sized n at number wiretype value start len)
sized_long n at number wiretype value start len h g = choose_case (Long at) (leb len (n - start)) (λ _. (h, g)) (λ _. tt)

scalar_long : (s : Bytes) (at number wiretype start : ℕ) (w : Varint) → at < start → wiretype ≡ 0 → Known 10 s start w → Long at (scalar at number wiretype start w)
unfolding on_varint
scalar_long s at number wiretype start None h z k = tt
scalar_long s at number wiretype start (Some y) h z k = (omega arith, λ e. absurd (omega arith))

delimited_long : (s : Bytes) (at number wiretype start : ℕ) (w : Varint) → at < start → Known 10 s start w → Long at (delimited (length s) at number wiretype w)
unfolding on_varint
delimited_long s at number wiretype start None h k = tt
delimited_long s at number wiretype start (Some y) h k = sized_long (length s) at number wiretype y.0 y.1 y.0 (omega arith) (λ _. omega arith)

payload_long : (s : Bytes) (at number wiretype start : ℕ) → at < start → Long at (payload s at number wiretype start)
unfolding payload
payload_long s at number wiretype start h =
    let L : Step → Type 0 = Long at in
    choose_case L (eqb number 0) (λ _. tt)
    (λ _. choose_case L (eqb wiretype 0) (λ e. scalar_long s at number wiretype start (varint s start) h (eqb-true wiretype 0 e) (known_varint s start))
    (λ _. choose_case L (eqb wiretype 1)
    (λ e. let z : wiretype ≡ 1 = eqb-true wiretype 1 e in sized_long (length s) at number wiretype 0 start 8 (omega arith) (λ q. absurd (omega arith)))
    (λ _. choose_case L (eqb wiretype 2) (λ _. delimited_long s at number wiretype start (varint s start) h (known_varint s start))
    (λ _. choose_case L (eqb wiretype 5)
    (λ e. let z : wiretype ≡ 5 = eqb-true wiretype 5 e in sized_long (length s) at number wiretype 0 start 4 (omega arith) (λ q. absurd (omega arith))) (λ _. tt)))))

keyed_long : (s : Bytes) (at : ℕ) (w : Varint) → Known 10 s at w → Long at (on_varint w (Fault at) (λ key start. payload s at (key / 8) (key % 8) start))
unfolding on_varint
keyed_long s at None k = tt
keyed_long s at (Some y) k = payload_long s at (y.0 / 8) (y.0 % 8) y.1 k.1

step_long : (s : Bytes) (at : ℕ) → Long at (step_at s at)
unfolding step_at
step_long s at = choose_case (Long at) (leb (length s) at) (λ _. tt) (λ _. keyed_long s at (varint s at) (known_varint s at))

-- how long an embedded message is
part_length : (s : Bytes) (a m : ℕ) → (length (part s a m) ≤ m) × (length (part s a m) ≤ length s)
part_length s a m =
    let l : length (part s a m) ≤ m = rw (length-take m (drop a s)) (min-le_left m (length (drop a s))) in
    let k : length (part s a m) ≤ length (drop a s) = rw (length-take m (drop a s)) (min-le_right m (length (drop a s))) in
    let d : length (drop a s) ≡ length s - a = length-drop a s in
    (l, omega arith)

record_room : (s : Bytes) (at : ℕ) (f : Record) → Found f ≡ step_at s at → at + 2 + length (bytes_in (value_of s f)) ≤ f.next
record_room s at f e =
    let l : Lies (length s) at f = lies s at (Found f) f e refl in
    let k : Long at (Found f) = rw (← e) at (step_long s at) in
    rw (← bytes_of s f)
    (choose_case (λ (b : Bytes). at + 2 + length b ≤ f.next) (eqb f.wiretype 2)
    (λ t. let a : at + 2 ≤ f.start = k.1 (eqb-true f.wiretype 2 t) in let p = (part_length s f.start (f.next - f.start)).0 in omega arith)
    (λ _. let a : at + 2 ≤ f.next = k.0 in omega arith))

-- ---- the fields of a message take two bytes each, and the bytes that stand in them
abbrev taken : Bytes → ℕ
taken b = 2 + length b

abbrev pub room : Field → ℕ
room f = taken (bytes_in f.value)

step_room : (s : Bytes) (at : ℕ) (more : Record → List Step) → ((f : Record) → Lies (length s) at f → f.next + sum room (entries_of s (more f)) ≤ length s)
    → at ≤ length s → (r : Step) → r ≡ step_at s at → at + sum room (entries_of s (on_step r [] (λ key. Fault key ∷ []) (λ f. Found f ∷ more f))) ≤ length s
unfolding on_step entries_of field_of sum
step_room s at more h small End e = omega arith
step_room s at more h small (Fault key) e = omega arith
step_room s at more h small (Found f) e =
    let rest = h f (lies s at (Found f) f e refl) in
    let own = record_room s at f e in
    omega arith

scan_room : (n : ℕ) (s : Bytes) (at : ℕ) → at ≤ length s → at + sum room (entries_of s (scan n s at)) ≤ length s
unfolding scan entries_of sum
scan_room zero s at h = omega arith
scan_room (suc n) s at h = step_room s at (λ f. scan n s f.next) (λ f l. scan_room n s f.next l.to) h (step_at s at) refl

pub entries_room : (s : Bytes) → sum room (entries s) ≤ length s
unfolding entries records
entries_room s = let r = scan_room (length s - 0) s 0 (omega arith) in omega arith

-- ---- three sorts of embedded messages, by their field numbers
module _ (i j k : ℕ) (first : i < j) (second : j < k) (u v w : Bytes → ℕ) (u_few : (b : Bytes) → u b ≤ taken b) (v_few : (b : Bytes) → v b ≤ taken b) (w_few : (b : Bytes) → w b ≤ taken b) where
  one_sort : (n a b c t : ℕ) → a ≤ t → b ≤ t → c ≤ t → choose (eqb n i) a 0 + (choose (eqb n j) b 0 + choose (eqb n k) c 0) ≤ t
  one_sort n a b c t x y z =
      choose_case (λ (p : ℕ). p + (choose (eqb n j) b 0 + choose (eqb n k) c 0) ≤ t) (eqb n i)
      (λ e. choose_case (λ (q : ℕ). a + (q + choose (eqb n k) c 0) ≤ t) (eqb n j) (λ f. let p = eqb-true n i e in let q = eqb-true n j f in absurd (omega arith))
      (λ _. choose_case (λ (q : ℕ). a + (0 + q) ≤ t) (eqb n k) (λ f. let p = eqb-true n i e in let q = eqb-true n k f in absurd (omega arith)) (λ _. omega arith)))
      (λ _. choose_case (λ (q : ℕ). 0 + (q + choose (eqb n k) c 0) ≤ t) (eqb n j)
      (λ e. choose_case (λ (q : ℕ). 0 + (b + q) ≤ t) (eqb n k) (λ f. let p = eqb-true n j e in let q = eqb-true n k f in absurd (omega arith)) (λ _. omega arith))
      (λ _. choose_case (λ (q : ℕ). 0 + (0 + q) ≤ t) (eqb n k) (λ _. omega arith) (λ _. omega arith)))

  parts_room : (s : Bytes) → sum u (parts i (entries s)) + (sum v (parts j (entries s)) + sum w (parts k (entries s))) ≤ length s
  parts_room s =
      let fs : List Field = entries s in
      let A : Field → ℕ = at_number i u in
      let B : Field → ℕ = at_number j v in
      let C : Field → ℕ = at_number k w in
      let few : sum (λ f. A f + (B f + C f)) fs ≤ sum room fs =
      sum_below (λ f. A f + (B f + C f)) room
      (λ f. one_sort f.number (u (bytes_in f.value)) (v (bytes_in f.value)) (w (bytes_in f.value)) (room f) (u_few (bytes_in f.value)) (v_few (bytes_in f.value)) (w_few (bytes_in f.value))) fs in
      let x : sum (λ f. A f + (B f + C f)) fs ≡ sum A fs + sum (λ f. B f + C f) fs = sum_plus A (λ f. B f + C f) fs in
      let y : sum (λ f. B f + C f) fs ≡ sum B fs + sum C fs = sum_plus B C fs in
      let a : sum A fs ≡ sum u (parts i fs) = sum_parts i u fs in
      let b : sum B fs ≡ sum v (parts j fs) = sum_parts j v fs in
      let c : sum C fs ≡ sum w (parts k fs) = sum_parts k w fs in
      let all : sum room fs ≤ length s = entries_room s in
      omega arith

-- ---- two bytes for each message, field and enum
abbrev two : Bytes → ℕ
two b = 2

abbrev none : Bytes → ℕ
none b = 0

twos : (ps : List Bytes) → sum two ps ≡ length ps * 2
unfolding sum
twos [] = refl
twos (p ∷ ps) = let r = twos ps in omega arith

abbrev message_size : MessageDescriptor → ℕ
message_size m = 2 + (length m.fields * 2 + length m.enums * 2)

abbrev file_size : FileDescriptor → ℕ
file_size f = 2 + (length f.enums * 2 + sum message_size (preorder f.messages))

own_size : (p : Bytes) → message_size (decode_message p) ≡ 2 + (sum two (parts 2 (entries p)) + sum two (parts 4 (entries p)))
unfolding decode_message
own_size p =
    let a = map_length decode_field (parts 2 (entries p)) in
    let b = map_length decode_enum (parts 4 (entries p)) in
    let c = twos (parts 2 (entries p)) in
    let d = twos (parts 4 (entries p)) in
    omega arith

messages_room : (n : ℕ) (ps : List Bytes) → sum message_size (preorder (decode_messages n ps)) ≤ sum taken ps
unfolding decode_messages preorder sum
messages_room zero ps = omega arith
messages_room (suc n) [] = omega arith
messages_room (suc n) (p ∷ ps) =
    let inner = messages_room n (parts 3 (entries p)) in
    let others = messages_room (suc n) ps in
    let split = sum_append message_size (preorder (decode_messages n (parts 3 (entries p)))) (preorder (decode_messages (suc n) ps)) in
    let own = own_size p in
    let all = parts_room 2 3 4 (omega arith) (omega arith) two taken two (λ _. omega arith) (λ _. omega arith) (λ _. omega arith) p in
    omega arith

file_room : (p : Bytes) → file_size (decode_file p) ≤ taken p
unfolding decode_file
file_room p =
    let a = map_length decode_enum (parts 5 (entries p)) in
    let b = twos (parts 5 (entries p)) in
    let inner = messages_room 16 (parts 4 (entries p)) in
    let all = parts_room 4 5 6 (omega arith) (omega arith) taken two none (λ _. omega arith) (λ _. omega arith) (λ _. omega arith) p in
    omega arith

-- ---- the sizes of a set's files, by the lists that the limits count
messages_sized : (ms : List MessageDescriptor)
    → sum message_size ms ≡ (length ms + length (all_of (λ (m : MessageDescriptor). m.fields) ms) + length (all_of (λ (m : MessageDescriptor). m.enums) ms)) * 2
unfolding sum all_of
messages_sized [] = refl
messages_sized (m ∷ ms) =
    let rest = messages_sized ms in
    let a = length-append m.fields (all_of (λ (x : MessageDescriptor). x.fields) ms) in
    let b = length-append m.enums (all_of (λ (x : MessageDescriptor). x.enums) ms) in
    omega arith

files_sized : (fs : List FileDescriptor)
    → sum file_size fs ≡ (length fs + length (all_of (λ (f : FileDescriptor). f.enums) fs)) * 2 + sum (λ (f : FileDescriptor). sum message_size (preorder f.messages)) fs
unfolding sum all_of
files_sized [] = refl
files_sized (f ∷ fs) = let rest = files_sized fs in let a = length-append f.enums (all_of (λ (x : FileDescriptor). x.enums) fs) in omega arith

set_sized : (fs : List FileDescriptor) → (length fs + length (messages_in fs) + length (fields_in fs) + length (enums_in fs)) * 2 ≡ sum file_size fs
unfolding messages_in fields_in enums_in
set_sized fs =
    let ms : List MessageDescriptor = messages_in fs in
    let a = messages_sized ms in
    let b = files_sized fs in
    let c = sum_all_of message_size (λ (f : FileDescriptor). preorder f.messages) fs in
    let d = length-append (all_of (λ (f : FileDescriptor). f.enums) fs) (all_of (λ (m : MessageDescriptor). m.enums) ms) in
    omega arith

-- each file, message, field and enum of a set takes two bytes at least
pub declarations_short : (set : Bytes) → (length (decode_set set) + length (messages_in (decode_set set)) + length (fields_in (decode_set set)) + length (enums_in (decode_set set))) * 2 ≤ length set
unfolding decode_set
declarations_short set =
    let a = set_sized (decode_set set) in
    let b = sum_map file_size decode_file (parts 1 (entries set)) in
    let all = parts_room 1 2 3 (omega arith) (omega arith) (λ (p : Bytes). file_size (decode_file p)) none none file_room (λ _. omega arith) (λ _. omega arith) set in
    omega arith
