-- The rows of what messages hold, over a list of the messages' rows. Assumes nothing.
use mathlib.Core.Path.{◌≡◌, refl, sym, ap, ◌∙◌}
use mathlib.Core.List.{List, [], ◌∷◌, ◌++◌, map, map-append}
use Prim.Native.Nat.{ℕ, suc, ◌+◌, ◌-◌, ◌≤◌}
use native.Mathlib.Omega.{arith}
use lib.ListN.{length, length-append, replicate, replicate-append-replicate}
use lib.Dec.{eqb}
use borrow.Author.Tests.{le-ltb}
use Rattle.base.specs.Choose.{choose, choose_case}
use Rattle.base.specs.Lists.{all_of, map_length}
use Rattle.wire.specs.Records.{records, pass, over}
use Rattle.wire.specs.Step.{Step, End, Fault, Found}
use Rattle.descriptor.specs.Descriptor.{Bytes, Forest, done, node, preorder}
use Rattle.descriptor.specs.Decode.{entries, parts}
use Rattle.index.specs.Tree.{Place, forest_record, forest_in, size, rows, row_at, row_bytes, member_forest, members}
use Rattle.index.specs.Owners.{owners}
use Rattle.index.specs.declared.Row.{Row}
use Rattle.index.proofs.TreeLaws.{rows_length}
use Rattle.index.proofs.TableLaws.{Stands}
use Rattle.index.proofs.DecodedLaws.{rows_bytes, forest_bytes, one_level}

-- the file of all rows of a forest
pub rows_file : (F : Forest Place) (file up i : ℕ) → map (λ (r : Row). r.file) (rows file up i F) ≡ replicate (size F) file
unfolding rows size
rows_file done file up i = refl
rows_file (node p nested following) file up i =
    ap (λ (l : List ℕ). file ∷ l)
    (map-append (λ (r : Row). r.file) (rows file (i + 1) (i + 1) nested) (rows file up (i + 1 + size nested) following)
    ∙ ap (λ (l : List ℕ). l ++ map (λ (r : Row). r.file) (rows file up (i + 1 + size nested) following)) (rows_file nested file (i + 1) (i + 1))
    ∙ ap (λ (l : List ℕ). replicate (size nested) file ++ l) (rows_file following file up (i + 1 + size nested))
    ∙ replicate-append-replicate (size nested) (size following) file)
    ∙ ap (λ (n : ℕ). replicate n file) (let e : suc (size nested + size following) ≡ 1 + size nested + size following = omega arith in e)

-- a forest of one level
abbrev pub Flat : Forest Place → Type 0
Flat done = Unit {0}
Flat (node p nested following) = (nested ≡ done) × Flat following

pass_flat : (number : ℕ) (s : List ℕ) (base : ℕ) (rs : List Step) → Flat (pass (forest_record (forest_in 0 3) number s base) (λ key x. done) (λ x. done) rs tt)
unfolding pass forest_in
pass_flat number s base [] = tt
pass_flat number s base (End ∷ rs) = tt
pass_flat number s base (Fault key ∷ rs) = tt
pass_flat number s base (Found f ∷ rs) = choose_case Flat (eqb f.number number) (λ _. (refl, pass_flat number s base rs)) (λ _. pass_flat number s base rs)

pub flat_one : (number : ℕ) (s : List ℕ) (base : ℕ) → Flat (forest_in 1 number s base)
unfolding forest_in over
flat_one number s base = pass_flat number s base (records s 0)

pub flat_up : (F : Forest Place) → Flat F → (file up i : ℕ) → map (λ (r : Row). r.up) (rows file up i F) ≡ replicate (size F) up
unfolding rows size
flat_up done h file up i = refl
flat_up (node p nested following) h file up i =
    ap (λ (N : Forest Place). map (λ (r : Row). r.up) (rows file up i (node p N following))) h.0
    ∙ ap (λ (l : List ℕ). up ∷ l) (flat_up following h.1 file up (i + 1 + 0))
    ∙ ap (λ (n : ℕ). replicate n up) (let e : suc (size following) ≡ 1 + 0 + size following = omega arith in e)
    ∙ ap (λ (N : Forest Place). replicate (1 + size N + size following) up) (sym h.0)

rows_up : (number : ℕ) (s : List ℕ) (base file up i : ℕ) → map (λ (r : Row). r.up) (rows file up i (forest_in 1 number s base)) ≡ replicate (size (forest_in 1 number s base)) up
rows_up number s base file up i = flat_up (forest_in 1 number s base) (flat_one number s base) file up i

module _ (set : List ℕ) (number : ℕ) where
  -- what the message of a row embeds
  abbrev pub embeds : Row → List Bytes
  embeds m = parts number (entries (row_bytes set m))

  abbrev of_message : Row → Forest Place
  of_message = member_forest set number

  -- the first message has the number j, its first row the number i
  unfoldable pub member_rows : ℕ → ℕ → List Row → List Row
  member_rows j i [] = []
  member_rows j i (m ∷ ms) = rows m.file (j + 1) i (of_message m) ++ member_rows (j + 1) (i + size (of_message m)) ms

  of_message_bytes : (m : Row) (file up i : ℕ) → map (row_bytes set) (rows file up i (of_message m)) ≡ embeds m
  of_message_bytes m file up i =
      rows_bytes set (of_message m) file up i ∙ ap preorder (forest_bytes 1 number set m.start (m.end - m.start)) ∙ one_level (embeds m)

  of_message_size : (m : Row) → size (of_message m) ≡ length (embeds m)
  of_message_size m = sym (rows_length (of_message m) 0 0 0) ∙ sym (map_length (row_bytes set) (rows 0 0 0 (of_message m))) ∙ ap length (of_message_bytes m 0 0 0)

  pub members_listed : (messages : List Row) (ms : List Row) (j i : ℕ) → Stands messages j ms → i + length (all_of embeds ms) ≤ 32767
      → members set number messages (length ms) j i ≡ member_rows j i ms
  unfolding members member_rows all_of choose
  members_listed messages [] j i there few = refl
  members_listed messages (m ∷ ms) j i there few =
      let here : row_at messages j ≡ m = ap (row_at messages) (let e : j ≡ j + 0 = omega arith in e) ∙ there 0 (omega arith) in
      let n : size (of_message m) ≡ length (embeds m) = of_message_size m in
      let l = length-append (embeds m) (all_of embeds ms) in
      let behind : Stands messages (j + 1) ms = λ k h. ap (row_at messages) (let e : j + 1 + k ≡ j + suc k = omega arith in e) ∙ there (suc k) (omega arith) in
      rw (le-ltb 32767 i (omega arith), here) (ap (λ (rs : List Row). rows m.file (j + 1) i (of_message m) ++ rs) (members_listed messages ms (j + 1) (i + size (of_message m)) behind (omega arith)))

  -- the bytes, numbers of messages and files in these rows

  pub member_bytes : (ms : List Row) (j i : ℕ) → map (row_bytes set) (member_rows j i ms) ≡ all_of embeds ms
  unfolding member_rows all_of
  member_bytes [] j i = refl
  member_bytes (m ∷ ms) j i =
      map-append (row_bytes set) (rows m.file (j + 1) i (of_message m)) (member_rows (j + 1) (i + size (of_message m)) ms)
      ∙ ap (λ (l : List Bytes). l ++ map (row_bytes set) (member_rows (j + 1) (i + size (of_message m)) ms)) (of_message_bytes m m.file (j + 1) i)
      ∙ ap (λ (l : List Bytes). embeds m ++ l) (member_bytes ms (j + 1) (i + size (of_message m)))

  pub member_up : (ms : List Row) (j i : ℕ) → map (λ (r : Row). r.up) (member_rows j i ms) ≡ owners embeds (j + 1) ms
  unfolding member_rows owners
  member_up [] j i = refl
  member_up (m ∷ ms) j i =
      map-append (λ (r : Row). r.up) (rows m.file (j + 1) i (of_message m)) (member_rows (j + 1) (i + size (of_message m)) ms)
      ∙ ap (λ (l : List ℕ). l ++ map (λ (r : Row). r.up) (member_rows (j + 1) (i + size (of_message m)) ms))
      (rows_up number (row_bytes set m) m.start m.file (j + 1) i ∙ ap (λ (n : ℕ). replicate n (j + 1)) (of_message_size m))
      ∙ ap (λ (l : List ℕ). replicate (length (embeds m)) (j + 1) ++ l) (member_up ms (j + 1) (i + size (of_message m)))

  pub member_file : (ms : List Row) (j i : ℕ) → map (λ (r : Row). r.file) (member_rows j i ms) ≡ all_of (λ (m : Row). replicate (length (embeds m)) m.file) ms
  unfolding member_rows all_of
  member_file [] j i = refl
  member_file (m ∷ ms) j i =
      map-append (λ (r : Row). r.file) (rows m.file (j + 1) i (of_message m)) (member_rows (j + 1) (i + size (of_message m)) ms)
      ∙ ap (λ (l : List ℕ). l ++ map (λ (r : Row). r.file) (member_rows (j + 1) (i + size (of_message m)) ms))
      (rows_file (of_message m) m.file (j + 1) i ∙ ap (λ (n : ℕ). replicate n m.file) (of_message_size m))
      ∙ ap (λ (l : List ℕ). replicate (length (embeds m)) m.file ++ l) (member_file ms (j + 1) (i + size (of_message m)))
