-- The places of a forest, and the rows of a table, hold the bytes that the set embeds. Assumes nothing.
use mathlib.Core.Path.{◌≡◌, refl, sym, ap, ◌∙◌, subst}
use mathlib.Core.Bool.{Bool, true, false}
use mathlib.Core.List.{List, [], ◌∷◌, ◌++◌, map, map-append}
use Prim.Native.Nat.{ℕ, zero, suc, ◌+◌, ◌-◌, ◌≤◌}
use native.Mathlib.Omega.{arith}
use lib.ListN.{length}
use lib.Dec.{eqb}
use borrow.Author.Tests.{le-ltb}
use Rattle.base.specs.Choose.{choose}
use Rattle.wire.specs.Records.{records, pass, over, part}
use Rattle.wire.specs.Contents.{field_of, value_of}
use Rattle.wire.proofs.RecordsLaws.{In, AllIn, records_in}
use Rattle.wire.specs.Step.{Record, Step, End, Fault, Found}
use Rattle.descriptor.specs.Descriptor.{Bytes, Forest, done, node, MessageDescriptor, preorder}
use Rattle.descriptor.specs.Decode.{entries, entries_of, bytes_in, parts, decode_message, decode_messages}
use Rattle.base.specs.Lists.{all_of}
use Rattle.descriptor.proofs.PartLaws.{part_part, inside_is, end_before}
use Rattle.descriptor.specs.Places.{end_in, inside}
use Rattle.index.specs.Tree.{Place, place, forest_record, forest_in, size, rows, row_bytes, file_record, file_forests, rows_of}

-- the bytes at a place of the set
abbrev pub bytes_at : List ℕ → Place → Bytes
bytes_at set p = part set p.start (p.end - p.start)

unfoldable pub map_forest : {A B : Type 0} → (A → B) → Forest A → Forest B
map_forest f done = done
map_forest f (node a nested following) = node (f a) (map_forest f nested) (map_forest f following)

pub forest_forest : {A B C : Type 0} (g : B → C) (f : A → B) (F : Forest A) → map_forest g (map_forest f F) ≡ map_forest (λ (a : A). g (f a)) F
unfolding map_forest
forest_forest g f done = refl
forest_forest {C} g f (node a nested following) =
    ap (λ (X : Forest C). node (g (f a)) X (map_forest g (map_forest f following))) (forest_forest g f nested)
    ∙ ap (λ (X : Forest C). node (g (f a)) (map_forest (λ (a : _). g (f a)) nested) X) (forest_forest g f following)

-- embedded messages with those nested in them (3), in so many levels
unfoldable pub nest : ℕ → List Bytes → Forest Bytes
nest zero ps = done
nest (suc n) [] = done
nest (suc n) (p ∷ ps) = node p (nest n (parts 3 (entries p))) (nest (suc n) ps)

by_number : (set : List ℕ) (k : ℕ) (b : Bool) (F G : Forest Place) (p : Bytes) (ps : List Bytes) → map_forest (bytes_at set) F ≡ nest (suc k) (p ∷ ps)
    → map_forest (bytes_at set) G ≡ nest (suc k) ps → map_forest (bytes_at set) (choose b F G) ≡ nest (suc k) (choose b (p ∷ ps) ps)
unfolding choose
by_number set k true F G p ps h i = h
by_number set k false F G p ps h i = i

module _ (set : List ℕ) (base size : ℕ) where
  abbrev s : List ℕ
  s = part set base size

  place_bytes : (f : Record) → In (length s) f → bytes_at set (place base f) ≡ inside s f
  place_bytes f l =
      let e = end_before (length s) f l in
      let from : f.start ≤ end_in f = e.0 in
      let to : end_in f ≤ length s = e.1 in
      let n : base + end_in f - (base + f.start) ≡ end_in f - f.start = omega arith in
      ap (λ (m : ℕ). part set (base + f.start) m) n ∙ sym (part_part set base size f.start (end_in f - f.start) (omega arith))

  pass_bytes : (k : ℕ) → ((b m : ℕ) → map_forest (bytes_at set) (forest_in k 3 (part set b m) b) ≡ nest k (parts 3 (entries (part set b m))))
      → (number : ℕ) (rs : List Step) → AllIn (length s) rs
      → map_forest (bytes_at set) (pass (forest_record (forest_in k 3) number s base) (λ key x. done) (λ x. done) rs tt) ≡ nest (suc k) (parts number (entries_of s rs))
  unfolding pass entries_of parts map_forest nest field_of
  pass_bytes k inner number [] h = refl
  pass_bytes k inner number (End ∷ rs) h = refl
  pass_bytes k inner number (Fault key ∷ rs) h = refl
  pass_bytes k inner number (Found f ∷ rs) h =
      let p : Bytes = bytes_in (value_of s f) in
      let ps : List Bytes = parts number (entries_of s rs) in
      let there : bytes_at set (place base f) ≡ inside s f = place_bytes f h.0 in
      let bytes : inside s f ≡ p = inside_is s f in
      let F : Forest Place = pass (forest_record (forest_in k 3) number s base) (λ key x. done) (λ x. done) rs tt in
      let N : Forest Place = forest_in k 3 (inside s f) (base + f.start) in
      let rest : map_forest (bytes_at set) F ≡ nest (suc k) ps = pass_bytes k inner number rs h.1 in
      let nested : map_forest (bytes_at set) N ≡ nest k (parts 3 (entries (inside s f))) =
      subst (λ (q : Bytes). map_forest (bytes_at set) (forest_in k 3 q (base + f.start)) ≡ nest k (parts 3 (entries q))) there (inner (base + f.start) (base + end_in f - (base + f.start))) in
      by_number set k (eqb f.number number) (node (place base f) N F) F p ps
      (ap (λ (q : Bytes). node q (map_forest (bytes_at set) N) (map_forest (bytes_at set) F)) (there ∙ bytes)
      ∙ ap (λ (X : Forest Bytes). node p X (map_forest (bytes_at set) F)) (nested ∙ ap (λ (q : Bytes). nest k (parts 3 (entries q))) bytes)
      ∙ ap (λ (X : Forest Bytes). node p (nest k (parts 3 (entries p))) X) rest)
      rest

-- the forest of a part of a set is that of the messages that the part embeds
pub forest_bytes : (k number : ℕ) (set : List ℕ) (base size : ℕ)
    → map_forest (bytes_at set) (forest_in k number (part set base size) base) ≡ nest k (parts number (entries (part set base size)))
unfolding forest_in over entries nest map_forest
forest_bytes zero number set base size = refl
forest_bytes (suc k) number set base size =
    pass_bytes set base size k (λ b m. forest_bytes k 3 set b m) number (records (part set base size) 0) (records_in (part set base size) 0)

-- the files

file_by_number : {A B : Type 0} (g : A → B) (h : Bytes → B) (b : Bool) (a : A) (xs : List A) (p : Bytes) (ps : List Bytes) → g a ≡ h p → map g xs ≡ map h ps
    → map g (choose b (a ∷ xs) xs) ≡ map h (choose b (p ∷ ps) ps)
unfolding choose
file_by_number {B} g h true a xs p ps e i = ap (λ (x : B). x ∷ map g xs) e ∙ ap (λ (ys : List B). h p ∷ ys) i
file_by_number g h false a xs p ps e i = i

module _ (number left : ℕ) (set : List ℕ) where
  abbrev of_file : Bytes → Forest Bytes
  of_file p = nest left (parts number (entries p))

  pass_files : (rs : List Step)
      → map (map_forest (bytes_at set)) (pass (file_record number left set) (λ key x. []) (λ x. []) rs tt) ≡ map of_file (parts 1 (entries_of set rs))
  unfolding pass entries_of parts field_of
  pass_files [] = refl
  pass_files (End ∷ rs) = refl
  pass_files (Fault key ∷ rs) = refl
  pass_files (Found f ∷ rs) =
      file_by_number (map_forest (bytes_at set)) of_file (eqb f.number 1) (forest_in left number (inside set f) f.start) (pass (file_record number left set) (λ key x. []) (λ x. []) rs tt)
      (bytes_in (value_of set f)) (parts 1 (entries_of set rs))
      (forest_bytes left number set f.start (end_in f - f.start) ∙ ap of_file (inside_is set f))
      (pass_files rs)

  -- the files' forests are those of the files that the set embeds
  pub files_bytes : length set ≤ 32768 → map (map_forest (bytes_at set)) (file_forests number left set) ≡ map of_file (parts 1 (entries set))
  unfolding file_forests choose over entries
  files_bytes h = rw (le-ltb 32768 (length set) h) (pass_files (records set 0))

-- The rows of a forest are its places in declaration order.

pub rows_bytes : (set : List ℕ) (F : Forest Place) (file up i : ℕ) → map (row_bytes set) (rows file up i F) ≡ preorder (map_forest (bytes_at set) F)
unfolding rows preorder map_forest
rows_bytes set done file up i = refl
rows_bytes set (node p nested following) file up i =
    ap (λ (l : List Bytes). bytes_at set p ∷ l)
    (map-append (row_bytes set) (rows file (i + 1) (i + 1) nested) (rows file up (i + 1 + size nested) following)
    ∙ ap (λ (l : List Bytes). l ++ map (row_bytes set) (rows file up (i + 1 + size nested) following)) (rows_bytes set nested file (i + 1) (i + 1))
    ∙ ap (λ (l : List Bytes). preorder (map_forest (bytes_at set) nested) ++ l) (rows_bytes set following file up (i + 1 + size nested)))

pub rows_of_bytes : (set : List ℕ) (Fs : List (Forest Place)) (file i : ℕ)
    → map (row_bytes set) (rows_of file i Fs) ≡ all_of preorder (map (map_forest (bytes_at set)) Fs)
unfolding rows_of all_of
rows_of_bytes set [] file i = refl
rows_of_bytes set (F ∷ Fs) file i =
    map-append (row_bytes set) (rows file 0 i F) (rows_of (file + 1) (i + size F) Fs)
    ∙ ap (λ (l : List Bytes). l ++ map (row_bytes set) (rows_of (file + 1) (i + size F) Fs)) (rows_bytes set F file 0 i)
    ∙ ap (λ (l : List Bytes). preorder (map_forest (bytes_at set) F) ++ l) (rows_of_bytes set Fs (file + 1) (i + size F))

-- what is embedded, one level of it, and decoded

pub one_level : (ps : List Bytes) → preorder (nest 1 ps) ≡ ps
unfolding preorder nest
one_level [] = refl
one_level (p ∷ ps) = ap (λ (l : List Bytes). p ∷ l) (one_level ps)

pub nest_forest : (k : ℕ) (ps : List Bytes) → map_forest decode_message (nest k ps) ≡ decode_messages k ps
unfolding map_forest nest decode_messages
nest_forest zero ps = refl
nest_forest (suc k) [] = refl
nest_forest (suc k) (p ∷ ps) =
    ap (λ (X : Forest MessageDescriptor). node (decode_message p) X (map_forest decode_message (nest (suc k) ps))) (nest_forest k (parts 3 (entries p)))
    ∙ ap (λ (X : Forest MessageDescriptor). node (decode_message p) (decode_messages k (parts 3 (entries p))) X) (nest_forest (suc k) ps)

preorder_map : {A B : Type 0} (f : A → B) (F : Forest A) → map f (preorder F) ≡ preorder (map_forest f F)
unfolding preorder map_forest
preorder_map f done = refl
preorder_map {B} f (node a nested following) =
    ap (λ (l : List B). f a ∷ l)
    (map-append f (preorder nested) (preorder following)
    ∙ ap (λ (l : List B). l ++ map f (preorder following)) (preorder_map f nested)
    ∙ ap (λ (l : List B). preorder (map_forest f nested) ++ l) (preorder_map f following))

pub nest_decoded : (k : ℕ) (ps : List Bytes) → map decode_message (preorder (nest k ps)) ≡ preorder (decode_messages k ps)
nest_decoded k ps = preorder_map decode_message (nest k ps) ∙ ap preorder (nest_forest k ps)
