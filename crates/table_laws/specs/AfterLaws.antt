-- The number behind the messages nested in a message. Assumes nothing.
use Rattle.std.specs.Prelude.{◌≡◌, ℕ, suc, ◌+◌, length}
use Rattle.std.proofs.Math.Path.{refl, ap}
use Rattle.std.proofs.Common.{sym, ◌∙◌, subst, length-append, get_or-append-add}
use mathlib.Core.List.{List, [], ◌∷◌, ◌++◌, map}
use native.Mathlib.Omega.{arith}
use Rattle.std.proofs.Math.ListN.{get_or-append}
use Rattle.descriptor.specs.Descriptor.{Forest, done, node, FileDescriptor}
use Rattle.descriptor.specs.Decode.{decode_set}
use Rattle.index.specs.Tree.{Place, size, rows, rows_of, file_forests, no_row, row_at}
use Rattle.index.specs.declared.Row.{Row}
use Rattle.index.proofs.TreeLaws.{rows_length}
use Rattle.index.proofs.TableLaws.{Stands}
use Rattle.index.proofs.DecodedLaws.{map_forest}
use Rattle.index.proofs.SetLaws.{MessageTable}
use Rattle.field_columns.proofs.NameLaws.{placed, files_forests}

-- numbered from i on, after has for each message the number behind those nested in it
abbrev pub Afters : {A : Type 0} → (ℕ → ℕ) → ℕ → Forest A → Type 0
Afters after i done = Unit {0}
Afters after i (node p nested following) = (after i ≡ i + 1 + size nested) × (Afters after (i + 1) nested × Afters after (i + 1 + size nested) following)

abbrev pub FileAfters : {A : Type 0} → (ℕ → ℕ) → ℕ → List (Forest A) → Type 0
FileAfters after i [] = Unit {0}
FileAfters after i (F ∷ Fs) = Afters after i F × FileAfters after (i + size F) Fs

module _ (t : List Row) where
  stands_tail : (i : ℕ) (r : Row) (rs : List Row) → Stands t i (r ∷ rs) → Stands t (i + 1) rs
  stands_tail i r rs h k l = ap (row_at t) (let e : i + 1 + k ≡ i + suc k = omega arith in e) ∙ h (suc k) (omega arith)

  stands_left : (i : ℕ) (xs ys : List Row) → Stands t i (xs ++ ys) → Stands t i xs
  stands_left i xs ys h k l = let n = length-append xs ys in h k (omega arith) ∙ get_or-append xs ys no_row k l

  stands_right : (i n : ℕ) (xs ys : List Row) → length xs ≡ n → Stands t i (xs ++ ys) → Stands t (i + n) ys
  stands_right i n xs ys e h k l =
      let m = length-append xs ys in
      ap (row_at t) (let z : i + n + k ≡ i + (length xs + k) = omega arith in z) ∙ h (length xs + k) (omega arith) ∙ get_or-append-add xs ys k no_row

  afters_are : (F : Forest Place) (file up i : ℕ) → Stands t i (rows file up i F) → Afters (λ j. (row_at t j).after) i F
  unfolding rows size
  afters_are done file up i h = tt
  afters_are (node p nested following) file up i h =
      let inner = rows file (i + 1) (i + 1) nested in
      let later = rows file up (i + 1 + size nested) following in
      let row : Row = record { start = p.start; end = p.end; file = file; up = up; after = i + 1 + size nested } in
      let rest : Stands t (i + 1) (inner ++ later) = stands_tail i row (inner ++ later) h in (
        ap (λ (j : ℕ). (row_at t j).after) (let e : i ≡ i + 0 = omega arith in e) ∙ ap (λ (r : Row). r.after) (h 0 (omega arith)),
        (
          afters_are nested file (i + 1) (i + 1) (stands_left (i + 1) inner later rest),
          afters_are following file up (i + 1 + size nested) (stands_right (i + 1) (size nested) inner later (rows_length nested file (i + 1) (i + 1)) rest),
        ),
      )

  files_are : (Fs : List (Forest Place)) (file i : ℕ) → Stands t i (rows_of file i Fs) → FileAfters (λ j. (row_at t j).after) i Fs
  unfolding rows_of
  files_are [] file i h = tt
  files_are (F ∷ Fs) file i h =
      let here = rows file 0 i F in
      let later = rows_of (file + 1) (i + size F) Fs in
      (afters_are F file 0 i (stands_left i here later h), files_are Fs (file + 1) (i + size F) (stands_right i (size F) here later (rows_length F file 0 i) h))

-- ---- the same of what is decoded

module _ {A B : Type 0} (g : A → B) where
  pub size_map : (F : Forest A) → size (map_forest g F) ≡ size F
  unfolding size map_forest
  size_map done = refl
  size_map (node a nested following) = let n = size_map nested in let f = size_map following in omega arith

  afters_map : (after : ℕ → ℕ) (i : ℕ) (F : Forest A) → Afters after i F → Afters after i (map_forest g F)
  unfolding map_forest
  afters_map after i done h = tt
  afters_map after i (node a nested following) h =
      let n = size_map nested in
      (rw n h.0, (afters_map after (i + 1) nested h.1.0, rw n (afters_map after (i + 1 + size nested) following h.1.1)))

  files_map : (after : ℕ → ℕ) (i : ℕ) (Fs : List (Forest A)) → FileAfters after i Fs → FileAfters after i (map (map_forest g) Fs)
  files_map after i [] h = tt
  files_map after i (F ∷ Fs) h = (afters_map after i F h.0, rw (size_map F) (files_map after (i + size F) Fs h.1))

pub set_afters : (set : List ℕ) (messages : List Row) (count : ℕ) → MessageTable set messages count
    → FileAfters (λ j. (row_at messages j).after) 0 (map (λ (f : FileDescriptor). f.messages) (decode_set set))
set_afters set messages count table =
    subst (FileAfters (λ j. (row_at messages j).after) 0) (sym (files_forests set table.small))
    (files_map (placed set table.small) (λ j. (row_at messages j).after) 0 (file_forests 4 16 set) (files_are messages (file_forests 4 16 set) 0 0 table.there))
