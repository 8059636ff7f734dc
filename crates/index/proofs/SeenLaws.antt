-- The forests over the records that the iterator gives are those over the records by positions. Assumes nothing.
use mathlib.Core.Path.{◌≡◌, refl, sym, ap, ◌∙◌, subst}
use mathlib.Core.List.{List, [], ◌∷◌}
use Prim.Native.Nat.{ℕ, ◌+◌, ◌≤◌}
use native.Mathlib.Omega.{arith}
use lib.ListN.{length}
use lib.Dec.{eqb}
use Rattle.std.specs.Prelude.{Result, Ok, Err}
use Rattle.base.specs.Choose.{choose}
use Rattle.wire.specs.Records.{records, pass, over}
use Rattle.wire.specs.Contents.{field_of, value_of}
use Rattle.wire.specs.Message.{Entry, records_at}
use Rattle.wire.proofs.RecordsLaws.{In, AllIn, records_in}
use Rattle.wire.proofs.SameRecords.{listed, same_records}
use Rattle.wire.specs.Step.{Record, Step, End, Fault, Found}
use Rattle.wire.specs.declared.records.record.Fault.{Fault as FaultAt}
use Rattle.descriptor.specs.Descriptor.{Bytes, Forest, done, node}
use Rattle.descriptor.specs.Decode.{bytes_in}
use Rattle.descriptor.specs.Places.{end_in, inside}
use Rattle.index.specs.Tree.{Place, place, Inner, forest_record, forest_from, forest_in, file_record, files_from}
use Rattle.descriptor.proofs.PartLaws.{inside_is, end_before, inside_length}

-- the bytes that a record holds, and their place
abbrev pub held : Entry → Bytes
held e = bytes_in e.field.value

abbrev pub place_of : Entry → Place
place_of e = record { start = e.start; end = e.start + length (held e) }

-- each record's bytes lie before the place end
abbrev pub Within : ℕ → List (Result Entry FaultAt) → Type 0
Within end [] = Unit {0}
Within end (Ok e ∷ rs) = (e.start + length (held e) ≤ end) × Within end rs
Within end (Err f ∷ rs) = Within end rs

-- the embedded messages of the records that are left
unfoldable pub forest_of : Inner → ℕ → List (Result Entry FaultAt) → Forest Place
forest_of inner number [] = done
forest_of inner number (Ok e ∷ rs) =
    choose (eqb e.field.number number) (node (place_of e) (inner (held e) e.start) (forest_of inner number rs)) (forest_of inner number rs)
forest_of inner number (Err f ∷ rs) = forest_of inner number rs

-- the forests of the files that are left
unfoldable pub files_of : ℕ → ℕ → List (Result Entry FaultAt) → List (Forest Place)
files_of number left [] = []
files_of number left (Ok e ∷ rs) = choose (eqb e.field.number 1) (forest_in left number (held e) e.start ∷ files_of number left rs) (files_of number left rs)
files_of number left (Err f ∷ rs) = files_of number left rs

module _ (s : List ℕ) (f : Record) (l : In (length s) f) where
  held_within : f.start + length (bytes_in (value_of s f)) ≤ length s
  held_within = let e = end_before (length s) f l in let to : end_in f ≤ length s = e.1 in let h = inside_length s f l in omega arith

  same_place : (base : ℕ) → place base f ≡ record { start = base + f.start; end = base + f.start + length (bytes_in (value_of s f)) }
  same_place base =
      let h = inside_length s f l in
      ap (λ (n : ℕ). let p : Place = record { start = base + f.start; end = n } in p) (let e : base + end_in f ≡ base + f.start + length (bytes_in (value_of s f)) = omega arith in e)

module _ (base : ℕ) (s : List ℕ) where
  within_listed : (rs : List Step) → AllIn (length s) rs → Within (base + length s) (listed base s rs)
  unfolding listed field_of
  within_listed [] h = tt
  within_listed (End ∷ rs) h = tt
  within_listed (Fault key ∷ rs) h = tt
  within_listed (Found f ∷ rs) h = (let l = held_within s f h.0 in omega arith, within_listed rs h.1)

  pub records_lie : Within (base + length s) (records_at base s)
  records_lie = subst (Within (base + length s)) (sym (same_records base s)) (within_listed (records s 0) (records_in s 0))

  module _ (inner : Inner) (number : ℕ) where
    forest_listed : (rs : List Step) → AllIn (length s) rs → forest_of inner number (listed base s rs) ≡ pass (forest_record inner number s base) (λ key x. done) (λ x. done) rs tt
    unfolding forest_of listed pass field_of
    forest_listed [] h = refl
    forest_listed (End ∷ rs) h = refl
    forest_listed (Fault key ∷ rs) h = refl
    forest_listed (Found f ∷ rs) h =
        let b = eqb f.number number in
        let F : Forest Place = forest_of inner number (listed base s rs) in
        ap (λ (p : Place). choose b (node p (inner (bytes_in (value_of s f)) (base + f.start)) F) F) (sym (same_place s f h.0 base))
        ∙ ap (λ (x : Bytes). choose b (node (place base f) (inner x (base + f.start)) F) F) (sym (inside_is s f))
        ∙ ap (λ (G : Forest Place). choose b (node (place base f) (inner (inside s f) (base + f.start)) G) G) (forest_listed rs h.1)

    pub forest_seen : forest_of inner number (records_at base s) ≡ forest_from inner number s base 0
    unfolding over
    forest_seen = ap (forest_of inner number) (same_records base s) ∙ forest_listed (records s 0) (records_in s 0)

module _ (number left : ℕ) (s : List ℕ) where
  files_listed : (rs : List Step) → files_of number left (listed 0 s rs) ≡ pass (file_record number left s) (λ key x. []) (λ x. []) rs tt
  unfolding files_of listed pass field_of
  files_listed [] = refl
  files_listed (End ∷ rs) = refl
  files_listed (Fault key ∷ rs) = refl
  files_listed (Found f ∷ rs) =
      let b = eqb f.number 1 in
      let Fs : List (Forest Place) = files_of number left (listed 0 s rs) in
      let e : 0 + f.start ≡ f.start = omega arith in
      ap (λ (n : ℕ). choose b (forest_in left number (bytes_in (value_of s f)) n ∷ Fs) Fs) e
      ∙ ap (λ (x : Bytes). choose b (forest_in left number x f.start ∷ Fs) Fs) (sym (inside_is s f))
      ∙ ap (λ (Gs : List (Forest Place)). choose b (forest_in left number (inside s f) f.start ∷ Gs) Gs) (files_listed rs)

  pub files_seen : files_of number left (records_at 0 s) ≡ files_from number left s 0
  unfolding over
  files_seen = ap (files_of number left) (same_records 0 s) ∙ files_listed (records s 0)
