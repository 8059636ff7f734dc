-- The fields that a message is decoded from are those that its bytes encode, by the encoding's document. Assumes nothing.
use mathlib.Core.Path.{◌≡◌, refl, ap, ◌∙◌}
use mathlib.Core.List.{List, [], ◌∷◌}
use mathlib.Core.Option.{Option, none, some}
use Prim.Native.Nat.{ℕ}
use native.Mathlib.Omega.{arith}
use Rattle.wire.specs.Encoding.{Field, Encodes}
use Rattle.wire.specs.Records.{records}
use Rattle.wire.specs.Contents.{field_of, fields_of, also, contents}
use Rattle.wire.specs.Message.{records_at, fields_in}
use Rattle.wire.proofs.EncodingTheorems.{complete}
use Rattle.wire.proofs.SameRecords.{listed, same_records}
use Rattle.wire.specs.Step.{Step, End, Fault, Found}
use Rattle.descriptor.specs.Decode.{entries, entries_of}

by_rest : (f : Field) (o : Option (List Field)) (es fs : List Field) → ((gs : List Field) → o ≡ some gs → es ≡ gs) → also f o ≡ some fs → f ∷ es ≡ fs
by_rest f none es fs h e = let z : ◌≡◌ {A = ℕ} 0 1 = cc in absurd (omega arith)
by_rest f (some gs) es fs h e = ap (λ (l : List Field). f ∷ l) (h gs refl) ∙ (cc)

same_fields : (s : List ℕ) (rs : List Step) (fs : List Field) → fields_of s rs ≡ some fs → entries_of s rs ≡ fs
unfolding fields_of entries_of
same_fields s [] fs e = cc
same_fields s (End ∷ rs) fs e = cc
same_fields s (Fault key ∷ rs) fs e = let z : ◌≡◌ {A = ℕ} 0 1 = cc in absurd (omega arith)
same_fields s (Found f ∷ rs) fs e = by_rest (field_of s f) (fields_of s rs) (entries_of s rs) fs (λ gs h. same_fields s rs gs h) e

pub entries_encoded : (s : List ℕ) (fs : List Field) → Encodes s fs → entries s ≡ fs
unfolding entries contents
entries_encoded s fs w = same_fields s (records s 0) fs (complete s fs w)

-- the records that are read one after the other, wherever the bytes stand, hold the same fields
fields_listed : (base : ℕ) (s : List ℕ) (rs : List Step) → fields_in (listed base s rs) ≡ entries_of s rs
unfolding listed fields_in entries_of
fields_listed base s [] = refl
fields_listed base s (End ∷ rs) = refl
fields_listed base s (Fault key ∷ rs) = refl
fields_listed base s (Found f ∷ rs) = ap (λ (fs : List Field). field_of s f ∷ fs) (fields_listed base s rs)

pub entries_read : (base : ℕ) (s : List ℕ) → fields_in (records_at base s) ≡ entries s
unfolding entries
entries_read base s = ap fields_in (same_records base s) ∙ fields_listed base s (records s 0)
