-- The reader and the encoding's document: of any bytes, `contents` gives exactly the fields that they encode, and nothing where they encode none. Assumes nothing.
use mathlib.Core.Path.{◌≡◌, refl, sym, ◌∙◌}
use mathlib.Core.List.{List, ◌++◌}
use mathlib.Core.Option.{Option, none, some}
use Prim.Native.Nat.{ℕ, ◌+◌}
use native.Mathlib.Omega.{arith}
use lib.ListN.{length, drop}
use Rattle.wire.specs.Step.{Fault, Found, step_at}
use Rattle.wire.specs.Encoding.{Bytes, Field, EncodesField, Encodes}
use Rattle.std.specs.Prelude.{None}
use Rattle.wire.specs.Contents.{contents, all_fields}
use Rattle.wire.specs.Message.{record_at, records_at}
use Rattle.wire.proofs.StepLaws.{Lies, lies}
use Rattle.wire.proofs.SameRecords.{step_same, same_contents}
use Rattle.wire.proofs.EncodingSound as reader
use Rattle.wire.proofs.EncodingComplete as encoding

module _ (s : List ℕ) where
  -- what the reader gives, the bytes encode
  pub sound : Bytes s → (fs : List Field) → contents s ≡ some fs → Encodes s fs
  sound all_bytes fs e = reader.sound s all_bytes fs e

  -- what the bytes encode, the reader gives
  pub complete : (fs : List Field) → Encodes s fs → contents s ≡ some fs
  complete fs w = encoding.complete s fs w

  -- bytes that the reader refuses encode nothing
  pub refused : contents s ≡ none → (fs : List Field) → Encodes s fs → ⊥
  refused e fs w = let a = complete fs w in let z : ◌≡◌ {A = ℕ} 0 1 = cc in omega arith

  -- bytes that encode nothing are refused
  pub only_refused : Bytes s → ((fs : List Field) → Encodes s fs → ⊥) → contents s ≡ none
  only_refused all_bytes not_any = by_answer (contents s) refl
    where
      by_answer : (o : Option (List Field)) → contents s ≡ o → contents s ≡ none
      by_answer none e = e
      by_answer (some fs) e = absurd (not_any fs (sound all_bytes fs e))

  -- bytes encode at most one list of fields
  pub one_reading : (fs gs : List Field) → Encodes s fs → Encodes s gs → fs ≡ gs
  one_reading fs gs v w = let a = complete fs v in let c = complete gs w in cc

  -- where the reader places a fault, no field begins
  pub no_field_at_fault : (at key : ℕ) → step_at s at ≡ Fault key → (f : Field) (bs rest : List ℕ) → EncodesField bs f → drop at s ≡ bs ++ rest → ⊥
  no_field_at_fault at key e f bs rest w there =
      let r : encoding.RecordAt s at f (at + length bs) = encoding.field_read s at f bs rest w there in
      let here : Found r.found ≡ Fault key = r.here ∙ e in
      let z : ◌≡◌ {A = ℕ} 0 1 = cc in
      omega arith

  -- the same of the records that are read one after the other, wherever the bytes stand
  pub records_sound : Bytes s → (base : ℕ) (fs : List Field) → all_fields (records_at base s) ≡ some fs → Encodes s fs
  records_sound all_bytes base fs e = sound all_bytes fs (sym (same_contents base s) ∙ e)

  pub records_complete : (base : ℕ) (fs : List Field) → Encodes s fs → all_fields (records_at base s) ≡ some fs
  records_complete base fs w = same_contents base s ∙ complete fs w

  -- where no record stands, no field begins
  pub no_field_where_none : (base at : ℕ) → record_at (base + at) (drop at s) ≡ None → (f : Field) (bs rest : List ℕ) → EncodesField bs f → drop at s ≡ bs ++ rest → ⊥
  no_field_where_none base at e f bs rest w there =
      let r : encoding.RecordAt s at f (at + length bs) = encoding.field_read s at f bs rest w there in
      let l : Lies (length s) at r.found = lies s at (step_at s at) r.found refl (sym r.here) in
      rw (← r.here, e) at (step_same s base at (omega arith))
