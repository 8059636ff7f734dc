-- The last string with a field number; the segments of a package. Assumes nothing.
use mathlib.Core.Path.{◌≡◌, refl, ap, ◌∙◌}
use mathlib.Core.Bool.{Bool, true, false}
use mathlib.Core.List.{List, [], ◌∷◌, map}
use mathlib.Core.Option.{Option as Possibly, none, some}
use Prim.Native.Nat.{ℕ}
use lib.ListN.{length}
use lib.Dec.{ltb, eqb}
use Rattle.std.specs.Prelude.{Option, Some, None}
use Rattle.std.specs.List.{list_any, slice_split, last_or}
use Rattle.std.specs.Option.{UnwrapsOrElse}
use Rattle.base.specs.Choose.{choose}
use Rattle.base.specs.Lists.{any}
use Rattle.descriptor.proofs.SegmentLaws.{segments_are}
use Rattle.wire.specs.Encoding.{Field, Value}
use Rattle.descriptor.specs.Descriptor.{Bytes}
use Rattle.descriptor.specs.Decode.{entries, last_from, text, bytes_in, parts}
use Rattle.limits.specs.Weights.{bytes_or_none, text_bytes, long_segment}

unfoldable pub bytes_of_fields : ℕ → List Field → Bytes → Bytes
bytes_of_fields n [] b = b
bytes_of_fields n (f ∷ fs) b = bytes_of_fields n fs (choose (eqb f.number n) (bytes_in f.value) b)

chosen : (t : Bool) (x : Value) (v : Possibly Value) → choose t (bytes_in x) (bytes_or_none (text v)) ≡ bytes_or_none (text (choose t (some x) v))
unfolding choose
chosen true x v = refl
chosen false x v = refl

last_bytes : (n : ℕ) (fs : List Field) (v : Possibly Value) → bytes_of_fields n fs (bytes_or_none (text v)) ≡ bytes_or_none (text (last_from n fs v))
unfolding bytes_of_fields last_from
last_bytes n [] v = refl
last_bytes n (f ∷ fs) v =
    ap (bytes_of_fields n fs) (chosen (eqb f.number n) f.value v) ∙ last_bytes n fs (choose (eqb f.number n) (some f.value) v)

pub bytes_all : (n : ℕ) (s : Bytes) → bytes_of_fields n (entries s) [] ≡ text_bytes n s
bytes_all n s = last_bytes n (entries s) none

-- the last of some strings; b where there is none
abbrev pub last_of : Bytes → List Bytes → Bytes
last_of b [] = b
last_of b (p ∷ ps) = last_of p ps

last_part : (n : ℕ) (fs : List Field) (b : Bytes) → last_of b (parts n fs) ≡ bytes_of_fields n fs b
unfolding parts bytes_of_fields choose
last_part n [] b = refl
last_part n (f ∷ fs) b =
    elim (eqb f.number n) as (λ t. last_of b (choose t (bytes_in f.value ∷ parts n fs) (parts n fs)) ≡ bytes_of_fields n fs (choose t (bytes_in f.value) b))
    [ true ↦ last_part n fs (bytes_in f.value) | false ↦ last_part n fs b ]

pub last_text : (n : ℕ) (s : Bytes) → last_of [] (parts n (entries s)) ≡ text_bytes n s
last_text n s = last_part n (entries s) [] ∙ bytes_all n s

-- the last of some strings that an iterator gives, by what they are seen as
module _ {A : Type 0} (seen : A → Bytes) (Empty : A → Type 0) (empty : (x : A) → Empty x → seen x ≡ []) where
  abbrev seen_or_none : Option A → Bytes
  seen_or_none None = []
  seen_or_none (Some x) = seen x

  last_seen : (o : Option A) (xs : List A) → seen_or_none (last_or o xs) ≡ last_of (seen_or_none o) (map seen xs)
  last_seen o [] = refl
  last_seen o (x ∷ xs) = last_seen (Some x) xs

  unwrapped : (o : Option A) (r : A) → UnwrapsOrElse o Empty r → seen r ≡ seen_or_none o
  unwrapped None r is = empty r is
  unwrapped (Some x) r is = ap seen is

  pub last_is : (o : Option A) (xs : List A) (r : A) → o ≡ last_or None xs → UnwrapsOrElse o Empty r → seen r ≡ last_of [] (map seen xs)
  last_is o xs r o_is is = unwrapped o r is ∙ ap seen_or_none o_is ∙ last_seen None xs

-- ---- segments
pub split_segments : (s : Bytes) → list_any (λ (x : Bytes). ltb 64 (length x)) (slice_split (λ c. eqb c 46) s) ≡ long_segment s
unfolding long_segment any
split_segments s = ap (list_any (λ (x : Bytes). ltb 64 (length x))) (segments_are s)
