-- The places of embedded messages hold the embedded messages, and the names of rows are the declarations' names. Assumes nothing.
use mathlib.Core.Path.{◌≡◌, refl, sym, ap, ◌∙◌}
use mathlib.Core.Bool.{Bool, true, false}
use mathlib.Core.List.{List, [], ◌∷◌, map}
use Prim.Native.Nat.{ℕ, ◌+◌, ◌-◌, ◌≤◌}
use native.Mathlib.Omega.{arith}
use lib.ListN.{length}
use lib.Dec.{eqb}
use Rattle.base.specs.Choose.{choose}
use Rattle.wire.specs.Records.{records, part}
use Rattle.wire.specs.Contents.{field_of, value_of}
use Rattle.wire.proofs.RecordsLaws.{In, AllIn, records_in}
use Rattle.wire.specs.Step.{Record, Step, End, Fault, Found}
use Rattle.descriptor.specs.Decode.{entries, entries_of, last, last_from, text as decoded, bytes_in, parts, decode_message, decode_enum, decode_file}
use Rattle.descriptor.specs.Descriptor.{Bytes}
use Rattle.wire.specs.Encoding.{Field, Value}
use Rattle.std.proofs.Math.Option as option
use Rattle.std.specs.Prelude.{Option, None, Some}
use Rattle.std.specs.Option.{is_some}
use Rattle.std.specs.List.{last_or}
use Rattle.descriptor.specs.Places.{end_in, inside}
use Rattle.descriptor.proofs.PartLaws.{part_part, inside_is, end_before}
use Rattle.declarations.specs.declared.places.Place.{Place}
use Rattle.name_rules.specs.Accessors.{text}
use Rattle.declarations.specs.Rows.{bytes_at, place, places_of, places, last_place, lies, package_of, declaration_row}
use Rattle.declarations.specs.declared.Kind.{Kind}
use Rattle.declarations.specs.Listed.{name_of}

by_number : (bytes : List ℕ) (b : Bool) (p : Place) (ps : List Place) (x : List ℕ) (xs : List (List ℕ)) → bytes_at bytes p ≡ x → map (bytes_at bytes) ps ≡ xs
    → map (bytes_at bytes) (choose b (p ∷ ps) ps) ≡ choose b (x ∷ xs) xs
unfolding choose
by_number bytes true p ps x xs h i = ap (λ (y : List ℕ). y ∷ map (bytes_at bytes) ps) h ∙ ap (λ (ys : List (List ℕ)). x ∷ ys) i
by_number bytes false p ps x xs h i = i

module _ (bytes : List ℕ) (base size : ℕ) where
  abbrev s : List ℕ
  s = part bytes base size

  place_bytes : (f : Record) → In (length s) f → bytes_at bytes (place base f) ≡ inside s f
  place_bytes f l =
      let e = end_before (length s) f l in
      let from : f.start ≤ end_in f = e.0 in
      let to : end_in f ≤ length s = e.1 in
      let n : base + end_in f - (base + f.start) ≡ end_in f - f.start = omega arith in
      ap (λ (m : ℕ). part bytes (base + f.start) m) n ∙ sym (part_part bytes base size f.start (end_in f - f.start) (omega arith))

  pass_are : (number : ℕ) (rs : List Step) → AllIn (length s) rs → map (bytes_at bytes) (places_of number base rs) ≡ parts number (entries_of s rs)
  unfolding places_of entries_of parts field_of
  pass_are number [] h = refl
  pass_are number (End ∷ rs) h = refl
  pass_are number (Fault key ∷ rs) h = refl
  pass_are number (Found f ∷ rs) h =
      by_number bytes (eqb f.number number) (place base f) (places_of number base rs) (bytes_in (value_of s f)) (parts number (entries_of s rs))
      (place_bytes f h.0 ∙ inside_is s f) (pass_are number rs h.1)

pub places_are : (bytes : List ℕ) (number : ℕ) (p : Place) → map (bytes_at bytes) (places bytes number p) ≡ parts number (entries (bytes_at bytes p))
unfolding places entries
places_are bytes number p = pass_are bytes p.start (p.end - p.start) number (records (bytes_at bytes p) 0) (records_in (bytes_at bytes p) 0)

-- ---- the last of them
last_bytes : option.Option Bytes → List Bytes → option.Option Bytes
last_bytes d [] = d
last_bytes d (x ∷ xs) = last_bytes (option.some x) xs

seen : List ℕ → Option Place → option.Option Bytes
seen bytes q = choose (is_some q) (option.some (bytes_at bytes (lies q))) option.none

last_seen : (bytes : List ℕ) (ps : List Place) (q : Option Place) → seen bytes (last_or q ps) ≡ last_bytes (seen bytes q) (map (bytes_at bytes) ps)
unfolding seen last_bytes choose
last_seen bytes [] q = refl
last_seen bytes (p ∷ ps) q = last_seen bytes ps (Some p)

last_part : (n : ℕ) (fs : List Field) (v : option.Option Value) → decoded (last_from n fs v) ≡ last_bytes (decoded v) (parts n fs)
unfolding last_from parts last_bytes choose
last_part n [] v = refl
last_part n (f ∷ fs) v = by (eqb f.number n) (last_part n fs)
  where
    by : (b : Bool) → ((u : option.Option Value) → decoded (last_from n fs u) ≡ last_bytes (decoded u) (parts n fs))
        → decoded (last_from n fs (choose b (option.some f.value) v)) ≡ last_bytes (decoded v) (choose b (bytes_in f.value ∷ parts n fs) (parts n fs))
    by true rest = rest (option.some f.value)
    by false rest = rest v

last_is : (bytes : List ℕ) (number : ℕ) (p : Place) → seen bytes (last_place bytes number p) ≡ decoded (last number (entries (bytes_at bytes p)))
unfolding last_place seen choose
last_is bytes number p =
    last_seen bytes (places bytes number p) None
    ∙ ap (last_bytes option.none) (places_are bytes number p) ∙ sym (last_part number (entries (bytes_at bytes p)) option.none)

-- a name that is missing is empty
text_there : (bytes : List ℕ) (q : Option Place) → bytes_at bytes (lies q) ≡ text (seen bytes q)
unfolding seen choose
text_there bytes None = refl
text_there bytes (Some p) = refl

module _ (bytes : List ℕ) (p : Place) (file up : ℕ) (kind : Kind) where
  pub message_name : name_of bytes (declaration_row bytes file up kind p) ≡ text (decode_message (bytes_at bytes p)).name
  unfolding declaration_row decode_message
  message_name = text_there bytes (last_place bytes 1 p) ∙ ap text (last_is bytes 1 p)

  pub enum_name : name_of bytes (declaration_row bytes file up kind p) ≡ text (decode_enum (bytes_at bytes p)).name
  unfolding declaration_row decode_enum
  enum_name = text_there bytes (last_place bytes 1 p) ∙ ap text (last_is bytes 1 p)

pub package_is : (bytes : List ℕ) (p : Place) → choose (is_some (package_of bytes p)) (option.some (bytes_at bytes (lies (package_of bytes p)))) option.none ≡ (decode_file (bytes_at bytes p)).package_name
unfolding seen decode_file
package_is bytes p = last_is bytes 2 p
