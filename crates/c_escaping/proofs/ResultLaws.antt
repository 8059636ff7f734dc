-- What a text gives from a place on is its first byte, and what it gives from the place behind that on.
use Rattle.std.proofs.Common.{◌≡◌, ℕ, ◌<◌, ◌≤◌, List, [], ◌∷◌, length, Result, Ok, Err, refl, sym, ap, arith, le-leb}
use Rattle.std.specs.Prelude.{is_ok}
use Rattle.std.specs.List.{list_all}
use Rattle.std.proofs.Math.Decide.{dec_lt}
use Rattle.base.specs.Choose.{choose}
use Rattle.base.specs.Steps.{Run, ended, broken, ◌then◌, whole, items}
use Rattle.c_escaping.specs.Unescape.{Byte, Fault, unescape_at, unescape_from}
use Rattle.c_escaping.specs.Unescaping.{unescape_end, unescape_fault, unescape_next}
use Rattle.c_escaping.specs.Results.{results}
use Rattle.c_escaping.specs.declared.bytes.BadEscape.{BadEscape}

pub no_bytes : (s : List ℕ) (i : ℕ) → length s ≤ i → results (unescape_from s i) ≡ []
no_bytes s i h = ap results (unescape_end s i h)

pub first_bad : (s : List ℕ) (i : ℕ) → i < length s → unescape_at s i ≡ Fault → results (unescape_from s i) ≡ Err (record {}) ∷ []
first_bad s i h e = ap results (unescape_fault s i h Fault (sym e) refl)

past : (s : List ℕ) (i : ℕ) → length s ≤ i → unescape_at s i ≡ Fault
unfolding unescape_at choose
past s i h = rw (le-leb (length s) i h)

pub first_byte : (s : List ℕ) (i x next : ℕ) → unescape_at s i ≡ Byte x next → results (unescape_from s i) ≡ Ok x ∷ results (unescape_from s next)
first_byte s i x next e = go (dec_lt i (length s))
  where
    go : Dec (i < length s) → results (unescape_from s i) ≡ Ok x ∷ results (unescape_from s next)
    go (yes h) = ap results (unescape_next s i h (Byte x next) (sym e) x next refl)
    go (no h) = let f : unescape_at s i ≡ Fault = past s i (omega arith) in cc

pub ruleset laws = (no_bytes, first_bad, first_byte)

-- whether a text unescapes, and its bytes, by what it gives
pub all_ok : (r : Run) → list_all is_ok (results r) ≡ whole r
all_ok ended = refl
all_ok broken = refl
all_ok (x then r) = all_ok r

-- the values before the first error
abbrev pub before_error : List (Result ℕ BadEscape) → List ℕ
before_error [] = []
before_error (Ok x ∷ rs) = x ∷ before_error rs
before_error (Err e ∷ rs) = []

pub before_error-results : (r : Run) → before_error (results r) ≡ items r
before_error-results ended = refl
before_error-results broken = refl
before_error-results (x then r) = ap (λ (l : List ℕ). x ∷ l) (before_error-results r)
