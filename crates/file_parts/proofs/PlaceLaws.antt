-- A file's part by its index, the number behind some messages, and a file's first message's number. Assumes nothing.
use mathlib.Core.Path.{◌≡◌, refl, sym, ap}
use mathlib.Core.List.{List, [], ◌∷◌}
use Prim.Native.Nat.{ℕ, zero, suc, ◌+◌, ◌<◌}
use native.Mathlib.Omega.{arith}
use Rattle.std.proofs.Common.{add-one}
use Rattle.std.specs.Prelude.{slice_get}
use Rattle.std.specs.Option.{unwrap_or}
use Rattle.text_tables.specs.Rows.{message_row}
use Rattle.text_tables.specs.declared.MessageRow.{MessageRow}
use Rattle.file_parts.specs.FileParts.{part_at, behind, first_number}

pub part_is : (ps : List (List ℕ)) (x : ℕ) → part_at ps x ≡ unwrap_or (slice_get ps x) []
unfolding part_at
part_is [] x = refl
part_is (p ∷ ps) zero = refl
part_is (p ∷ ps) (suc x) = part_is ps x

-- behind one message more
one_more : (t : List MessageRow) (n i : ℕ) → behind t (suc n) i ≡ (message_row t (behind t n i)).after
unfolding behind
one_more t zero i = refl
one_more t (suc n) i = one_more t n (message_row t i).after

pub behind_more : (t : List MessageRow) (n i : ℕ) → behind t (n + 1) i ≡ (message_row t (behind t n i)).after
behind_more t n i = rw add-one (one_more t n i)

-- where no file is left to pass over, or none is there
pub number_end : (t : List MessageRow) (i : ℕ) (ps : List (List ℕ)) (n : ℕ) → (0 < n → ps ≡ []) → i ≡ first_number t i ps n
unfolding first_number
number_end t i [] n h = refl
number_end t i (p ∷ ps) zero h = refl
number_end t i (p ∷ ps) (suc n) h = ap (λ (l : List (List ℕ)). first_number t i l (suc n)) (sym (h (omega arith)))
