-- Tables that hold nothing; and without a row of kind 4 no field has a boxed setting. Assumes nothing.
use mathlib.Core.Path.{◌≡◌, refl, sym, ap}
use mathlib.Core.Bool.{Bool, true, false, ◌&&◌, ◌||◌}
use mathlib.Core.List.{List, [], ◌∷◌, ◌++◌}
use Prim.Native.Nat.{ℕ, zero, suc, ◌+◌}
use lib.ListN.{length, length-replicate, set, replicate}
use Rattle.base.specs.Choose.{choose}
use Rattle.writer.specs.Wrote.{over}
use Rattle.descriptor.specs.Descriptor.{Bytes}
use Rattle.std.specs.List.{list_any}
use Rattle.base.specs.Bytes.{same}
use Rattle.options.specs.Settings.{Setting}
use Rattle.options.specs.Rows.{is_of}
use Rattle.options.specs.Found.{Found}
use Rattle.text_tables.specs.Rows.{no_field}
use Rattle.text_tables.specs.declared.FieldRow.{FieldRow}
use Rattle.path.specs.Forms.{sub_path_iter}
use Rattle.path.specs.PathMap.{first_with, find_best}
use Rattle.walks.specs.Walked.{walked}
use Rattle.boxed_settings.specs.Flags.{flag, field_flag, field_flags, stay, messages_flags, file_flags, set_flags}
use Rattle.set_tables.specs.Filled.{most_fields, zeros, setting_bytes, field_rows_in, field_rows}

pub zeros_length : (n : ℕ) → length (zeros n) ≡ n
unfolding zeros
zeros_length n = length-replicate {A = ℕ} n 0

-- an array of rows that hold nothing is such a table
pub fresh_zeros : (n : ℕ) → replicate n no_field ≡ replicate (length (replicate n no_field)) no_field
fresh_zeros n = ap (λ (m : ℕ). replicate m no_field) (sym (length-replicate n no_field))

-- a table whose rows held nothing has them behind those of the fields
pub held_zeros : (n : ℕ) (t : List FieldRow) (set : List ℕ) (rs : List Setting) → t ≡ replicate n no_field → field_rows_in t set rs ≡ field_rows n set rs
unfolding field_rows
held_zeros n t set rs is = ap (λ (l : List FieldRow). field_rows_in l set rs) is

-- ---- a text of zeros

data Blank : List ℕ → Type 0 where
  none : Blank []
  more : {l : List ℕ} → Blank l → Blank (0 ∷ l)

infixl 20 ◌then◌
◌then◌ : {a b : List ℕ} → Blank a → Blank b → Blank (a ++ b)
none then q = q
more p then q = more (p then q)

set_zero : (n i : ℕ) → set (zeros n) i 0 ≡ zeros n
unfolding zeros
set_zero zero i = refl
set_zero (suc n) zero = refl
set_zero (suc n) (suc i) = ap (λ (l : List ℕ). 0 ∷ l) (set_zero n i)

blank_over : (n i : ℕ) {l : List ℕ} → Blank l → over (zeros n) i l ≡ zeros n
unfolding over
blank_over n i none = refl
blank_over n i (more p) = rw (set_zero n i) (blank_over n (suc i) p)

blank_walked : (g : ℕ → Bytes → Bytes) (next : ℕ → Bytes → ℕ) → ((x : ℕ) (p : Bytes) → Blank (g x p)) → (x : ℕ) (ps : List Bytes) → Blank (walked g next x ps)
unfolding walked
blank_walked g next each x [] = none
blank_walked g next each x (p ∷ ps) = each x p then blank_walked g next each (next x p) ps

-- ---- without a row of the kind

passed_over : (x y u : Bool) (a b : Found) → (x || u) ≡ false → (u ≡ false → b.found ≡ false) → (choose (x && y) a b).found ≡ false
unfolding choose
passed_over true y u a b h go_on = cc
passed_over false y u a b h go_on = go_on h

none_with : (kind : ℕ) (form : Bytes) (i : ℕ) (rs : List Setting) → list_any (is_of kind) rs ≡ false → (first_with kind form i rs).found ≡ false
unfolding first_with
none_with kind form i [] h = refl
none_with kind form i (r ∷ rs) h = passed_over (is_of kind r) (same r.path form) (list_any (is_of kind) rs) _ _ h (none_with kind form (i + 1) rs)

none_best : (kind : ℕ) (forms : List Bytes) (rs : List Setting) → list_any (is_of kind) rs ≡ false → (find_best kind forms 0 rs).found ≡ false
unfolding find_best choose
none_best kind [] rs h = refl
none_best kind (f ∷ fs) rs h = rw (none_with kind f 0 rs h) (none_best kind fs rs h)

module _ (rs : List Setting) (unset : list_any (is_of 4) rs ≡ false) where
  field_blank : (full : Bytes) (x : ℕ) (p : Bytes) → Blank (field_flag rs full x p)
  unfolding field_flag flag choose
  field_blank full x p = rw (none_best 4 (sub_path_iter _) rs unset) (more none)

  fields_blank : (full p : Bytes) → Blank (field_flags rs full p)
  unfolding field_flags
  fields_blank full p = blank_walked (field_flag rs full) stay (field_blank full) 0 _

  messages_blank : (k : ℕ) (scope : Bytes) (ps : List Bytes) → Blank (messages_flags k rs scope ps)
  unfolding messages_flags
  messages_blank zero scope ps = none
  messages_blank (suc k) scope ps = blank_walked _ stay (λ x p. fields_blank _ p then messages_blank k _ _) 0 ps

  set_blank : (set : Bytes) → Blank (set_flags rs set)
  unfolding set_flags file_flags
  set_blank set = blank_walked (file_flags rs) stay (λ x p. messages_blank 16 _ _) 0 _

pub unset_bytes : (set : Bytes) (rs : List Setting) → list_any (is_of 4) rs ≡ false → zeros (most_fields set) ≡ setting_bytes set rs
unfolding setting_bytes
unset_bytes set rs unset = sym (blank_over (most_fields set) 0 (set_blank rs unset set))
