-- What a lent buffer holds, and how long the text is that was written into it: the bytes that lie past the buffer's end are counted too.
-- Assumes nothing.
use Rattle.std.specs.Prelude.{◌≡◌, ℕ, ◌+◌, ◌-◌, ◌^◌, min, Bool, if◌then◌else◌, List, length, take}
use Rattle.std.proofs.lemmas.List.Edits.{sets}

pub record Draft : Type 0 where
  pub buffer : List ℕ
  pub length : ℕ

abbrev pub draft : List ℕ → ℕ → Draft
draft t n = record { buffer = t; length = n }

-- a text that comes to this length stays there: no buffer is so long
abbrev pub most : ℕ
most = 2 ^ 64 - 1

-- the length with n bytes more, which stops there
abbrev pub longer : ℕ → ℕ → ℕ
longer a n = a + min n (most - a)

-- the draft with the bytes p behind what is written, those past the buffer's end left out
unfoldable pub extended : Draft → List ℕ → Draft
extended d p = draft (sets d.buffer d.length (take (most - d.length) p)) (longer d.length (length p))

-- the draft with p behind what is written, where the test holds
abbrev pub extended_if : Bool → Draft → List ℕ → Draft
extended_if c d p = if c then extended d p else d

-- the draft with n bytes more behind what is written, which stand in its buffer already
abbrev pub skipped : Draft → ℕ → Draft
skipped d n = draft d.buffer (longer d.length n)

-- p was written into a buffer from its start on, as far as it goes, and n is the length of p
pub record Filled (old p new : List ℕ) (n : ℕ) : Type 0 where
  pub is : draft new n ≡ extended (draft old 0) p
