-- The tally of a set by its embedded messages: files, messages, and what they hold. Assumes nothing.
use mathlib.Core.Path.{◌≡◌, refl, sym, ap, ap₂, ◌∙◌}
use mathlib.Core.Bool.{Bool, true, false}
use mathlib.Core.List.{List, [], ◌∷◌}
use Prim.Native.Nat.{ℕ, zero, suc, ◌+◌}
use native.Mathlib.Omega.{arith}
use lib.Dec.{eqb}
use borrow.Author.Tests.{eqb-true}
use Rattle.std.specs.Prelude.{Option, Some, None}
use Rattle.base.specs.Choose.{choose, choose_case, else_lt}
use Rattle.wire.specs.Encoding.{Field}
use Rattle.descriptor.specs.Descriptor.{Bytes}
use Rattle.descriptor.specs.Decode.{entries, bytes_in, parts}
use Rattle.limits.specs.declared.limit.Limit.{Limit}
use Rattle.limits.specs.declared.sort.Sort.{Sort}
use Rattle.limits.specs.declared.sort.Sort.TheVariants as sorts
use Rattle.limits.specs.Sums.{sum, bit}
use Rattle.limits.specs.Weights.{text_length, message_below, sort_below, counts, around_below, holds_none, weight, field_weight, tally}
use Rattle.limits.proofs.SumLaws.{sum_same, sum_plus}
use Rattle.limits.proofs.TallyLaws.{tally_none}

-- ---- a sum over fields by their numbers
abbrev pub at_number : ℕ → (Bytes → ℕ) → Field → ℕ
at_number n w f = choose (eqb f.number n) (w (bytes_in f.value)) 0

one_part : (t : Bool) (w : Bytes → ℕ) (b : Bytes) (ps : List Bytes) (k : ℕ) → k ≡ sum w ps → choose t (w b) 0 + k ≡ sum w (choose t (b ∷ ps) ps)
unfolding sum choose
one_part true w b ps k h = omega arith
one_part false w b ps k h = omega arith

pub sum_parts : (n : ℕ) (w : Bytes → ℕ) (fs : List Field) → sum (at_number n w) fs ≡ sum w (parts n fs)
unfolding sum parts
sum_parts n w [] = refl
sum_parts n w (f ∷ fs) = one_part (eqb f.number n) w (bytes_in f.value) (parts n fs) (sum (at_number n w) fs) (sum_parts n w fs)

-- g gives what a declaration of a sort counts, and 0 where there is none
module _ (g : Option Sort → Bytes → ℕ) (no_sort : (p : Bytes) → g None p ≡ 0) (left : ℕ) where
  set_field : (f : Field) → g (sort_below sorts.Set left f.number) (bytes_in f.value) ≡ at_number 1 (g (Some sorts.File)) f
  unfolding sort_below choose
  set_field f =
      let b : Bytes = bytes_in f.value in
      let none = no_sort b in
      choose_case (λ (sort : Option Sort). g sort b ≡ at_number 1 (g (Some sorts.File)) f) (eqb f.number 1) (λ e. rw e) (λ e. rw (e, none))

  file_field : (f : Field) → g (sort_below sorts.File left f.number) (bytes_in f.value) ≡ at_number 4 (g (Some (message_below left))) f + at_number 5 (g (Some sorts.Enum)) f
  unfolding sort_below choose
  file_field f =
      let b : Bytes = bytes_in f.value in
      let none = no_sort b in
      let P : Option Sort → Type 0 = λ sort. g sort b ≡ at_number 4 (g (Some (message_below left))) f + at_number 5 (g (Some sorts.Enum)) f in
      choose_case P (eqb f.number 4) (λ e. rw (eqb-true f.number 4 e) (omega arith))
      (λ e. choose_case P (eqb f.number 5) (λ h. rw (eqb-true f.number 5 h) (omega arith)) (λ h. rw (e, h, none)))

  message_field : (f : Field) → g (sort_below sorts.Message left f.number) (bytes_in f.value)
      ≡ at_number 2 (g (Some sorts.Field)) f + (at_number 3 (g (Some (message_below left))) f + (at_number 4 (g (Some sorts.Enum)) f + at_number 8 (g (Some sorts.Oneof)) f))
  unfolding sort_below choose
  message_field f =
      let b : Bytes = bytes_in f.value in
      let none = no_sort b in
      let P : Option Sort → Type 0 = λ sort. g sort b ≡ at_number 2 (g (Some sorts.Field)) f + (at_number 3 (g (Some (message_below left))) f + (at_number 4 (g (Some sorts.Enum)) f + at_number 8 (g (Some sorts.Oneof)) f)) in
      choose_case P (eqb f.number 2) (λ e. rw (eqb-true f.number 2 e) (omega arith))
      (λ a. choose_case P (eqb f.number 3) (λ e. rw (eqb-true f.number 3 e) (omega arith))
      (λ c. choose_case P (eqb f.number 4) (λ e. rw (eqb-true f.number 4 e) (omega arith))
      (λ d. choose_case P (eqb f.number 8) (λ e. rw (eqb-true f.number 8 e) (omega arith)) (λ h. rw (a, c, d, h, none)))))

  enum_field : (f : Field) → g (sort_below sorts.Enum left f.number) (bytes_in f.value) ≡ at_number 2 (g (Some sorts.Value)) f
  unfolding sort_below choose
  enum_field f =
      let b : Bytes = bytes_in f.value in
      let none = no_sort b in
      choose_case (λ (sort : Option Sort). g sort b ≡ at_number 2 (g (Some sorts.Value)) f) (eqb f.number 2) (λ e. rw e) (λ e. rw (e, none))

-- ---- one limit: a message's bytes with levels left
module _ (limit : Limit) where
  no_weight : (k around : ℕ) (p : Bytes) → weight limit (tally limit k) None around p ≡ 0
  unfolding weight
  no_weight k around p = refl

  leaf_weight : (k : ℕ) (sort : Sort) (around : ℕ) (p : Bytes) → holds_none sort ≡ true → weight limit (tally limit k) (Some sort) around p ≡ bit (counts limit sort around p)
  unfolding weight
  leaf_weight k sort around p h = let z = tally_none limit k sort (around_below sort around p) p h in omega arith

  abbrev weigh : ℕ → Sort → ℕ → Bytes → ℕ
  weigh k sort around = weight limit (tally limit k) (Some sort) around

  -- an enum, with its values
  abbrev pub enum_weight : ℕ → Bytes → ℕ
  enum_weight around p = bit (counts limit sorts.Enum around p) + sum (λ v. bit (counts limit sorts.Value 0 v)) (parts 2 (entries p))

  enum_weighed : (k around : ℕ) (p : Bytes) → weigh (suc k) sorts.Enum around p ≡ enum_weight around p
  unfolding weight tally around_below choose holds_none
  enum_weighed k around p =
      ap (λ (n : ℕ). bit (counts limit sorts.Enum around p) + n)
      (sum_same _ (at_number 2 (weigh k sorts.Value 0)) (enum_field (λ sort. weight limit (tally limit k) sort 0) (no_weight k 0) (suc k)) (entries p)
      ∙ sum_parts 2 (weigh k sorts.Value 0) (entries p)
      ∙ sum_same (weigh k sorts.Value 0) (λ v. bit (counts limit sorts.Value 0 v)) (λ v. leaf_weight k sorts.Value 0 v refl) (parts 2 (entries p)))

  -- the fields, enums and oneofs of a message, whose full name has a length
  abbrev pub member_weight : ℕ → Bytes → ℕ
  member_weight name p =
      sum (λ f. bit (counts limit sorts.Field name f)) (parts 2 (entries p))
      + (sum (enum_weight name) (parts 4 (entries p)) + sum (λ o. bit (counts limit sorts.Oneof name o)) (parts 8 (entries p)))

  -- messages, with what they hold, in so many levels
  unfoldable pub messages_weight : ℕ → ℕ → List Bytes → ℕ
  messages_weight zero around ps = sum (λ p. bit (counts limit sorts.DeepMessage around p)) ps
  messages_weight (suc n) around ps =
      sum
      (λ p. bit (counts limit sorts.Message around p)
      + (member_weight (around + 1 + text_length 1 p) p + messages_weight n (around + 1 + text_length 1 p) (parts 3 (entries p))))
      ps

  message_split : (k name : ℕ) (p : Bytes) → tally limit (suc k) sorts.Message name p
      ≡ sum (weigh k sorts.Field name) (parts 2 (entries p))
      + (sum (weigh k (message_below (suc k)) name) (parts 3 (entries p)) + (sum (weigh k sorts.Enum name) (parts 4 (entries p)) + sum (weigh k sorts.Oneof name) (parts 8 (entries p))))
  unfolding tally
  message_split k name p =
      let fs : List Field = entries p in
      let A : Field → ℕ = at_number 2 (weigh k sorts.Field name) in
      let B : Field → ℕ = at_number 3 (weigh k (message_below (suc k)) name) in
      let C : Field → ℕ = at_number 4 (weigh k sorts.Enum name) in
      let D : Field → ℕ = at_number 8 (weigh k sorts.Oneof name) in
      sum_same (field_weight limit (tally limit k) (suc k) sorts.Message name) (λ f. A f + (B f + (C f + D f))) (message_field (λ sort. weight limit (tally limit k) sort name) (no_weight k name) (suc k)) fs
      ∙ sum_plus A (λ f. B f + (C f + D f)) fs
      ∙ ap₂ (λ (x y : ℕ). x + y) (sum_parts 2 (weigh k sorts.Field name) fs)
      (sum_plus B (λ f. C f + D f) fs
      ∙ ap₂ (λ (x y : ℕ). x + y) (sum_parts 3 (weigh k (message_below (suc k)) name) fs)
      (sum_plus C D fs ∙ ap₂ (λ (x y : ℕ). x + y) (sum_parts 4 (weigh k sorts.Enum name) fs) (sum_parts 8 (weigh k sorts.Oneof name) fs)))

  -- leaves of a sort, added up
  leaves : (k : ℕ) (sort : Sort) (around : ℕ) → holds_none sort ≡ true → (ps : List Bytes) → sum (weigh k sort around) ps ≡ sum (λ p. bit (counts limit sort around p)) ps
  leaves k sort around h = sum_same (weigh k sort around) (λ p. bit (counts limit sort around p)) (λ p. leaf_weight k sort around p h)

  enums : (k around : ℕ) (ps : List Bytes) → sum (weigh (suc k) sorts.Enum around) ps ≡ sum (enum_weight around) ps
  enums k around = sum_same (weigh (suc k) sorts.Enum around) (enum_weight around) (enum_weighed k around)

  message_weighed : (m around : ℕ) → ((name : ℕ) (ps : List Bytes) → sum (weigh (suc m) (message_below (suc (suc m))) name) ps ≡ messages_weight m name ps)
      → (p : Bytes) → weigh (suc (suc m)) sorts.Message around p
      ≡ bit (counts limit sorts.Message around p) + (member_weight (around + 1 + text_length 1 p) p + messages_weight m (around + 1 + text_length 1 p) (parts 3 (entries p)))
  unfolding weight around_below choose holds_none
  message_weighed m around nested p =
      let name : ℕ = around + 1 + text_length 1 p in
      let all = message_split (suc m) name p in
      let a = leaves (suc m) sorts.Field name refl (parts 2 (entries p)) in
      let b = nested name (parts 3 (entries p)) in
      let c = enums m name (parts 4 (entries p)) in
      let d = leaves (suc m) sorts.Oneof name refl (parts 8 (entries p)) in
      omega arith

  level : (m : ℕ) → message_below (suc (suc (suc m))) ≡ sorts.Message
  unfolding message_below
  level m = sym (else_lt _ _ sorts.Message (suc (suc (suc m))) 3 (omega arith) refl)

  messages_weighed : (n around : ℕ) (ps : List Bytes) → sum (weigh (suc n) (message_below (suc (suc n))) around) ps ≡ messages_weight n around ps
  unfolding messages_weight message_below choose holds_none
  messages_weighed zero around ps = leaves 1 sorts.DeepMessage around refl ps
  messages_weighed (suc m) around ps =
      ap (λ (sort : Sort). sum (weigh (suc (suc m)) sort around) ps) (level m) ∙ sum_same (weigh (suc (suc m)) sorts.Message around) _ (message_weighed m around (messages_weighed m)) ps

  -- a file's messages and enums, with the full name of its package around them
  abbrev pub file_weight : ℕ → ℕ → Bytes → ℕ
  file_weight n name p = messages_weight n name (parts 4 (entries p)) + sum (enum_weight name) (parts 5 (entries p))

  file_weighed : (n name : ℕ) (p : Bytes) → tally limit (suc (suc n)) sorts.File name p ≡ file_weight n name p
  unfolding tally
  file_weighed n name p =
      let k : ℕ = suc n in
      let A : Field → ℕ = at_number 4 (weigh k (message_below (suc k)) name) in
      let B : Field → ℕ = at_number 5 (weigh k sorts.Enum name) in
      sum_same (field_weight limit (tally limit k) (suc k) sorts.File name) (λ f. A f + B f) (file_field (λ sort. weight limit (tally limit k) sort name) (no_weight k name) (suc k)) (entries p)
      ∙ sum_plus A B (entries p)
      ∙ ap₂ (λ (x y : ℕ). x + y) (sum_parts 4 (weigh k (message_below (suc k)) name) (entries p) ∙ messages_weighed n name (parts 4 (entries p)))
      (sum_parts 5 (weigh k sorts.Enum name) (entries p) ∙ enums n name (parts 5 (entries p)))

  pub set_weighed : (n : ℕ) (s : Bytes) → tally limit (suc (suc (suc n))) sorts.Set 0 s
      ≡ sum (λ p. bit (counts limit sorts.File 0 p) + file_weight n (around_below sorts.File 0 p) p) (parts 1 (entries s))
  unfolding tally weight choose
  set_weighed n s =
      let k : ℕ = suc (suc n) in
      sum_same (field_weight limit (tally limit k) (suc k) sorts.Set 0) (at_number 1 (weigh k sorts.File 0)) (set_field (λ sort. weight limit (tally limit k) sort 0) (no_weight k 0) (suc k)) (entries s)
      ∙ sum_parts 1 (weigh k sorts.File 0) (entries s)
      ∙ sum_same (weigh k sorts.File 0) _ (λ p. ap (λ (x : ℕ). bit (counts limit sorts.File 0 p) + x) (file_weighed n (around_below sorts.File 0 p) p)) (parts 1 (entries s))
