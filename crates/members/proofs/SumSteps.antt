-- The checksums of camel names, one record on; and that a name with another checksum meets none. Assumes nothing.
use Rattle.std.specs.Prelude.{◌≡◌, ℕ, Bool, true, false, ◌||◌, Option, Some, List, [], ◌∷◌, map}
use Rattle.std.proofs.Common.{sym, ap, ◌∙◌}
use Rattle.base.specs.Choose.{choose}
use Rattle.base.specs.Lists.{any}
use Rattle.base.specs.Tests.{or_false_left, or_false_right, or_false}
use Rattle.checksums.specs.Sums.{sum_of, holds}
use Rattle.checksums.specs.Lists.{pushed, all_pushed, may, all_pushed_append, denied}
use Rattle.checksums.specs.SumLaws.{absent, holds_append}
use Rattle.descriptor.specs.Descriptor.{Bytes}
use Rattle.descriptor.specs.Decode.{entries, parts}
use Rattle.members.specs.Members.{name_in, cut_camel, meets_part, conflict, part_sums, camel_sums}

abbrev pub sum_in : Bytes → ℕ
sum_in q = sum_of (cut_camel (name_in q))

-- ---- the sums of the parts that are left, behind the list o
module _ (o : Option (List ℕ)) {qs : List Bytes} where
  pub sums_from : (number : ℕ) (p : Bytes) → qs ≡ parts number (entries p) → all_pushed 512 o (map sum_in qs) ≡ all_pushed 512 o (part_sums number p)
  unfolding part_sums
  sums_from number p e = ap (λ (l : List Bytes). all_pushed 512 o (map sum_in l)) e

  pub sums_on : {q : Bytes} {rest : List Bytes} {all : Option (List ℕ)} → all_pushed 512 o (map sum_in qs) ≡ all → qs ≡ q ∷ rest
      → {name : Bytes} {x : ℕ} {o' : Option (List ℕ)} → name ≡ name_in q → x ≡ sum_of (cut_camel name) → o' ≡ pushed 512 o x → all_pushed 512 o' (map sum_in rest) ≡ all
  unfolding all_pushed
  sums_on {q} {rest} h first {name} {x} {o'} named sum push =
      let x_is : x ≡ sum_in q = sum ∙ ap (λ (l : List ℕ). sum_of (cut_camel l)) named in
      ap (λ (u : Option (List ℕ)). all_pushed 512 u (map sum_in rest)) (push ∙ ap (pushed 512 o) x_is)
      ∙ ap (λ (l : List Bytes). all_pushed 512 o (map sum_in l)) (sym first)
      ∙ h

  pub sums_end : {all : Option (List ℕ)} → all_pushed 512 o (map sum_in qs) ≡ all → qs ≡ [] → o ≡ all
  unfolding all_pushed
  sums_end h none = ap (λ (l : List Bytes). all_pushed 512 o (map sum_in l)) (sym none) ∙ h

-- ---- those of the enums behind those of the messages, where they are read
module _ (o : Option (List ℕ)) {o₁ o₂ : Option (List ℕ)} (deeper : Bool) (p : Bytes) (enums : o₂ ≡ all_pushed 512 o₁ (part_sums 4 p)) where
  pub sums_of_both : deeper ≡ true → o₁ ≡ all_pushed 512 o (part_sums 3 p) → o₂ ≡ all_pushed 512 o (camel_sums deeper p)
  unfolding camel_sums choose
  sums_of_both is messages = rw is (enums ∙ ap (λ (u : Option (List ℕ)). all_pushed 512 u (part_sums 4 p)) messages ∙ all_pushed_append 512 o (part_sums 3 p) (part_sums 4 p))

  pub sums_of_enums : deeper ≡ false → o₁ ≡ o → o₂ ≡ all_pushed 512 o (camel_sums deeper p)
  unfolding camel_sums choose
  sums_of_enums is none = rw is (enums ∙ ap (λ (u : Option (List ℕ)). all_pushed 512 u (part_sums 4 p)) none)

-- ---- a name that meets none
module _ (p name : Bytes) where
  none_of : (number : ℕ) → holds (sum_of (cut_camel name)) (part_sums number p) ≡ false → any (meets_part name) (parts number (entries p)) ≡ false
  unfolding part_sums meets_part
  none_of number h = absent (λ (q : Bytes). cut_camel (name_in q)) (cut_camel name) (parts number (entries p)) h

  meets_none : (deeper : Bool) → holds (sum_of (cut_camel name)) (camel_sums deeper p) ≡ false → false ≡ conflict deeper p name
  unfolding camel_sums conflict choose
  meets_none false h = sym (none_of 4 h)
  meets_none true h =
      let both : (holds (sum_of (cut_camel name)) (part_sums 3 p) || holds (sum_of (cut_camel name)) (part_sums 4 p)) ≡ false = sym (holds_append _ (part_sums 3 p) (part_sums 4 p)) ∙ h in
      sym
      (or_false (none_of 3 (or_false_left (holds (sum_of (cut_camel name)) (part_sums 3 p)) _ both)) (none_of 4 (or_false_right (holds (sum_of (cut_camel name)) (part_sums 3 p)) _ both)))

  pub conflict_none : (deeper : Bool) {o : Option (List ℕ)} {x : ℕ} {r : Bool} → o ≡ all_pushed 512 (Some []) (camel_sums deeper p) → x ≡ sum_of (cut_camel name) → r ≡ may (holds x) o → r ≡ false
      → false ≡ conflict deeper p name
  conflict_none deeper {o} {x} sums sum asked is_false =
      meets_none deeper
      (ap (λ (y : ℕ). holds y (camel_sums deeper p)) (sym sum)
      ∙ denied (holds x) 512 [] (camel_sums deeper p) (ap (may (holds x)) (sym sums) ∙ sym asked ∙ is_false))
