-- What is asked of the rows in a range, by the numbers in it. Assumes nothing.
use Rattle.std.proofs.Common.{◌≡◌, refl, ap, ◌∙◌, ℕ, zero, suc, Bool, true, false, ◌||◌, ◌&&◌, not, List, [], ◌∷◌, take, drop}
use Rattle.std.specs.List.{list_any, list_all}
use Rattle.base.specs.Choose.{choose}
use Rattle.base.specs.Lists.{is_empty, all}
use Rattle.text_tables.specs.Rows.{field_row, no_field, is_plain, is_in, in_none, in_one}
use Rattle.text_tables.specs.declared.FieldRow.{FieldRow}
use Rattle.members.specs.Members.{numbers_where, in_oneofs}

-- a test that fails for what is past the table's end
module _ (p : FieldRow → Bool) (none : p no_field ≡ false) where
  past : (n k : ℕ) → list_any p (take n (drop k [])) ≡ false
  past zero k = refl
  past (suc n) zero = refl
  past (suc n) (suc k) = refl

  any_row : (t : List FieldRow) (n k : ℕ) → list_any p (take (suc n) (drop k t)) ≡ (p (field_row t k) || list_any p (take n (drop (suc k) t)))
  any_row [] n k = past (suc n) k ∙ rw (none, past n (suc k))
  any_row (row ∷ t) n zero = refl
  any_row (row ∷ t) n (suc k) = any_row t n k

  module _ (t : List FieldRow) where
    some_row : (n k : ℕ) → list_any p (take n (drop k t)) ≡ not (is_empty (numbers_where p t n k))
    unfolding numbers_where choose
    some_row zero k = refl
    some_row (suc n) k = any_row t n k ∙ go (p (field_row t k)) (some_row n (suc k))
      where
        go : (member : Bool) {rest : Bool} → rest ≡ not (is_empty (numbers_where p t n (suc k))) → (member || rest) ≡ not (is_empty (choose member (k ∷ numbers_where p t n (suc k)) (numbers_where p t n (suc k))))
        go true e = refl
        go false e = e

-- and another test of those that pass it
module _ (p : FieldRow → Bool) (none : p no_field ≡ false) (q : FieldRow → Bool) where
  past_all : (n k : ℕ) → list_all (λ row. not (p row) || q row) (take n (drop k [])) ≡ true
  past_all zero k = refl
  past_all (suc n) zero = refl
  past_all (suc n) (suc k) = refl

  all_row : (t : List FieldRow) (n k : ℕ) → list_all (λ row. not (p row) || q row) (take (suc n) (drop k t)) ≡ ((not (p (field_row t k)) || q (field_row t k)) && list_all (λ row. not (p row) || q row) (take n (drop (suc k) t)))
  all_row [] n k = past_all (suc n) k ∙ rw (none, past_all n (suc k))
  all_row (row ∷ t) n zero = refl
  all_row (row ∷ t) n (suc k) = all_row t n k

  module _ (t : List FieldRow) where
    each_row : (n k : ℕ) → list_all (λ row. not (p row) || q row) (take n (drop k t)) ≡ all (λ (j : ℕ). q (field_row t j)) (numbers_where p t n k)
    unfolding numbers_where choose all
    each_row zero k = refl
    each_row (suc n) k = all_row t n k ∙ go (p (field_row t k)) (each_row n (suc k))
      where
        go : (member : Bool) {rest : Bool} → rest ≡ all (λ (j : ℕ). q (field_row t j)) (numbers_where p t n (suc k)) → ((not member || q (field_row t k)) && rest) ≡ all (λ (j : ℕ). q (field_row t j)) (choose member (k ∷ numbers_where p t n (suc k)) (numbers_where p t n (suc k)))
        go true e = ap (λ (u : Bool). q (field_row t k) && u) e
        go false e = e

-- is one of them in a oneof?
pub some_in : (t : List FieldRow) (n k : ℕ) → list_any (λ row. not (is_plain row)) (take n (drop k t)) ≡ in_oneofs t n k
unfolding in_oneofs in_none
some_in t zero k = refl
some_in t (suc n) k = any_row (λ row. not (is_plain row)) refl t n k ∙ ap (λ (u : Bool). not (is_plain (field_row t k)) || u) (some_in t n (suc k))

-- in the one with the index?
pub some_with : (x : ℕ) (t : List FieldRow) (n k : ℕ) → list_any (is_in x) (take n (drop k t)) ≡ not (is_empty (numbers_where (is_in x) t n k))
unfolding in_one
some_with x = some_row (is_in x) refl

-- does a test hold of all that are in it?
pub all_with : (x : ℕ) (q : FieldRow → Bool) (t : List FieldRow) (n k : ℕ) → list_all (λ row. not (is_in x row) || q row) (take n (drop k t)) ≡ all (λ (j : ℕ). q (field_row t j)) (numbers_where (is_in x) t n k)
unfolding in_one
all_with x = each_row (is_in x) refl
