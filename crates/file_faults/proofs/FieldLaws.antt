-- A map entry by how many fields it has, and the plain fields of a message by their numbers. Assumes nothing.
use Rattle.std.proofs.Common.{◌≡◌, ℕ, zero, suc, ◌+◌, Bool, true, false, ◌&&◌, ◌||◌, List, [], ◌∷◌, map, length, refl, ap, ◌∙◌, arith, add-one}
use lib.Dec.{leb}
use Rattle.std.specs.List.{range_with_len, list_any}
use Rattle.base.specs.Choose.{choose}
use Rattle.base.specs.Lists.{any}
use Rattle.descriptor.specs.Descriptor.{Bytes}
use Rattle.descriptor.specs.Decode.{decode_field}
use Rattle.text_tables.specs.Rows.{field_row, is_plain}
use Rattle.text_tables.specs.declared.FieldRow.{FieldRow}
use Rattle.members.specs.Members.{numbers_where}
use Rattle.code_generator.specs.MapFields.{entry_of}
use Rattle.code_generator.specs.Refusals.{is_given}

pub given_by_two : (ps : List Bytes) → leb 2 (length ps) ≡ is_given (entry_of (map decode_field ps))
given_by_two [] = refl
given_by_two (k ∷ []) = refl
given_by_two (k ∷ (v ∷ ps)) = search arith

-- a test of one more field, which may be plain
one_more : (test : ℕ → Bool) (k : ℕ) (others : List ℕ) (plain : Bool) → ((plain && test k) || any test others) ≡ any test (choose plain (k ∷ others) others)
unfolding any choose
one_more test k others true = refl
one_more test k others false = refl

-- a test of one of the plain fields of a range
pub plain_any : (t : List FieldRow) (test : ℕ → Bool) (n k : ℕ) → list_any (λ (j : ℕ). is_plain (field_row t j) && test j) (range_with_len k n) ≡ any test (numbers_where is_plain t n k)
unfolding any numbers_where
plain_any t test zero k = refl
plain_any t test (suc n) k =
    let e = plain_any t test n (k + 1) ∙ ap (λ (x : ℕ). any test (numbers_where is_plain t n x)) (add-one k) in
    ap (λ (x : Bool). (is_plain (field_row t k) && test k) || x) e ∙ one_more test k (numbers_where is_plain t n (suc k)) (is_plain (field_row t k))
