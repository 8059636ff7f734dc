-- Kinds by their numbers, and what the check of the layout asks of them.
use Rattle.std.proofs.Common.{◌≡◌, refl, sym, ap, ◌∙◌, ℕ, zero, suc, ◌+◌, ◌≤◌, ◌<◌, Bool, true, false, ◌||◌, ◌&&◌, List, [], ◌∷◌, take, arith, nat_eq, nat_le, Result, Ok, add-zero, cond, eqb-true}
use Rattle.options.specs.declared.kind.UnknownKind.{UnknownKind}
use Rattle.std.specs.List.{list_any, list_all}
use Rattle.std.proofs.Math.Bool.{or-false}
use Rattle.options.specs.declared.kind.Kind.{Kind}
use Rattle.options.specs.declared.kind.Kind.TheVariants.{ExternPath, Bytes, BtreeMap, Boxed, TypeAttribute, FieldAttribute, MessageAttribute, EnumAttribute, SkipDebug, ProstPath, RetainEnumPrefix, ProstTypes}
use Rattle.options.specs.Kinds.{sort_of, has_path, has_value, is_kind}
use Rattle.options.specs.Kind.{kind_number, kind_of, unknown}
use Rattle.options.specs.Rows.{is_of}
use Rattle.options.specs.Settings.{row_count, kind_at, path_length, value_length, bodies, settings_from, settings}
use Rattle.options.specs.Layout.{kind_before, printable}

pub kind_unknown : (n : ℕ) → kind_of n ≡ unknown → is_kind n ≡ false
unfolding kind_of is_kind has_path has_value sort_of
kind_unknown zero h = refl
kind_unknown (suc zero) h = cc
kind_unknown (suc (suc zero)) h = cc
kind_unknown (suc (suc (suc zero))) h = cc
kind_unknown (suc (suc (suc (suc zero)))) h = cc
kind_unknown (suc (suc (suc (suc (suc zero))))) h = cc
kind_unknown (suc (suc (suc (suc (suc (suc zero)))))) h = cc
kind_unknown (suc (suc (suc (suc (suc (suc (suc zero))))))) h = cc
kind_unknown (suc (suc (suc (suc (suc (suc (suc (suc zero)))))))) h = cc
kind_unknown (suc (suc (suc (suc (suc (suc (suc (suc (suc zero))))))))) h = cc
kind_unknown (suc (suc (suc (suc (suc (suc (suc (suc (suc (suc zero)))))))))) h = cc
kind_unknown (suc (suc (suc (suc (suc (suc (suc (suc (suc (suc (suc zero))))))))))) h = cc
kind_unknown (suc (suc (suc (suc (suc (suc (suc (suc (suc (suc (suc (suc zero)))))))))))) h = cc
kind_unknown (suc (suc (suc (suc (suc (suc (suc (suc (suc (suc (suc (suc (suc n))))))))))))) h = refl

or_next : (n m : ℕ) (x k : Kind) (others : Result Kind UnknownKind) → kind_number x ≡ m → (others ≡ Ok k → kind_number k ≡ n) → cond (nat_eq n m) (Ok x) others ≡ Ok k → kind_number k ≡ n
or_next n m x k others e f h = by (nat_eq n m) refl h
  where
    by : (t : Bool) → nat_eq n m ≡ t → cond t (Ok x) others ≡ Ok k → kind_number k ≡ n
    by true q h = ap kind_number (same h) ∙ e ∙ sym (eqb-true n m q)
      where
        same : {y z : Kind} → (let w : Result Kind UnknownKind = Ok y in w ≡ Ok z) → z ≡ y
        same p = cc
    by false q h = f h

pub number_back : (n : ℕ) (k : Kind) → kind_of n ≡ Ok k → kind_number k ≡ n
unfolding kind_of
number_back n k = or_next n 1 ExternPath k _ refl (or_next n 2 Bytes k _ refl (or_next n 3 BtreeMap k _ refl (or_next n 4 Boxed k _ refl (or_next n 5 TypeAttribute k _ refl (or_next n 6 FieldAttribute k _ refl (or_next n 7 MessageAttribute k _ refl (or_next n 8 EnumAttribute k _ refl (or_next n 9 SkipDebug k _ refl (or_next n 10 ProstPath k _ refl (or_next n 11 RetainEnumPrefix k _ refl (or_next n 12 ProstTypes k _ refl (λ e. cc))))))))))))

pub kind_known : (k : Kind) → is_kind (kind_number k) ≡ true
unfolding is_kind has_path has_value sort_of
kind_known ExternPath = refl
kind_known Bytes = refl
kind_known BtreeMap = refl
kind_known Boxed = refl
kind_known TypeAttribute = refl
kind_known FieldAttribute = refl
kind_known MessageAttribute = refl
kind_known EnumAttribute = refl
kind_known SkipDebug = refl
kind_known ProstPath = refl
kind_known RetainEnumPrefix = refl
kind_known ProstTypes = refl

pub printable_all : (low : ℕ) (xs : List ℕ) → printable low xs ≡ list_all (λ c. nat_le low c && nat_le c 126) xs
unfolding printable
printable_all low [] = refl
printable_all low (c ∷ xs) = ap (λ t. nat_le low c && nat_le c 126 && t) (printable_all low xs)

-- the rows before row j + i are those before row j, and i more
before_more : (s : List ℕ) (kind i k j at : ℕ) → i ≤ k → (list_any (is_of kind) (take i (settings_from s k j at)) || kind_before s kind j) ≡ kind_before s kind (j + i)
unfolding settings_from kind_before
before_more s kind zero k j at h = rw add-zero refl
before_more s kind (suc i) zero j at h = absurd (omega arith)
before_more s kind (suc i) (suc k) j at h =
    let e : j + suc i ≡ suc j + i = omega arith in
    let f : j + 1 ≡ suc j = omega arith in
    rw e (turned (nat_eq (kind_at s j) kind) (list_any (is_of kind) (take i (settings_from s k (j + 1) (at + path_length s j + value_length s j)))) (kind_before s kind j) ∙ rw f (before_more s kind i k (suc j) (at + path_length s j + value_length s j) (omega arith)))
  where
    turned : (a c d : Bool) → ((a || c) || d) ≡ (c || (a || d))
    turned true true d = refl
    turned true false d = refl
    turned false c d = refl

pub any_before : (s : List ℕ) (kind i : ℕ) → i < row_count s → kind_before s kind i ≡ list_any (is_of kind) (take i (settings s))
unfolding settings kind_before
any_before s kind i h =
    let e : 0 + i ≡ i = omega arith in
    sym (sym (or-false (list_any (is_of kind) (take i (settings_from s (row_count s) 0 (bodies s))))) ∙ (rw e at (before_more s kind i (row_count s) 0 (bodies s) (omega arith))))

pub ruleset kinds = (kind_unknown, number_back, kind_known)
