-- A table's rows and what they list: look-ups find what is declared. Assumes nothing.
use mathlib.Core.Path.{◌≡◌, refl, sym, ap, ◌∙◌}
use mathlib.Core.Bool.{Bool, true, false, ◌||◌}
use mathlib.Core.List.{List, [], ◌++◌, map, append-nil, append_assoc, map-append}
use Prim.Native.Nat.{ℕ, zero, suc, ◌+◌, ◌≤◌, ◌<◌}
use native.Mathlib.Numerals.{add-one}
use native.Mathlib.Omega.{arith}
use lib.Dec.{eqb, ltb}
use borrow.Author.Tests.{eqb-true, eqb-false, le-ltb, lt-ltb, ne_eqb}
use Rattle.base.specs.Bytes.{same}
use Rattle.base.specs.Choose.{choose}
use Rattle.std.proofs.Math.Bool.{or-false}
use Rattle.name_rules.proofs.AppendLaws.{declared_append, as_append}
use Rattle.descriptor.specs.Descriptor.{Bytes, FieldDescriptor}
use Rattle.name_rules.specs.Accessors.{text, type}
use Rattle.name_rules.specs.FullNames.{Declaration, declared, declared_as, type_declared}
use Rattle.declarations.specs.Rows.{row_at, kind_number}
use Rattle.declarations.specs.Listed.{full, Listed, listed_row, listed, declaration_of}
use Rattle.declarations.specs.declared.Declaration.{Declaration as Row}
use Rattle.type_names.specs.declared.Sort.{Sort}
use Rattle.type_names.specs.declared.Sort.TheVariants.{Enum, Message}
use Rattle.type_names.specs.LookUp.{named, wanted, fits, find_from, find_row, same_row, before_by, declared_before}
use Rattle.declared_types.specs.Undeclared.{found, field_known}

abbrev pub D : List Listed → List Declaration
D = map declaration_of

-- n rows from row i on
unfoldable pub listed_from : Bytes → List Row → ℕ → ℕ → List Listed
listed_from bytes t zero i = []
listed_from bytes t (suc n) i = listed_row bytes (full bytes t (suc i)) (row_at t i) ++ listed_from bytes t n (i + 1)

module _ (bytes : List ℕ) (t : List Row) where
  pub listed_split : (n i : ℕ) → listed bytes t (i + n) ≡ listed bytes t i ++ listed_from bytes t n i
  unfolding listed listed_from
  listed_split zero i = ap (listed bytes t) (let z : i + 0 ≡ i = omega arith in z) ∙ sym (append-nil (listed bytes t i))
  listed_split (suc n) i =
      ap (listed bytes t) (let z : i + suc n ≡ i + 1 + n = omega arith in z) ∙ listed_split n (i + 1)
      ∙ ap (λ (l : List Listed). l ++ listed_from bytes t n (i + 1)) (ap (listed bytes t) (let z : i + 1 ≡ suc i = omega arith in z))
      ∙ append_assoc (listed bytes t i) (listed_row bytes (full bytes t (suc i)) (row_at t i)) (listed_from bytes t n (i + 1))

  pub listed_all : (n : ℕ) → listed bytes t n ≡ listed_from bytes t n 0
  unfolding listed
  listed_all n = ap (listed bytes t) (let z : n ≡ 0 + n = omega arith in z) ∙ listed_split n 0

-- the sort that a type asks for
abbrev sort_of : Bool → Sort
sort_of true = Enum
sort_of false = Message

module _ (bytes : Bytes) (name F : Bytes) (r : Row) where
  row_none : (e : Bool) → (kind_number r.kind) ≡ 0 → declared_as e name (D (listed_row bytes F r)) ≡ choose (wanted (sort_of e) (kind_number r.kind)) (same F name) false
  unfolding declared_as listed_row wanted choose
  row_none true z = rw z refl
  row_none false z = rw z refl

  row_enum : (e : Bool) → (kind_number r.kind) ≡ 1 → declared_as e name (D (listed_row bytes F r)) ≡ choose (wanted (sort_of e) (kind_number r.kind)) (same F name) false
  unfolding declared_as listed_row wanted choose
  row_enum true z = rw z (or-false (same F name))
  row_enum false z = rw z refl

  row_message : (e : Bool) → 2 ≤ (kind_number r.kind) → declared_as e name (D (listed_row bytes F r)) ≡ choose (wanted (sort_of e) (kind_number r.kind)) (same F name) false
  unfolding declared_as listed_row wanted choose
  row_message true z = rw (ne_eqb (kind_number r.kind) 0 (λ q. omega arith), ne_eqb (kind_number r.kind) 1 (λ q. omega arith)) refl
  row_message false z = rw (ne_eqb (kind_number r.kind) 0 (λ q. omega arith), ne_eqb (kind_number r.kind) 1 (λ q. omega arith), le-ltb (kind_number r.kind) 2 z) (or-false (same F name))

-- a kind is one of three
pub by_kind {ℓ} : {A : Type ℓ} (k : ℕ) → (k ≡ 0 → A) → (k ≡ 1 → A) → (2 ≤ k → A) → A
by_kind {A = A} k f g h =
    elim (eqb k 0) as (λ t. eqb k 0 ≡ t → A) [
      | true ↦ (λ e. f (eqb-true k 0 e))
      | false ↦ (λ e. elim (eqb k 1) as (λ t. eqb k 1 ≡ t → A) [ true ↦ (λ q. g (eqb-true k 1 q)) | false ↦ (λ q. let a = eqb-false k 0 e in let b = eqb-false k 1 q in h (omega arith)) ] refl)
    ] refl

row_as : (bytes : Bytes) (name F : Bytes) (r : Row) (e : Bool) → declared_as e name (D (listed_row bytes F r)) ≡ choose (wanted (sort_of e) (kind_number r.kind)) (same F name) false
row_as bytes name F r e = by_kind (kind_number r.kind) (row_none bytes name F r e) (row_enum bytes name F r e) (row_message bytes name F r e)

module _ (bytes : List ℕ) (t : List Row) where
  row_fits : (name : Bytes) (e : Bool) (i : ℕ) → i < 65536 → declared_as e name (D (listed_row bytes (full bytes t (suc i)) (row_at t i))) ≡ fits bytes t name (sort_of e) i
  unfolding fits named choose
  row_fits name e i h =
      row_as bytes name (full bytes t (suc i)) (row_at t i) e
      ∙ rw (le-ltb 65535 i (omega arith), add-one)

  found_from : (name : Bytes) (e : Bool) (n i : ℕ) → i + n ≤ 65536 → declared_as e name (D (listed_from bytes t n i)) ≡ ltb (find_from bytes t name (sort_of e) n i) (i + n)
  unfolding listed_from find_from declared_as choose
  found_from name e zero i h = sym (le-ltb i (i + 0) (omega arith))
  found_from name e (suc n) i h =
      ap (declared_as e name) (map-append declaration_of (listed_row bytes (full bytes t (suc i)) (row_at t i)) (listed_from bytes t n (i + 1)))
      ∙ as_append e name (D (listed_row bytes (full bytes t (suc i)) (row_at t i))) (D (listed_from bytes t n (i + 1)))
      ∙ ap (λ (b : Bool). b || declared_as e name (D (listed_from bytes t n (i + 1)))) (row_fits name e i (omega arith))
      ∙ by_fits (fits bytes t name (sort_of e) i) n i (found_from name e n (i + 1) (omega arith))
    where
      by_fits : (b : Bool) (n i : ℕ) → declared_as e name (D (listed_from bytes t n (i + 1))) ≡ ltb (find_from bytes t name (sort_of e) n (i + 1)) (i + 1 + n)
          → (b || declared_as e name (D (listed_from bytes t n (i + 1)))) ≡ ltb (choose b i (find_from bytes t name (sort_of e) n (i + 1))) (i + suc n)
      by_fits true n i q = sym (lt-ltb i (i + suc n) (omega arith))
      by_fits false n i q = q ∙ ap (ltb (find_from bytes t name (sort_of e) n (i + 1))) (let z : i + 1 + n ≡ i + suc n = omega arith in z)

  pub found_is : (name : Bytes) (e : Bool) (count : ℕ) → count ≤ 65536 → found bytes t count name (sort_of e) ≡ declared_as e name (D (listed bytes t count))
  unfolding find_row
  found_is name e count h =
      sym (ap (λ (l : List Listed). declared_as e name (D l)) (listed_all bytes t count) ∙ found_from name e count 0 (omega arith)
      ∙ ap (ltb (find_from bytes t name (sort_of e) count 0)) (let z : 0 + count ≡ count = omega arith in z))

  -- a field's type name
  or_choose : {A : Type 0} (a b : Bool) (x y : A) → choose (a || b) x y ≡ choose a x (choose b x y)
  unfolding choose
  or_choose true b x y = refl
  or_choose false b x y = refl

  pub known_is : (count : ℕ) → count ≤ 65536 → (f : FieldDescriptor) → field_known bytes t count f ≡ type_declared (D (listed bytes t count)) f
  unfolding type_declared
  known_is count h f =
      rw (found_is (text f.type_name) false count h, found_is (text f.type_name) true count h)
      (sym (or_choose (eqb (type f) 11) (eqb (type f) 10) (declared_as false (text f.type_name) (D (listed bytes t count)))
      (choose (eqb (type f) 14) (declared_as true (text f.type_name) (D (listed bytes t count))) true)))

  -- a full name declared before
  row_before : (x F : Bytes) (r : Row) → declared x (D (listed_row bytes F r)) ≡ choose (eqb (kind_number r.kind) 0) false (same F x)
  unfolding declared listed_row choose
  row_before x F r = by_kind (kind_number r.kind) (λ z. rw z refl) (λ z. rw z (or-false (same F x)))
      (λ z. rw (ne_eqb (kind_number r.kind) 0 (λ q. omega arith), ne_eqb (kind_number r.kind) 1 (λ q. omega arith)) (or-false (same F x)))

  swapped : (a b : Bool) → choose a true b ≡ (b || a)
  unfolding choose
  swapped true true = refl
  swapped true false = refl
  swapped false true = refl
  swapped false false = refl

  before_is : (i n : ℕ) → before_by bytes t i n ≡ declared (full bytes t (i + 1)) (D (listed bytes t n))
  unfolding before_by listed declared same_row
  before_is i zero = refl
  before_is i (suc n) =
      rw (before_is i n)
      (swapped (same_row bytes t i n) (declared (full bytes t (i + 1)) (D (listed bytes t n)))
      ∙ ap (λ (b : Bool). declared (full bytes t (i + 1)) (D (listed bytes t n)) || b) (sym (row_before (full bytes t (i + 1)) (full bytes t (suc n)) (row_at t n) ∙ (let z : n + 1 ≡ suc n = omega arith in rw z)))
      ∙ sym (declared_append (full bytes t (i + 1)) (D (listed bytes t n)) (D (listed_row bytes (full bytes t (suc n)) (row_at t n))))
      ∙ ap (declared (full bytes t (i + 1))) (sym (map-append declaration_of (listed bytes t n) (listed_row bytes (full bytes t (suc n)) (row_at t n)))))

  pub declared_before_is : (i : ℕ) → i < 65536 → declared_before bytes t i ≡ declared (full bytes t (suc i)) (D (listed bytes t i))
  unfolding declared_before choose
  declared_before_is i h = rw (le-ltb 65535 i (omega arith)) (before_is i i ∙ rw add-one)
