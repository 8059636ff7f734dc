-- A field's type, and the loop of `undeclared_by`. Assumes nothing.
use Rattle.std.specs.Prelude.{Option}
use Rattle.std.specs.Option.{is_some}
use mathlib.Core.Path.{◌≡◌, refl, ap, ◌∙◌}
use mathlib.Core.Bool.{Bool, true, false, not}
use mathlib.Core.List.{List}
use Prim.Native.Nat.{ℕ, suc, ◌+◌, ◌-◌, ◌≤◌, ◌<◌}
use native.Mathlib.Omega.{arith}
use lib.ListN.{length}
use borrow.Author.Tests.{eq-eqb, ne_eqb, not-true, not-false}
use Rattle.base.specs.Choose.{choose}
use Rattle.base.specs.Lists.{all}
use Rattle.wire.specs.Records.{part}
use Rattle.descriptor.specs.Descriptor.{FieldDescriptor}
use Rattle.descriptor.specs.Decode.{entries, parts, decode_field}
use Rattle.name_rules.specs.Accessors.{text, type}
use Rattle.declarations.specs.Rows.{row_at, kind_number}
use Rattle.declarations.specs.declared.Kind.TheVariants.{Package, Enum, Message}
use Rattle.declarations.specs.declared.Declaration.{Declaration as Row}
use Rattle.type_names.specs.LookUp.{found_row, declared_before}
use Rattle.type_names.specs.declared.Sort.{Sort}
use Rattle.type_names.specs.declared.Sort.TheVariants as sorts
use Rattle.type_names.proofs.FindLaws.{found_some}
use Rattle.declared_types.specs.Undeclared.{found, type_known, row_good, undeclared_from, first_undeclared_row}

module _ (bytes : List ℕ) (t : List Row) (count : ℕ) (s : List ℕ) (f : FieldDescriptor) (f_is : f ≡ decode_field s) (k : ℕ) (k_is : k ≡ type f) where
  type_as : k ≡ type (decode_field s)
  type_as = k_is ∙ ap type f_is

  module _ (name : List ℕ) (name_is : name ≡ text f.type_name) (sort : Sort) (r : Option ℕ) (r_is : r ≡ found_row bytes t name sort count) where
    known : is_some r ≡ found bytes t count (text (decode_field s).type_name) sort
    known = ap is_some r_is ∙ found_some bytes t name sort count ∙ ap (λ (x : List ℕ). found bytes t count x sort) (name_is ∙ ap (λ (g : FieldDescriptor). text g.type_name) f_is)

    pub known_message : k ≡ 11 → sort ≡ sorts.Message → is_some r ≡ type_known bytes t count s
    unfolding type_known choose
    known_message e q = rw (← type_as, eq-eqb k 11 e) (rw q at known)

    pub known_group : k ≡ 10 → sort ≡ sorts.Message → is_some r ≡ type_known bytes t count s
    unfolding type_known choose
    known_group e q = rw (← type_as, ne_eqb k 11 (λ z. omega arith), eq-eqb k 10 e) (rw q at known)

    pub known_enum : k ≡ 14 → sort ≡ sorts.Enum → is_some r ≡ type_known bytes t count s
    unfolding type_known choose
    known_enum e q = rw (← type_as, ne_eqb k 11 (λ z. omega arith), ne_eqb k 10 (λ z. omega arith), eq-eqb k 14 e) (rw q at known)

  pub known_other : (k ≡ 11 → ⊥) → (k ≡ 10 → ⊥) → (k ≡ 14 → ⊥) → true ≡ type_known bytes t count s
  unfolding type_known choose
  known_other n m o = rw (← type_as, ne_eqb k 11 n, ne_eqb k 10 m, ne_eqb k 14 o)

pub ruleset known_laws = (known_message, known_group, known_enum, known_other)

module _ (bytes : List ℕ) (t : List Row) (count i : ℕ) (r : Row) (r_is : r ≡ row_at t i) where
  pub good_package : r.kind ≡ Package → true ≡ row_good bytes t count i
  unfolding row_good kind_number choose
  good_package e = rw (← r_is, e)

  module _ (b : Bool) (b_is : b ≡ declared_before bytes t i) where
    pub good_enum : r.kind ≡ Enum → not b ≡ row_good bytes t count i
    unfolding row_good kind_number choose
    good_enum e = rw (← r_is, e, ← b_is) (by b)
      where
        by : (b : Bool) → not b ≡ choose b false true
        by true = refl
        by false = refl

    module _ (n : ℕ) (e : r.kind ≡ Message n) where
      pub good_before : b ≡ true → false ≡ row_good bytes t count i
      unfolding row_good kind_number choose
      good_before h = rw (← r_is, e, ← b_is, h, ne_eqb (n + 2) 0 (λ q. omega arith))

      pub good_message : b ≡ false → (s : List ℕ) → s ≡ part bytes r.start (r.end - r.start) → (x : Bool) → x ≡ all (type_known bytes t count) (parts 2 (entries s)) → x ≡ row_good bytes t count i
      unfolding row_good kind_number choose
      good_message h s s_is x x_is = rw (← r_is, e, ← b_is, h, ne_eqb (n + 2) 0 (λ q. omega arith), ne_eqb (n + 2) 1 (λ q. omega arith), ← s_is) x_is

module _ (bytes : List ℕ) (t : List Row) (count : ℕ) where
  pub record Going (i : ℕ) : Type 0 where
    pub inside : i ≤ count
    pub left : undeclared_from bytes t count (count - i) i ≡ first_undeclared_row bytes t count

  pub going_start : Going 0
  unfolding first_undeclared_row
  going_start = record { inside = omega arith; left = ap (λ (n : ℕ). undeclared_from bytes t count n 0) (let e : count - 0 ≡ count = omega arith in e) }

  module _ (i : ℕ) (going : Going i) where
    pub going_end : count ≤ i → (files : ℕ) → files ≡ length (parts 1 (entries bytes)) → files ≡ first_undeclared_row bytes t count
    unfolding undeclared_from
    going_end h files e = let z : count - i ≡ 0 = omega arith in e ∙ (rw z at going.left)

    module _ (h : i < count) (r : Bool) (r_is : r ≡ row_good bytes t count i) where
      opened : choose r (undeclared_from bytes t count (count - (i + 1)) (i + 1)) (row_at t i).file ≡ first_undeclared_row bytes t count
      unfolding undeclared_from
      opened = let z : count - i ≡ suc (count - (i + 1)) = omega arith in rw r_is (rw z at going.left)

      pub going_bad : not r ≡ true → (file : ℕ) → file ≡ (row_at t i).file → file ≡ first_undeclared_row bytes t count
      unfolding choose
      going_bad e file f = let z = not-true r e in f ∙ (rw z at opened)

      pub going_more : not r ≡ false → Going (i + 1)
      unfolding choose
      going_more e = let z = not-false r e in record { inside = omega arith; left = rw z at opened }
