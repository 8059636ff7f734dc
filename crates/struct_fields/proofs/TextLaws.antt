-- The fields of a struct, one field on. Assumes nothing.
use mathlib.Core.Path.{◌≡◌, refl, sym, ap, ◌∙◌}
use mathlib.Core.Bool.{Bool, true, false}
use mathlib.Core.List.{List, ◌∷◌}
use Prim.Native.Nat.{ℕ, suc, ◌+◌, ◌-◌, ◌<◌, ◌≤◌}
use native.Mathlib.Omega.{arith}
use native.Mathlib.Numerals.{add-one}
use Rattle.base.specs.Choose.{choose}
use Rattle.writer.specs.declared.text.Text.{Text as Buffered}
use Rattle.descriptor.specs.Descriptor.{Bytes}
use Rattle.options.specs.Settings.{Setting}
use Rattle.text_tables.specs.Rows.{field_row, is_plain}
use Rattle.text_tables.specs.declared.FieldRow.{FieldRow}
use Rattle.members.specs.Members.{numbers_where}
use Rattle.code_generator.specs.Piece.{when}
use Rattle.code_generator.specs.Writing.{◌⊳◌}
use Rattle.struct_fields.specs.StructFields.{field_text, field_texts}

module _ (rs : List Setting) (set : List ℕ) (t : List FieldRow) (proto3 : Bool) (d : ℕ) (scope full : Bytes) where
  -- the fields in no oneof from k on, below last, behind what is written
  unfoldable pub behind : Buffered → ℕ → ℕ → Buffered
  behind x last k = x ⊳ field_texts rs set t proto3 d scope full (numbers_where is_plain t (last - k) k)

  pub none_behind : (x : Buffered) (last k : ℕ) → last ≤ k → behind x last k ≡ x
  unfolding behind field_texts numbers_where
  none_behind x last k h = let e : last - k ≡ 0 = omega arith in rw e refl

  one_more : (x : Buffered) (k n : ℕ) → (x ⊳ when (is_plain (field_row t k)) (field_text rs set t proto3 d scope full k)) ⊳ field_texts rs set t proto3 d scope full (numbers_where is_plain t n (suc k)) ≡ x ⊳ field_texts rs set t proto3 d scope full (numbers_where is_plain t (suc n) k)
  unfolding field_texts numbers_where choose
  one_more x k n =
      elim (is_plain (field_row t k)) as (λ c. (x ⊳ when c (field_text rs set t proto3 d scope full k)) ⊳ field_texts rs set t proto3 d scope full (numbers_where is_plain t n (suc k)) ≡ x ⊳ field_texts rs set t proto3 d scope full (choose c (k ∷ numbers_where is_plain t n (suc k)) (numbers_where is_plain t n (suc k))))
      [ true ↦ refl | false ↦ refl ]

  pub one_behind : (x y : Buffered) (last k : ℕ) → k < last → y ≡ x ⊳ when (is_plain (field_row t k)) (field_text rs set t proto3 d scope full k) → behind y last (k + 1) ≡ behind x last k
  unfolding behind
  one_behind x y last k h e =
      let n : last - k ≡ suc (last - (k + 1)) = omega arith in
      ap (λ (u : Buffered). u ⊳ field_texts rs set t proto3 d scope full (numbers_where is_plain t (last - (k + 1)) (k + 1))) e
      ∙ ap (λ (m : ℕ). (x ⊳ when (is_plain (field_row t k)) (field_text rs set t proto3 d scope full k)) ⊳ field_texts rs set t proto3 d scope full (numbers_where is_plain t (last - (k + 1)) m)) (add-one k)
      ∙ one_more x k (last - (k + 1))
      ∙ ap (λ (m : ℕ). x ⊳ field_texts rs set t proto3 d scope full (numbers_where is_plain t m k)) (sym n)

  pub all_written : (x y : Buffered) (first last end k : ℕ) → end ≤ k → behind y end k ≡ behind x last first → y ≡ x ⊳ field_texts rs set t proto3 d scope full (numbers_where is_plain t (last - first) first)
  unfolding behind
  all_written x y first last end k h e = sym (none_behind y end k h) ∙ e
