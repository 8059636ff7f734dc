-- What `find` and `find_map` leave of a oneof's fields and of a message's oneofs. Assumes nothing.
use Rattle.std.proofs.Common.{◌≡◌, refl, sym, ap, ◌∙◌, ℕ, ◌+◌, ◌-◌, ◌<◌, Bool, true, false, List, [], ◌∷◌}
use Rattle.std.specs.Prelude.{Option, Some, None, MatchOption, IsTrue}
use Rattle.std.specs.Iterator.{FindsItem, FindsMapped}
use Rattle.std.specs.Iterator.Adapters.{enumerate_source, enumerate_count}
use Rattle.std.specs.Iterator.Runs.{SomeRun, AllItemsGive, IsFirstToGive}
use Rattle.std.specs.Fn.{Called, CalledAt}
use Rattle.std.specs.declared.ops.Range.{Range}
use denote.Ref.{Bor}
use denote.Param.Members.{Mut}
use Rattle.base.specs.Choose.{choose}
use Rattle.base.specs.Lists.{is_empty}
use Rattle.base.proofs.FindLaws.{before, found, found_mapped}
use Rattle.descriptor.specs.Descriptor.{Bytes}
use Rattle.parts.proofs.Numbered.{Parts, part_step}
use Rattle.text_tables.specs.Rows.{field_row, is_in}
use Rattle.text_tables.specs.declared.FieldRow.{FieldRow}
use Rattle.members.specs.Members.{name_in, numbers_where, oneofs_from, conflict}
use Rattle.members.specs.Seen.{OneofSeen}
use Rattle.members.proofs.MemberLaws.{left_turn, left_none, left_none_behind}

-- ---- the next number of a field whose row passes a test
abbrev range_step : Range ℕ → Option ℕ → Range ℕ → Type 0
range_step s r t = (t.end ≡ s.end) × MatchOption r ((s.end - s.start ≡ 0) × (t.start ≡ s.start)) (λ x. (0 < s.end - s.start) × (x ≡ s.start) × (t.start ≡ s.start + 1))

module _ (test : FieldRow → Bool) (t : List FieldRow) {F : Type 0} (f : F) (g : Mut F (Bor ℕ × Unit {0}) Bool) (pure : (k : ℕ) (b : Bool) (q : F) → CalledAt g f k b q → (q ≡ f) × (b ≡ test (field_row t k))) where
  abbrev numbers : Range ℕ → List ℕ
  numbers s = numbers_where test t (s.end - s.start) s.start

  pub next_number : (s u : Range ℕ) (r : Option ℕ) → FindsItem range_step g s f r u → (all : List ℕ) → numbers s ≡ all → MatchOption r ((all ≡ []) × (numbers u ≡ [])) (λ k. all ≡ k ∷ numbers u)
  next_number =
      found range_step numbers f (λ s u e. (left_none test t _ _ _ _ e.0 e.1.0 e.1.1, left_none_behind test t _ _ _ _ e.0 e.1.0 e.1.1)) g (λ k. test (field_row t k)) (λ k. k) pure
      (λ s u k e. left_turn test t _ _ _ _ e.0 e.1.0 k e.1.1 e.1.2)

-- ---- the next oneof that has fields, by the parts of the oneofs, with their numbers
module _ (t : List FieldRow) (first last : ℕ) (deeper : Bool) (p : Bytes) where
  abbrev oneofs : Parts → List OneofSeen
  oneofs s = oneofs_from t first last deeper p (enumerate_count s) (enumerate_source s)

  -- the one with the number i, whose part q is
  abbrev oneof_at : ℕ → Bytes → Option OneofSeen
  oneof_at i q = choose (is_empty (numbers_where (is_in i) t (last - first) first)) None (Some (record { name = name_in q; conflict = conflict deeper p (name_in q); index = i; first = first; last = last }))

  either : (empty : Bool) (o : OneofSeen) (rest : List OneofSeen) → choose empty rest (o ∷ rest) ≡ before (choose empty None (Some o)) rest
  unfolding before choose
  either true o rest = refl
  either false o rest = refl

  one_oneof : (i j : ℕ) (ps qs : List Bytes) (q : Bytes) → ps ≡ q ∷ qs → j ≡ i + 1 → oneofs_from t first last deeper p i ps ≡ before (oneof_at i q) (oneofs_from t first last deeper p j qs)
  unfolding oneofs_from
  one_oneof i j ps qs q e f = rw (e, f) (either (is_empty (numbers_where (is_in i) t (last - first) first)) _ _)

  none_left : (s u : Parts) → part_step s None u → (oneofs s ≡ []) × (oneofs u ≡ [])
  unfolding oneofs_from
  none_left s u d = (rw d.0.0 refl, rw d.0.1 refl)

  module _ {F : Type 0} (f : F) (g : Mut F ((ℕ × Bor Bytes) × Unit {0}) (Option OneofSeen)) (pure : (x : ℕ × Bor Bytes) (r : Option OneofSeen) (q : F) → Called g f (x, tt) r q → (q ≡ f) × (r ≡ oneof_at x.0 x.1.now)) where
    pub next_oneof : (s u : Parts) (r : Option OneofSeen) → FindsMapped part_step g s f r u
        → SomeRun part_step s (λ p. MatchOption r (IsTrue p.whole × AllItemsGive p g f None) (λ y. (i : ℕ) × (i < p.len) × (p.len ≡ i + 1) × IsFirstToGive p g f (Some y) None i))
        → (all : List OneofSeen) → oneofs s ≡ all → MatchOption r ((all ≡ []) × (oneofs u ≡ [])) (λ o. all ≡ o ∷ oneofs u)
    next_oneof =
        found_mapped part_step oneofs f none_left g (λ x. oneof_at x.0 x.1.now) pure
        (λ s u x d. one_oneof _ _ _ _ _ d.0 d.2 ∙ ap (λ (i : ℕ). before (oneof_at i x.1.now) (oneofs u)) (sym d.1))
