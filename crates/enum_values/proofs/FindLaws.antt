-- What `find` leaves of an enum's values: those behind the one with a mark. Assumes nothing.
use Rattle.std.proofs.Common.{◌≡◌, refl, sym, ap, ◌∙◌, ℕ, Bool, false, List, [], ◌∷◌, map, get_or}
use Rattle.std.specs.Prelude.{Option, Some, None, MatchOption}
use Rattle.std.specs.Iterator.{FindsItem}
use Rattle.std.specs.Iterator.Adapters.{enumerate_source, enumerate_count}
use Rattle.std.specs.Fn.{CalledAt}
use denote.Ref.{Bor}
use denote.Param.Members.{Mut}
use Rattle.base.specs.Choose.{choose}
use Rattle.base.proofs.FindLaws.{found}
use Rattle.descriptor.specs.Descriptor.{Bytes, ValueDescriptor}
use Rattle.descriptor.specs.Decode.{decode_value}
use Rattle.parts.proofs.Numbered.{Parts, part_step}
use Rattle.enum_values.specs.Kept.{marked}
use Rattle.enum_values.proofs.KeptLaws.{one_left}

-- ---- the next value that has a mark
module _ (ms : List Bool) {F : Type 0} (f : F) (g : Mut F (Bor (ℕ × Bor Bytes) × Unit {0}) Bool) where
  abbrev left : Parts → List ValueDescriptor
  left s = marked ms (enumerate_count s) (map decode_value (enumerate_source s))

  none_left : (s t : Parts) → part_step s None t → (left s ≡ []) × (left t ≡ [])
  unfolding marked
  none_left s t d = (rw d.0.0 refl, rw d.0.1 refl)

  turn : (s t : Parts) (x : ℕ × Bor Bytes) → part_step s (Some x) t → left s ≡ choose (get_or ms x.0 false) (decode_value x.1.now ∷ left t) (left t)
  turn s t x d = one_left ms _ _ _ _ _ d.0 d.2 ∙ ap (λ (i : ℕ). choose (get_or ms i false) (decode_value x.1.now ∷ left t) (left t)) (sym d.1)

  module _ (pure : (x : ℕ × Bor Bytes) (b : Bool) (q : F) → CalledAt g f x b q → (q ≡ f) × (b ≡ get_or ms x.0 false)) where
    pub next_marked : (s u : Parts) (r : Option (ℕ × Bor Bytes)) → FindsItem part_step g s f r u → MatchOption r ((left s ≡ []) × (left u ≡ [])) (λ x. left s ≡ decode_value x.1.now ∷ left u)
    next_marked s u r d = found part_step left f none_left g (λ x. get_or ms x.0 false) (λ x. decode_value x.1.now) pure turn s u r d _ refl
