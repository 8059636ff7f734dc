-- The segments of a package are what the library's split gives. Assumes nothing.
use mathlib.Core.Path.{◌≡◌, refl, ap, ◌∙◌}
use mathlib.Core.Bool.{true, false}
use mathlib.Core.List.{List, [], ◌∷◌}
use Prim.Native.Nat.{ℕ}
use lib.Dec.{eqb}
use Rattle.std.specs.Prelude.{cond}
use Rattle.std.specs.List.{slice_split, onto_first}
use Rattle.base.specs.Choose.{choose}
use Rattle.descriptor.specs.Descriptor.{Bytes}
use Rattle.descriptor.specs.Limits.{segments, on_first}

onto_is : (c : ℕ) (ss : List Bytes) → onto_first c ss ≡ on_first c ss
onto_is c [] = refl
onto_is c (s ∷ ss) = refl

pub segments_are : (s : Bytes) → slice_split (λ c. eqb c 46) s ≡ segments s
unfolding segments choose
segments_are [] = refl
segments_are (c ∷ cs) =
    ap (λ (ss : List Bytes). cond (eqb c 46) ([] ∷ ss) (onto_first c ss)) (segments_are cs)
    ∙ elim (eqb c 46) as (λ t. cond t ([] ∷ segments cs) (onto_first c (segments cs)) ≡ choose t ([] ∷ segments cs) (on_first c (segments cs)))
    [ true ↦ refl | false ↦ onto_is c (segments cs) ]
