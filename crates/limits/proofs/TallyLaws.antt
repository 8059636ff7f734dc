-- What holds no declaration counts nothing. Assumes nothing.
use mathlib.Core.Path.{◌≡◌, refl}
use mathlib.Core.Bool.{true}
use Prim.Native.Nat.{ℕ, zero, suc}
use Rattle.std.specs.Prelude.{None}
use Rattle.base.specs.Tests.{both_ways}
use Rattle.descriptor.specs.Descriptor.{Bytes}
use Rattle.descriptor.specs.Decode.{entries}
use Rattle.limits.specs.declared.limit.Limit.{Limit}
use Rattle.limits.specs.declared.sort.Sort.{Sort}
use Rattle.limits.specs.declared.sort.Sort.TheVariants as sorts
use Rattle.limits.specs.Weights.{sort_below, holds_none, weight, field_weight, tally}
use Rattle.limits.proofs.SumLaws.{sum_zero}

sort_none : (sort : Sort) (left number : ℕ) → holds_none sort ≡ true → sort_below sort left number ≡ None
unfolding sort_below holds_none
sort_none sorts.Set left number h = both_ways h refl
sort_none sorts.File left number h = both_ways h refl
sort_none sorts.Message left number h = both_ways h refl
sort_none sorts.DeepMessage left number h = refl
sort_none sorts.Field left number h = refl
sort_none sorts.Oneof left number h = refl
sort_none sorts.Enum left number h = both_ways h refl
sort_none sorts.Value left number h = refl

pub tally_none : (limit : Limit) (left : ℕ) (sort : Sort) (around : ℕ) (s : Bytes) → holds_none sort ≡ true → tally limit left sort around s ≡ 0
unfolding tally weight
tally_none limit zero sort around s h = refl
tally_none limit (suc k) sort around s h =
    sum_zero (field_weight limit (tally limit k) (suc k) sort around) (λ f. rw (sort_none sort (suc k) f.number h)) (entries s)
