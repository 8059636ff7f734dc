use mathlib.Core.Path.{refl}
use Rattle.type_names.specs.Chains.{packed}
use Rattle.type_names.proofs.pack.Goals as goal

pub returns : goal.returns
unfolding packed
returns c = refl
