use mathlib.Core.Path.{◌≡◌, refl, ap, ◌∙◌}
use mathlib.Core.Logic.{⊎_elim}
use Prim.Native.Nat.{◌+◌, ◌-◌}
use native.Mathlib.Omega.{arith}
use Rattle.base.specs.Choose.{choose}
use Rattle.field_columns.specs.Columns.{byte_of}
use Rattle.declarations.specs.Rows.{kind_number}
use Rattle.targets.proofs.number_of.Goals as goal

pub returns-in-Package : goal.returns-in-Package
unfolding byte_of kind_number choose
returns-in-Package c = ⊎_elim (λ e. rw e refl) (λ e. rw e refl) c.in-Package.is

pub returns-in-Message : goal.returns-in-Message
unfolding kind_number
returns-in-Message c = let z : c.in-Message.number + 2 - 2 ≡ c.in-Message.number = omega arith in rw (c.in-Message.is, z) (c.byte_of.ensures ∙ ap byte_of c.from.ensures)
