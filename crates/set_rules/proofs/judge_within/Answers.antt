use mathlib.Core.Path.{refl}
use Rattle.set_rules.proofs.judge_within.Goals as goal

pub returns : goal.returns
returns g c =
    λ room.
    (rw c.new.ensures at c.judge_rows.ensures) c.declare_set-count.result refl (record { cleared = _; room = room; became = c.declare_set-count.ensures })
