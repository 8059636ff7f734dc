use mathlib.Core.Path.{◌≡◌}
use Prim.Native.Nat.{◌+◌, ◌-◌}
use lib.ListN.{length, drop}
use Rattle.rust_paths.specs.Parts.{cut}
use Rattle.rust_paths.proofs.cut_at.Given as goal

abbrev pub invariant-loop-i : goal.invariant-loop-i
invariant-loop-i l = l.i + cut (drop l.i l.p) ≡ cut l.p

abbrev pub decreases-loop-i : goal.decreases-loop-i
decreases-loop-i l = length l.p - l.i
