use Rattle.std.proofs.Common.{◌≡◌, take, ◌++◌}
use Rattle.cases.specs.Hex.{hex_bytes}
use Rattle.cases.proofs.hex.fill.Given as goal

abbrev pub invariant-loop-length : goal.invariant-loop-length
invariant-loop-length l = take l.length l.room ++ l.bytes ≡ hex_bytes l.digits
