use mathlib.Core.Path.{◌≡◌}
use Prim.Native.Nat.{◌<◌, ◌%◌, ◌^◌}
use lib.ListN.{drop}
use Rattle.checksums.specs.Sums.{sum_from}
use Rattle.checksums.proofs.checksum_from.Given as goal

abbrev pub invariant-loop-byte : goal.invariant-loop-byte
invariant-loop-byte l = (l.so_far < 2 ^ 32) × (sum_from l.so_far (drop l.byte-index l.bytes) ≡ sum_from (l.sum % 2 ^ 32) l.bytes)
