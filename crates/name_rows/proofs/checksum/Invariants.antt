use Rattle.std.specs.Prelude.{◌≡◌, ◌<◌, ◌^◌, drop}
use Rattle.name_rows.specs.Rows.{checksum}
use Rattle.name_rows.proofs.checksum.Given as goal

abbrev pub invariant-loop-byte : goal.invariant-loop-byte
invariant-loop-byte l = (l.sum < 2 ^ 32) × (checksum l.sum (drop l.byte-index l.key) ≡ checksum 0 l.key)
