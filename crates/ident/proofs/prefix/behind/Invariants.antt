use Rattle.std.proofs.Common.{◌≡◌}
use Rattle.ident.specs.Ident.{strip_prefix}
use Rattle.ident.proofs.prefix.behind.Given as goal

abbrev pub invariant-loop-byte : goal.invariant-loop-byte
invariant-loop-byte l = strip_prefix l.byte-iterator l.rest ≡ strip_prefix l.fn.prefix l.fn.name
