use Rattle.std.proofs.Common.{◌≡◌, drop}
use Rattle.base.specs.Bytes.{b}
use Rattle.split.specs.Split.{split}
use Rattle.way.proofs.names_behind.Given as goal

abbrev pub invariant-loop : goal.invariant-loop
invariant-loop l = l.names ≡ drop l.counter (split (b ".") l.ident)
