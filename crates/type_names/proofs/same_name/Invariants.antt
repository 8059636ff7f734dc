use Rattle.std.proofs.Common.{◌≡◌, ◌+◌}
use Rattle.base.specs.Bytes.{same}
use Rattle.declarations.specs.Listed.{full}
use Rattle.type_names.proofs.same_name.Given as goal

abbrev pub invariant-loop-byte : goal.invariant-loop-byte
invariant-loop-byte l = same l.byte-iterator l.second ≡ same (full l.fn.declared.set.now l.fn.declared.rows.now (l.i + 1)) (full l.fn.declared.set.now l.fn.declared.rows.now (l.j + 1))
