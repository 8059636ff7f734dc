use Rattle.type_names.proofs.NamedLaws.{Going}
use Prim.Native.Nat.{◌+◌}
use Rattle.type_names.proofs.Names.is_named.Given as goal

abbrev pub invariant-loop-i : goal.invariant-loop-i
invariant-loop-i l = Going l.self.declared.set.now l.self.declared.rows.now l.name (l.row + 1) l.i-iterator l.left
