use lib.ListN.{length}
use Rattle.declarations.specs.Rows.{state, places, declare_enums}
use Rattle.declarations.proofs.EnumLaws.{Going}
use Rattle.declarations.proofs.declare_enums.Given as goal

abbrev pub invariant-loop-place : goal.invariant-loop-place
invariant-loop-place l = Going l.set l.file l.up (declare_enums l.set l.file l.up (places l.set l.number l.fn.part) (state l.fn.rows l.fn.counted)) (length l.fn.rows) l.place-iterator l.rows l.count
