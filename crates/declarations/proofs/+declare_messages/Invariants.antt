use lib.ListN.{length}
use Rattle.declarations.specs.Rows.{state, places, declare_messages}
use Rattle.declarations.proofs.MessageLaws.{Going}
use Rattle.declarations.proofs.+declare_messages.Given as goal

abbrev pub decreases-declare_messages : goal.decreases-declare_messages
decreases-declare_messages l = l.left

abbrev pub invariant-loop-place : goal.invariant-loop-place
invariant-loop-place l = Going l.set l.left l.file l.up (declare_messages l.set l.file l.left l.up (places l.set l.number l.fn.part) (state l.fn.rows l.fn.counted)) (length l.fn.rows) l.place-iterator l.rows l.count
