use Rattle.index.proofs.IndexLaws.{Going}
use Rattle.index.proofs.+index_in.Given as goal

abbrev pub decreases-index_in : goal.decreases-index_in
decreases-index_in l = l.left

abbrev pub invariant-loop-record : goal.invariant-loop-record
invariant-loop-record l = Going l.left l.number l.part l.base l.file l.up l.initial.rows l.i l.rows l.record-iterator l.next
