use Rattle.index.proofs.MemberLaws.{going_start, going_large, going_many, going_end, going_full, going_more, counted_in, taken}
use Rattle.index.proofs.index_members.Goals as goal

pub returns-then-set-gt32768 : goal.returns-then-set-gt32768
returns-then-set-gt32768 c = going_large _ _ _ _ _ _ c.if-set-gt32768.true

pub returns-then-count-gt1024 : goal.returns-then-count-gt1024
returns-then-count-gt1024 c = going_many _ _ _ _ _ _ c.if-set-gt32768.false c.if-count-gt1024.true

pub loop-j-init : goal.loop-j-init
loop-j-init c = going_start _ _ _ _ _ _ c.if-set-gt32768.false c.if-count-gt1024.false

pub returns-then-next-gt32767 : goal.returns-then-next-gt32767
returns-then-next-gt32767 c = going_full _ _ _ _ _ _ _ _ _ c.loop-j.invariant c.if-next-gt32767.true

pub loop-j-preserved : goal.loop-j-preserved
loop-j-preserved c =
    going_more _ _ _ _ _ _ _ _ _ c.loop-j.invariant (counted_in _ _ _ _ c.min-known.ensures c.loop-j-test.true) c.if-next-gt32767.false _ (taken _ _ _ _ c.min-known.ensures c.loop-j-test.true)
    _ _ c.from-start.ensures c.from-file.ensures _ c.bytes_of-part.ensures _ _ c.index_in-next.ensures.0

pub returns : goal.returns
returns c = going_end _ _ _ _ _ _ _ _ _ c.loop-j.invariant _ c.min-known.ensures c.loop-j-test.false
