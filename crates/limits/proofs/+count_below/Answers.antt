use Rattle.std.proofs.Common.{rules}
use Rattle.wire.specs.Message.{record_seen}
use Rattle.limits.proofs.WalkLaws.{room_left, tally_more}
use Rattle.limits.proofs.+count_below.Goals as goal

pub loop-record-preserved-in-loop-record : goal.loop-record-preserved-in-loop-record
loop-record-preserved-in-loop-record t c =
    record {
      room = room_left _ _ (record_seen c.in-Ok.record) (search rules) _ c.bytes_in-bytes.ensures _ _ c.from-count.ensures _ _ _ c.loop-record.invariant.room c.count_below-count.ensures.bound;
      counted = tally_more _ _ (record_seen c.in-Ok.record) (search rules) _ c.bytes_in-bytes.ensures _ _ c.from-count.ensures _ _ _ _ _ _ c.in-Some-below.below _ _ c.loop-record.invariant.counted (search rules) c.counts.ensures c.around_below-around.ensures.length c.count_below-count.ensures.tally;
    }
