use Rattle.std.proofs.Common.{rules, refl, ap, arith, length}
use Rattle.wire.specs.Message.{record_seen, fields_in}
use Rattle.index.proofs.RoomLaws.{field_bytes}
use Rattle.index.proofs.SeenLaws.{forest_of}
use Rattle.index.specs.Tree.{forest_in, rows, fill, size}
use Rattle.index.proofs.IndexLaws.{going_start, going_end, going_skip, inner_fits, going_node}
use Rattle.index.proofs.+index_in.Goals.{in_default-via-in-Err-1, in_default-via-in-Ok+else-record-number}
use Rattle.index.proofs.+index_in.Goals as goal

pub returns-then-left-eq0 : goal.returns-then-left-eq0
unfolding forest_in rows fill size
returns-then-left-eq0 t c = (rw c.if-left-eq0.true (record { table = refl; counted = omega arith }), omega arith)

pub loop-record-init : goal.loop-record-init
loop-record-init t c = going_start _ _ _ _ _ _ _ _ _ (search rules) c.if-left-eq0.false

pub index_in-after-requires : goal.index_in-after-requires
index_in-after-requires t c =
    let f = inner_fits _ _ _ _ _ _ _ _ _ _ _ c.next.new.self (record_seen c.in-Ok.record) (search rules) c.loop-record.invariant c.requires.room.0 c.requires.room.1 _ (ap length c.bytes_in-bytes.ensures) in
    (omega (arith, c.decreases, c.if-left-eq0.false), (f, (c.requires.numbers.0, omega (arith, f.1))))

pub made_row-requires-clause-numbers : goal.made_row-requires-clause-numbers
made_row-requires-clause-numbers t c =
    let f = inner_fits _ _ _ _ _ _ _ _ _ _ _ c.next.new.self (record_seen c.in-Ok.record) (search rules) c.loop-record.invariant c.requires.room.0 c.requires.room.1 _ (ap length c.bytes_in-bytes.ensures) in
    (c.requires.numbers.0, c.requires.numbers.1, omega (arith, f.1, c.index_in-after.ensures.1))

pub loop-record-preserved-in-loop-record : goal.loop-record-preserved-in-loop-record
loop-record-preserved-in-loop-record t c =
    going_node _ _ _ _ _ _ _ _ _ _ _ _ (record_seen c.in-Ok.record) (search rules) c.loop-record.invariant c.if-record-number.true _ c.bytes_in-bytes.ensures _ refl
    _ _ c.index_in-after.ensures.0 c.index_in-after.ensures.1 _ c.made_row.ensures _ c.put_row.ensures

pub loop-record-preserved : goal.loop-record-preserved
unfolding fields_in field_bytes forest_of
loop-record-preserved t c =
    elim c.in_default.branch [
      | in_default-via-in-Err-1 w ↦ search rules
      | in_default-via-in-Ok+else-record-number w ↦ going_skip _ _ _ _ _ _ _ _ _ _ _ _ (record_seen w.in-Ok.record) (search rules) c.loop-record.invariant w.if-record-number.false
    ]

pub returns : goal.returns
returns t c = going_end _ _ _ _ _ _ _ _ _ _ _ (search rules) c.loop-record.invariant
