use Rattle.std.proofs.Common.{◌≡◌}
use Rattle.message_graph.specs.Rows.{row_at, message_of}
use Rattle.derives.proofs.Known.{told_none, told_memo, told_at, kept_more, unknown_bound, asked_none, asked_more, asked_all}
use Rattle.derives.proofs.answers.Goals as goal

pub loop-field-init : goal.loop-field-init
loop-field-init c = record { asked = asked_none; kept = told_none }

pub message_can-requires-clause-memo : goal.message_can-requires-clause-memo
message_can-requires-clause-memo c = told_memo c.loop-field.invariant.kept _

pub message_can-requires-clause-sought : goal.message_can-requires-clause-sought
message_can-requires-clause-sought c = told_at c.loop-field.invariant.kept _

pub message_can-requires-clause-memo_bound : goal.message_can-requires-clause-memo_bound
message_can-requires-clause-memo_bound c = unknown_bound _

pub loop-field-preserved : goal.loop-field-preserved
loop-field-preserved c =
    let own : c.place_of-owner.result ≡ message_of (row_at c.args.graph.now c.loop-field.field-index).owner = rw c.fields-fields.ensures at c.place_of-owner.ensures.message in
    record { asked = asked_more c.loop-field.invariant.asked _ own c.message_can.result c.message_can.ensures.value; kept = kept_more c.loop-field.invariant.kept c.message_can.ensures.kept }

pub returns : goal.returns
returns c = asked_all c.loop-field.invariant.asked (rw c.fields-fields.ensures at c.loop-field-test.false)
