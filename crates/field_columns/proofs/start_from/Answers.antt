use native.Mathlib.Omega.{arith}
use Rattle.field_columns.proofs.StartLaws.{start_within, start_here, start_more}
use Rattle.field_columns.proofs.start_from.Goals as goal

pub returns-then-i-up : goal.returns-then-i-up
returns-then-i-up c = start_here _ _ _ _ c.loop-n.invariant c.loop-n-test.true _ c.row_of.ensures _ c.from-up.ensures c.if-i-up.true

pub loop-n-preserved : goal.loop-n-preserved
loop-n-preserved c = start_more _ _ _ _ c.loop-n.invariant c.loop-n-test.true _ c.row_of.ensures _ c.from-up.ensures c.if-i-up.false

pub returns : goal.returns
returns c = omega (arith, start_within c.args.fields.now c.args.count c.args.i)
