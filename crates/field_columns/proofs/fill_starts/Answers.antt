use native.Mathlib.Omega.{arith}
use Rattle.field_columns.proofs.StartLaws.{start_within, start_is, start_next}
use Rattle.message_graph.specs.Tab.{filled_none, filled_more}
use Rattle.field_columns.proofs.fill_starts.Goals as goal

pub loop-i-init : goal.loop-i-init
loop-i-init c = record { filled = filled_none; passed = omega arith }

pub overflow_cast-start : goal.overflow_cast-start
overflow_cast-start c = omega (arith, c.start_from-k.ensures, start_within c.args.fields.now c.rows_counted-rows.result c.loop-i.i, c.rows_counted-rows.ensures.1)

pub loop-i-preserved : goal.loop-i-preserved
loop-i-preserved c = record {
  filled = filled_more c.loop-i.invariant.filled (omega (arith, c.loop-i.invariant.filled.size)) _ (start_is _ _ _ _ c.rows_counted-rows.ensures.0 _ c.start_from-k.ensures);
  passed = start_next _ _ _ _ c.start_from-k.ensures;
}
