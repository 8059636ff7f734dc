use Rattle.std.proofs.Common.{◌≡◌}
use Rattle.message_graph.specs.Boxes.{boxed_by_loop}
use Rattle.message_graph.specs.Rows.{row_at}
use Rattle.message_graph.proofs.RowLaws.{owner_row, target_row, kind_row, label_row}
use Rattle.message_graph.proofs.Graph.boxed_by_loop.Goals as goal

pub returns : goal.returns
unfolding boxed_by_loop
returns c =
    let row : c.field_at.result ≡ row_at c.args.self.now c.args.i = rw c.self.view_is at c.field_at.ensures in
    rw (owner_row, target_row, kind_row, label_row, ← row) c.loops.ensures
