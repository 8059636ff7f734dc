use Rattle.std.proofs.Common.{◌≡◌, rules}
use Rattle.message_graph.specs.Rows.{range_at}
use Rattle.message_graph.proofs.RowLaws.{part_of}
use Rattle.message_graph.proofs.Graph.fields_of.Goals as goal

pub returns : goal.returns
returns c =
    let range : c.unwrap_or-range.result ≡ range_at c.self.inside.ranges c.args.message = search rules in
    rw (← c.self.view_is, range) (part_of c.self.invariant c.args.message)
