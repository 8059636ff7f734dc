use Rattle.std.proofs.Common.{sym}
use Rattle.message_graph.specs.Limit.{messages}
use Rattle.message_graph.specs.Decided.{outside_from, outside_to}
use Rattle.message_graph.proofs.Visits.{off, visited_all}
use Rattle.message_graph.proofs.Graph.is_nested.Goals.{then-outer-ge-MESSAGES-via-then-outer-ge-MESSAGES, then-outer-ge-MESSAGES-via-else-outer-ge-MESSAGES+then-inner-ge-MESSAGES}
use Rattle.message_graph.proofs.Graph.is_nested.Goals as goal

pub returns-then-outer-ge-MESSAGES : goal.returns-then-outer-ge-MESSAGES
returns-then-outer-ge-MESSAGES c =
    elim c.then-outer-ge-MESSAGES.branch [
      | then-outer-ge-MESSAGES-via-then-outer-ge-MESSAGES w ↦ sym (outside_from _ _ _ w.if-outer-ge-MESSAGES.true)
      | then-outer-ge-MESSAGES-via-else-outer-ge-MESSAGES+then-inner-ge-MESSAGES w ↦ sym (outside_to _ _ _ w.if-inner-ge-MESSAGES.true)
    ]

pub visit-requires-clause-clear : goal.visit-requires-clause-clear
visit-requires-clause-clear c = off messages c.args.outer

pub returns : goal.returns
returns c = visited_all messages c.visit.ensures _
