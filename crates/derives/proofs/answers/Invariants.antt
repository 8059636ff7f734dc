use Rattle.std.proofs.Common.{replicate}
use Rattle.std.specs.Prelude.{None}
use Rattle.message_graph.specs.Limit.{messages}
use Rattle.derives.specs.Memo.{Kept}
use Rattle.derives.proofs.Known.{Asked}
use Rattle.derives.proofs.answers.Given as goal

abbrev pub invariant-loop-field : goal.invariant-loop-field
invariant-loop-field l = record { asked : Asked l.fn.derive l.graph l.can l.field-index; kept : Kept l.fn.derive l.graph (replicate messages None) l.memo }
