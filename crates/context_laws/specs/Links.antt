-- Leading by full names, as a relation. Assumes nothing.
use mathlib.Core.List.{List}
use Rattle.descriptor.specs.Descriptor.{Bytes}
use Rattle.context.specs.MessageGraph.{Link}
use Rattle.message_graph.specs.Walks.{Walk}

-- document 01's leading, as a relation: a walk along links
abbrev pub Led : List Link → Bytes → Bytes → Type 0
Led = Walk (λ (l : Link). l.from) (λ (l : Link). l.to)
