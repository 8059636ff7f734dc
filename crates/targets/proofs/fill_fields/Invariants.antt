use Rattle.message_graph.specs.Tab.{Filled}
use Rattle.targets.specs.Targets.{field_in}
use Rattle.targets.proofs.fill_fields.Given as goal

abbrev pub invariant-loop-k : goal.invariant-loop-k
invariant-loop-k l = Filled (field_in l.names.declared.set.now l.places l.names.declared.rows.now l.names.declared.count l.settings) l.initial.fields l.fields l.k
