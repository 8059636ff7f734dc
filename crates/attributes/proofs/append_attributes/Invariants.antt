use Rattle.std.proofs.Common.{◌≡◌}
use Rattle.options.specs.Kind.{kind_number}
use Rattle.path.specs.PathMap.{get}
use Rattle.code_generator.specs.Attributes.{attributes}
use Rattle.code_generator.specs.Writing.{◌⊳◌}
use Rattle.attributes.proofs.append_attributes.Given as goal

abbrev pub invariant-loop-value : goal.invariant-loop-value
invariant-loop-value l = l.text ⊳ attributes l.depth l.value-iterator ≡ l.initial.text ⊳ attributes l.depth (get (kind_number l.fn.kind) l.path l.fn.options)
