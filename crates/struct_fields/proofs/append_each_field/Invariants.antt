use Rattle.std.proofs.Common.{◌≡◌}
use Rattle.struct_fields.proofs.TextLaws.{behind}
use Rattle.struct_fields.proofs.append_each_field.Given as goal

abbrev pub invariant-loop-k : goal.invariant-loop-k
invariant-loop-k l = behind l.context.options l.context.set l.context.fields l.of.proto3 l.of.depth l.of.scope.now l.of.full.now l.text l.k-iterator.end l.k-iterator.start ≡ behind l.context.options l.context.set l.context.fields l.of.proto3 l.of.depth l.of.scope.now l.of.full.now l.fn.text l.fn.fields.end l.fn.fields.start
