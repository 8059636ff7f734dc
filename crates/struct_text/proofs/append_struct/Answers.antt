use Rattle.std.proofs.Common.{rules, ap}
use Rattle.writer.specs.Writing.{draft_of}
use Rattle.writer.proofs.TextLaws.{filled_from}
use Rattle.struct_text.proofs.StructLaws.{struct_written}
use Rattle.struct_text.proofs.append_struct.Goals as goal

pub returns : goal.returns
returns c =
    filled_from _ _ c.end.new.text (search rules)
    (struct_written c.args.context.now c.args.message.now c.args.proto3 c.args.depth c.args.scope.now c.new-text.result _ _ _ _ c.context.view_is c.message.view_is c.saturating_add.ensures c.fields.ensures.start c.fields.ensures.end c.struct_head.ensures c.append_each_field.ensures c.append_oneof_fields.ensures c.end.ensures)
    (ap draft_of c.new-text.ensures)
