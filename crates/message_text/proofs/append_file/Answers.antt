use Rattle.std.proofs.Common.{rules, ap, ◌∙◌}
use Rattle.writer.specs.Writing.{draft_of}
use Rattle.writer.proofs.TextLaws.{filled_from}
use Rattle.message_text.proofs.TextLaws.{file_written}
use Rattle.message_text.proofs.append_file.Goals as goal

pub returns : goal.returns
returns c =
    filled_from _ c.new-text.result c.append_enums.new.text (search rules)
    (file_written c.args.context.now c.args.first c.args.part.now c.new-text.result _ _ c.context.view_is c.min-first.ensures c.is_proto3-proto3.ensures (c.as_bytes-scope.ensures ∙ c.package-scope.ensures) c.new-messages.ensures.parts c.append_messages.ensures c.append_enums.ensures)
    (ap draft_of c.new-text.ensures)
