use Rattle.std.proofs.Common.{◌∙◌}
use Rattle.file_faults.proofs.WalkLaws.{file_found}
use Rattle.file_faults.proofs.file_faults.Goals as goal

pub returns : goal.returns
returns c =
    file_found c.args.context.now c.args.first c.args.part.now c.context.view_is c.min-first.ensures (c.as_bytes-scope.ensures ∙ c.package-scope.ensures) c.new-messages.ensures.parts
    c.messages_faults-found.ensures c.enums_meet-overlap.ensures c.or.ensures
