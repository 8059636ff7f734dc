use Rattle.std.proofs.Common.{ap, ◌∙◌, List, length}
use Rattle.descriptor.specs.Descriptor.{Bytes}
use Rattle.member_rows.specs.MemberRows.{messages_meet}
use Rattle.member_rows.proofs.WalkLaws.{file_here}
use Rattle.member_rows.proofs.file_meets.Goals as goal

pub returns : goal.returns
returns c =
    let g = c.args.context.now in
    file_here _ _ _ _ _ _ _ _ (c.as_bytes.ensures ∙ c.package-scope.ensures) _
    (c.messages_meet.ensures ∙ ap (λ (ps : List Bytes). messages_meet g.options (length c.args.rows.now) g.set g.messages g.fields 16 c.as_bytes.result.now c.args.first ps) c.new-messages.ensures.parts)
