use Rattle.declarations.proofs.FileLaws.{members_are}
use Rattle.declarations.proofs.declare_members.Goals as goal

pub returns : goal.returns
returns c = members_are _ _ _ _ c.args.count _ _ _ _ _ c.declare_messages-messages.ensures c.declare_enums.ensures
