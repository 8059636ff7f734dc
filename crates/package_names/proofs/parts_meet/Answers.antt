use Rattle.std.proofs.Common.{rules}
use Rattle.package_names.proofs.MeetLaws.{meets_read}
use Rattle.package_names.proofs.parts_meet.Goals as goal

pub returns : goal.returns
returns c =
    meets_read _ _ _ _ _ _ _ _ c.left.view_is c.new-left.ensures c.right.view_is c.new-right.ensures c.zip.result c.is_some_and.result c.zip.ensures (λ e. rw e at c.is_some_and.ensures)
    (λ p e. let h = rw e at c.is_some_and.ensures in search rules)
