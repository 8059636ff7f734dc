use Rattle.std.proofs.Common.{rules}
use Rattle.package_names.proofs.MeetLaws.{stands_read}
use Rattle.package_names.proofs.part_stands.Goals as goal

pub returns : goal.returns
returns c =
    stands_read _ _ _ _ c.new-2.view_is c.new.ensures _ c.is_some_and.result (λ e. rw e at c.is_some_and.ensures)
    (λ name e. let h = rw e at c.is_some_and.ensures in search rules)
