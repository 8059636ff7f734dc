use Rattle.std.proofs.Common.{sym, ◌∙◌}
use Rattle.limits.proofs.FitLaws.{message_added, enum_added}
use Rattle.limits.proofs.sort.Sort.added_length.Goals as goal

pub returns-in-Message-clause-adds : goal.returns-in-Message-clause-adds
returns-in-Message-clause-adds c = rw c.in-Message.is (message_added _ _ _ c.name_added.ensures)

pub returns-in-Enum-2-clause-adds : goal.returns-in-Enum-2-clause-adds
returns-in-Enum-2-clause-adds c = rw c.in-Enum-2.is (enum_added _ _ _ c.name_added-in-Enum-2.ensures (sym c.has_more_parts.ensures ∙ c.if-has_more_parts.false))
