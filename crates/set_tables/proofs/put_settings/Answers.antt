use Rattle.std.proofs.Common.{arith}
use Rattle.set_tables.proofs.FillLaws.{settings_put, settings_unset}
use Rattle.set_tables.proofs.put_settings.Goals as goal

pub returns-then-has : goal.returns-then-has
returns-then-has c = settings_put _ _ _ _ _ c.requires (omega arith) c.boxed_settings.ensures

pub returns-else-has : goal.returns-else-has
returns-else-has c = settings_unset _ _ _ c.requires _ c.has.ensures c.if-has.false
