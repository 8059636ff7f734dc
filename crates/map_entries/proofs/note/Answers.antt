use Rattle.map_entries.proofs.PassLaws.{noted_out, noted_in}
use Rattle.map_entries.proofs.note.Goals as goal

pub returns-then-i-who : goal.returns-then-i-who
returns-then-i-who c = noted_in _ _ _ c.if-i-who.true _ c.join.ensures

pub returns-else-i-who : goal.returns-else-i-who
returns-else-i-who c = noted_out _ _ _ c.if-i-who.false
