use Rattle.map_entries.proofs.PassLaws.{going_end, going_more}
use Rattle.map_entries.proofs.note_fields.Goals as goal

pub loop-part-preserved : goal.loop-part-preserved
loop-part-preserved c = going_more _ _ _ _ _ _ _ _ c.loop-part.invariant _ _ c.in-Some.ensures.steps _ c.note_field.ensures

pub returns : goal.returns
returns c = going_end _ _ _ _ _ _ _ _ c.loop-part.invariant c.in-None.ensures.steps.0
