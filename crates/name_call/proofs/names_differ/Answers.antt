use Rattle.name_call.proofs.DifferLaws.{by_members, by_places}
use Rattle.name_call.proofs.names_differ.Goals as goal

pub returns-then-places_differ : goal.returns-then-places_differ
returns-then-places_differ c = by_members _ _ _ _ _ _ c.places_differ.ensures c.if-places_differ.true _ c.places_differ.auto.rows _ c.members_meet.ensures

pub returns-else-places_differ : goal.returns-else-places_differ
returns-else-places_differ c = by_places _ _ _ _ _ _ c.places_differ.ensures c.if-places_differ.false
