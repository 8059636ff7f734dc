use Rattle.declarations.proofs.EnumLaws.{going_end, going_full, going_more}
use Rattle.declarations.proofs.RoomLaws.{room_is}
use native.Mathlib.Omega.{arith}
use mathlib.Core.Path.{sym, ◌∙◌}
use Rattle.declarations.proofs.declare_enums.Goals as goal

pub returns-then-not-has_room : goal.returns-then-not-has_room
returns-then-not-has_room c = going_full _ _ _ _ _ _ _ _ c.loop-place.invariant _ _ c.in-Some.ensures.steps _ c.has_room.ensures c.if-not-has_room.true

pub offset_bounds-rows-row : goal.offset_bounds-rows-row
offset_bounds-rows-row c = omega (arith, room_is _ _ (sym c.has_room.ensures ∙ c.if-not-has_room.false))

pub bounds-rows-row : goal.bounds-rows-row
bounds-rows-row c = (room_is _ _ (sym c.has_room.ensures ∙ c.if-not-has_room.false)).1

pub with_row-count-requires : goal.with_row-count-requires
with_row-count-requires c = omega (arith, room_is _ _ (sym c.has_room.ensures ∙ c.if-not-has_room.false))

pub loop-place-preserved : goal.loop-place-preserved
loop-place-preserved c = going_more _ _ _ _ _ _ _ _ c.loop-place.invariant _ _ c.in-Some.ensures.steps _ c.has_room.ensures c.if-not-has_room.false _ c.declaration_row.ensures _ c.with_row-count.ensures.rows c.with_row-count.ensures.messages

pub returns : goal.returns
returns c = going_end _ _ _ _ _ _ _ _ c.loop-place.invariant c.in-None.ensures.steps.0
