use Rattle.declarations.proofs.MessageLaws.{none_left, going_end, going_full, going_more}
use Rattle.declarations.proofs.RoomLaws.{room_is}
use native.Mathlib.Omega.{arith}
use mathlib.Core.Path.{sym, ◌∙◌}
use Rattle.declarations.proofs.+declare_messages.Goals as goal

pub returns-then-left-eq0 : goal.returns-then-left-eq0
returns-then-left-eq0 t c = record { is = none_left _ _ _ _ _ _ c.if-left-eq0.true; fewer = c.args.counted.fewer }

pub returns-then-not-has_room : goal.returns-then-not-has_room
returns-then-not-has_room t c = going_full _ _ _ _ _ _ _ _ _ c.loop-place.invariant c.if-left-eq0.false _ _ c.in-Some.ensures.steps _ c.has_room.ensures c.if-not-has_room.true

pub overflow_add-row : goal.overflow_add-row
overflow_add-row t c = omega (arith, room_is _ _ (sym c.has_room.ensures ∙ c.if-not-has_room.false))

pub loop-place-preserved : goal.loop-place-preserved
loop-place-preserved t c = going_more _ _ _ _ _ _ _ _ _ c.loop-place.invariant c.if-left-eq0.false _ _ c.in-Some.ensures.steps _ c.has_room.ensures c.if-not-has_room.false _ _ _ _ c.declare_message-own.ensures c.declare_messages-count.ensures

pub returns : goal.returns
returns t c = going_end _ _ _ _ _ _ _ _ _ c.loop-place.invariant c.in-None.ensures.steps.0
