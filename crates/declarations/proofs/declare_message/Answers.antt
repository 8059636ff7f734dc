use Rattle.declarations.proofs.RoomLaws.{room_is}
use native.Mathlib.Omega.{arith}
use Rattle.declarations.proofs.declare_message.Goals as goal

pub overflow_cast-kind : goal.overflow_cast-kind
overflow_cast-kind c = omega (arith, c.args.count.fewer, room_is _ _ c.requires)

pub offset_bounds-rows-count : goal.offset_bounds-rows-count
offset_bounds-rows-count c = omega (arith, room_is _ _ c.requires)

pub bounds-rows-count : goal.bounds-rows-count
bounds-rows-count c = (room_is _ _ c.requires).1

pub with_message-own-requires : goal.with_message-own-requires
with_message-own-requires c = omega (arith, room_is _ _ c.requires)
