use Rattle.std.specs.Prelude.{refl}
use Rattle.text_call.proofs.RoomLaws.{no_room, written}
use Rattle.text_call.proofs.copy_whole.Goals as goal

pub returns-then-room-needed : goal.returns-then-room-needed
returns-then-room-needed c = no_room _ _ _ c.min-room.ensures c.if-room-needed.true

pub returns : goal.returns
returns c = written _ _ _ c.min-room.ensures c.if-room-needed.false c.copy_front.ensures refl
