use Rattle.declarations.proofs.FileLaws.{no_package, package_full, package_put}
use Rattle.declarations.proofs.RoomLaws.{room_is}
use native.Mathlib.Omega.{arith}
use mathlib.Core.Path.{sym, ◌∙◌}
use Rattle.declarations.proofs.declare_file.Goals as goal

pub returns-in_default : goal.returns-in_default
returns-in_default c = no_package _ _ _ _ c.args.count _ c.last_string.ensures c.in_default.is _ _ c.declare_members.ensures

pub returns-then-not-has_room : goal.returns-then-not-has_room
returns-then-not-has_room c = package_full _ _ _ _ c.args.count _ c.last_string.ensures _ c.in-Some.is _ c.has_room.ensures c.if-not-has_room.true

pub offset_bounds-rows-count : goal.offset_bounds-rows-count
offset_bounds-rows-count c = omega (arith, room_is _ _ (sym c.has_room.ensures ∙ c.if-not-has_room.false))

pub bounds-rows-count : goal.bounds-rows-count
bounds-rows-count c = (room_is _ _ (sym c.has_room.ensures ∙ c.if-not-has_room.false)).1

pub with_row-own-requires : goal.with_row-own-requires
with_row-own-requires c = omega (arith, room_is _ _ (sym c.has_room.ensures ∙ c.if-not-has_room.false))

pub returns : goal.returns
returns c = package_put _ _ _ _ c.args.count _ c.last_string.ensures _ c.in-Some.is _ c.has_room.ensures c.if-not-has_room.false _ c.saturating_sub.ensures c.with_row-own.result c.with_row-own.ensures.rows c.with_row-own.ensures.messages _ _ c.declare_members-2.ensures
