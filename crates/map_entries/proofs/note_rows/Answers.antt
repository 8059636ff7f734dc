use mathlib.Core.Path.{refl}
use Rattle.type_names.proofs.WalkLaws.{walk_start, walk_at, walk_on, walk_end}
use Rattle.map_entries.proofs.PassLaws.{rows_start, rows_skip, rows_more, rows_less, rows_end}
use Rattle.map_entries.proofs.note_rows.Goals as goal

pub loop-row-init : goal.loop-row-init
loop-row-init c = rw c.into_iter-row-iterator.ensures.into_iter_gives (walk_start _ _ _ _ _ (rows_skip _ _ _ _ _ _ _ c.checksum-sum.ensures _) c.likely-row-items.ensures refl (rows_start _ _ _ _ _ _))

pub loop-row-preserved-then-is_named : goal.loop-row-preserved-then-is_named
loop-row-preserved-then-is_named c =
    let w = c.loop-row.invariant in
    let on = c.in-Some.ensures.steps in
    walk_on _ _ _ _ _ _ w on (rows_skip _ _ _ _ _ _ _ c.checksum-sum.ensures _)
    (rows_more _ _ _ _ _ _ _ _ (walk_at _ _ _ _ _ _ w on) _ (c.is_named.ensures c.checksum-sum.ensures) c.if-is_named.true _ c.note.ensures)

pub loop-row-preserved : goal.loop-row-preserved
loop-row-preserved c =
    let w = c.loop-row.invariant in
    let on = c.in-Some.ensures.steps in
    walk_on _ _ _ _ _ _ w on (rows_skip _ _ _ _ _ _ _ c.checksum-sum.ensures _)
    (rows_less _ _ _ _ _ _ _ _ (walk_at _ _ _ _ _ _ w on) _ (c.is_named.ensures c.checksum-sum.ensures) c.if-is_named.false)

pub returns : goal.returns
returns c = rows_end _ _ _ _ _ _ _ (walk_end _ _ _ _ c.loop-row.invariant c.in-None.ensures.steps)
