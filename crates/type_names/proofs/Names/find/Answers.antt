use mathlib.Core.Path.{refl}
use Rattle.type_names.proofs.WalkLaws.{walk_start, walk_at, walk_on, walk_end}
use Rattle.type_names.proofs.FindLaws.{going_start, going_skips, going_found, going_more, going_end}
use Rattle.type_names.proofs.Names.find.Goals as goal

pub loop-row-init : goal.loop-row-init
loop-row-init c = rw c.into_iter-row-iterator.ensures.into_iter_gives (walk_start _ _ _ _ _ (going_skips _ _ _ _ _ _ c.checksum-sum.ensures _) c.likely-row-items.ensures refl (going_start _ _ _ _ _))

pub loop-row-preserved-then-row_fits : goal.loop-row-preserved-then-row_fits
loop-row-preserved-then-row_fits c =
    let w = c.loop-row.invariant in
    let on = c.in-Some.ensures.steps in
    walk_on _ _ _ _ _ _ w on (going_skips _ _ _ _ _ _ c.checksum-sum.ensures _)
    (going_found _ _ _ _ _ _ _ (walk_at _ _ _ _ _ _ w on) _ (c.row_fits.ensures c.checksum-sum.ensures) c.if-row_fits.true)

pub loop-row-preserved : goal.loop-row-preserved
loop-row-preserved c =
    let w = c.loop-row.invariant in
    let on = c.in-Some.ensures.steps in
    walk_on _ _ _ _ _ _ w on (going_skips _ _ _ _ _ _ c.checksum-sum.ensures _)
    (going_more _ _ _ _ _ _ _ (walk_at _ _ _ _ _ _ w on) _ (c.row_fits.ensures c.checksum-sum.ensures) c.if-row_fits.false)

pub returns : goal.returns
returns c = going_end _ _ _ _ _ _ (walk_end _ _ _ _ c.loop-row.invariant c.in-None.ensures.steps)
