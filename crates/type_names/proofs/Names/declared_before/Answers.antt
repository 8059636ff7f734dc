use native.Mathlib.Omega.{arith}
use Rattle.type_names.proofs.WalkLaws.{walk_start, walk_at, walk_on, walk_end}
use Rattle.type_names.proofs.BeforeLaws.{past, left_start, left_skips, left_apart, left_found, left_more, left_end}
use Rattle.type_names.proofs.Names.declared_before.Goals as goal
use Rattle.type_names.proofs.Names.declared_before.Goals.{else-not-rows_apart-via-then-not-rows_apart+else-row_same, else-not-rows_apart-via-else-not-rows_apart}

pub returns-then-row-gt65535 : goal.returns-then-row-gt65535
returns-then-row-gt65535 c = past _ _ _ c.if-row-gt65535.true

pub loop-other-init : goal.loop-other-init
loop-other-init c = rw c.into_iter-other-iterator.ensures.into_iter_gives (walk_start _ _ _ _ _ (left_skips _ _ _) c.likely_before-other-items.ensures.seeks c.likely_before-other-items.ensures.sum (left_start _ _ _ (omega (arith, c.if-row-gt65535.false))))

pub returns-then-row_same : goal.returns-then-row_same
returns-then-row_same c = left_found _ _ _ _ (walk_at _ _ _ _ _ _ c.loop-other.invariant c.in-Some.ensures.steps) _ c.row_same.ensures c.if-row_same.true

pub loop-other-preserved : goal.loop-other-preserved
loop-other-preserved c =
    let w = c.loop-other.invariant in
    let on = c.in-Some.ensures.steps in
    walk_on _ _ _ _ _ _ w on (left_skips _ _ _)
    (elim c.else-not-rows_apart.branch [
      | else-not-rows_apart-via-then-not-rows_apart+else-row_same b ↦ left_more _ _ _ _ (walk_at _ _ _ _ _ _ w on) _ b.row_same.ensures b.if-row_same.false
      | else-not-rows_apart-via-else-not-rows_apart b ↦ left_apart _ _ _ _ (walk_at _ _ _ _ _ _ w on) _ c.args.self.now.summed (c.rows_apart.ensures b.if-not-rows_apart.false)
    ])

pub returns : goal.returns
returns c = left_end _ _ _ (walk_end _ _ _ _ c.loop-other.invariant c.in-None.ensures.steps)
