use native.Mathlib.Omega.{arith}
use Rattle.type_names.proofs.RowSumLaws.{name_apart}
use Rattle.type_names.proofs.NamedLaws.{named_past, named_is, going_other, going_end}
use Rattle.type_names.proofs.Names.is_named.Goals.{then-row-gt65535-via-then-row-gt65535, then-row-gt65535-via-else-row-gt65535+then-sums_apart}
use Rattle.type_names.proofs.Names.is_named.Goals as goal

pub returns-then-row-gt65535 : goal.returns-then-row-gt65535
returns-then-row-gt65535 c =
    elim c.then-row-gt65535.branch [
      | then-row-gt65535-via-then-row-gt65535 w ↦ λ _. named_past _ _ _ _ w.if-row-gt65535.true
      | then-row-gt65535-via-else-row-gt65535+then-sums_apart w ↦ λ is. name_apart _ _ _ c.args.self.now.summed _ _ _ is (w.sums_apart.ensures w.if-sums_apart.true)
    ]

pub returns-in_default : goal.returns-in_default
returns-in_default c =
    λ _. named_is _ _ _ _ (omega (arith, c.if-row-gt65535.false)) _ (going_other _ _ _ _ _ _ c.loop-i.invariant _ _ c.in-Some.ensures.steps c.in_default.ensures)

pub returns : goal.returns
returns c = λ _. named_is _ _ _ _ (omega (arith, c.if-row-gt65535.false)) _ (going_end _ _ _ _ _ _ c.loop-i.invariant c.in-None.ensures.steps _ c.is_empty.ensures)
