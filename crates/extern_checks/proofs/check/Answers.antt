use Rattle.std.proofs.Common.{◌≡◌, ◌-◌, sym, ap, ◌∙◌, length, arith, length-drop}
use Rattle.std.proofs.lemmas.Grind.{common_steps}
use Rattle.std.specs.Iterator.Adapters.{enumerate_source, enumerate_count}
use Rattle.extern_checks.proofs.DoubleLaws.{externs_all, externs_bad, externs_more, externs_end, others_are}
use Rattle.extern_checks.proofs.check.Goals as goal

pub loop-number-init : goal.loop-number-init
loop-number-init c =
    let none : enumerate_count c.into_iter-number-iterator.result ≡ 0 = grind (arith, common_steps) in
    let all : enumerate_source c.into_iter-number-iterator.result ≡ c.args.options.now = grind (arith, common_steps) in
    record { here = rw none all; rest = rw none (externs_all c.args.options.now) }

pub returns-then-is_at_fault : goal.returns-then-is_at_fault
returns-then-is_at_fault c =
    rw c.in-Some.ensures.steps.1 (sym (sym c.loop-number.invariant.rest ∙ externs_bad _ _ _ _ (sym c.in-Some.ensures.steps.0 ∙ c.loop-number.invariant.here) (rw c.in-Some.ensures.steps.1 at (sym c.is_at_fault.ensures ∙ c.if-is_at_fault.true))))

pub loop-number-preserved : goal.loop-number-preserved
loop-number-preserved c =
    record {
      here = rw c.in-Some.ensures.steps.2 (others_are c.args.options.now (enumerate_count c.loop-number.number-iterator) _ _ (sym c.in-Some.ensures.steps.0 ∙ c.loop-number.invariant.here));
      rest = rw c.in-Some.ensures.steps.2 (externs_more _ _ _ _ (sym c.in-Some.ensures.steps.0 ∙ c.loop-number.invariant.here) (rw c.in-Some.ensures.steps.1 at (sym c.is_at_fault.ensures ∙ c.if-is_at_fault.false)) ∙ c.loop-number.invariant.rest);
    }

pub returns : goal.returns
returns c =
    let none : length c.args.options.now - enumerate_count c.loop-number.number-iterator ≡ 0 = sym (length-drop _ _) ∙ ap length (sym c.loop-number.invariant.here ∙ c.in-None.ensures.steps.0.0) in
    sym (sym c.loop-number.invariant.rest ∙ externs_end _ _ (omega arith))
