use Rattle.std.proofs.Common.{sym, ap, ◌∙◌, ◌∷◌, List, ℕ}
use Rattle.writer.specs.Writing.{◌▻◌}
use Rattle.way.specs.Names.{downwards}
use Rattle.way.proofs.WayLaws.{one_down, more_down}
use Rattle.way.proofs.put_downwards.Goals as goal

pub loop-name-preserved : goal.loop-name-preserved
loop-name-preserved c = more_down _ _ _ _ _ _ c.put_snake.ensures c.put.ensures ∙ (rw c.in-Some-name.ensures.steps at c.loop-name.invariant)

pub returns : goal.returns
returns c =
    c.put_upper_camel.ensures ∙ ap (λ (p : List ℕ). c.loop-name.text ▻ p) (sym (one_down _))
    ∙ (rw c.in-None.ensures.steps.0 at c.loop-name.invariant)
    ∙ ap (λ (xs : List (List ℕ)). c.args.text.now ▻ downwards xs) (ap (λ (xs : List (List ℕ)). c.in-Some.module.now ∷ xs) c.into_iter-name-iterator.ensures.into_iter_gives ∙ sym c.in-Some.ensures.steps)
