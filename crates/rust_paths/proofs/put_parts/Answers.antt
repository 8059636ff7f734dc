use Rattle.std.proofs.Common.{sym, ap, ◌∙◌, ◌∷◌, List, ℕ, map}
use Rattle.writer.specs.Writing.{◌▻◌}
use Rattle.rust_paths.specs.Segments.{written}
use Rattle.rust_paths.specs.Parts.{led, segments}
use Rattle.rust_paths.proofs.PartLaws.{none_led, last_led, more_led}
use Rattle.rust_paths.proofs.put_parts.Goals as goal

pub returns-in_default : goal.returns-in_default
returns-in_default c = none_led _ _ ∙ ap (λ (xs : List (List ℕ)). c.args.text.now ▻ led (map written (segments c.args.camel xs))) (sym c.in_default.ensures.steps.0)

pub loop-part-preserved : goal.loop-part-preserved
loop-part-preserved c = more_led _ _ _ _ _ _ _ c.put.ensures c.put_snake.ensures ∙ (rw c.in-Some-part.ensures.steps at c.loop-part.invariant)

pub returns : goal.returns
returns c =
    last_led _ _ _ _ _ c.put-2.ensures c.put_last.ensures
    ∙ (rw c.in-None.ensures.steps.0 at c.loop-part.invariant)
    ∙ ap (λ (xs : List (List ℕ)). c.args.text.now ▻ led (map written (segments c.args.camel xs))) (ap (λ (xs : List (List ℕ)). c.in-Some.last.now ∷ xs) c.into_iter-part-iterator.ensures.into_iter_gives ∙ sym c.in-Some.ensures.steps)
