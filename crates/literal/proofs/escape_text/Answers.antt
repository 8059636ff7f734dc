use Rattle.std.proofs.Common.{sym, ap, ◌∙◌, List, ℕ}
use Rattle.base.specs.Each.{each}
use Rattle.writer.specs.Writing.{◌▻◌}
use Rattle.literal.specs.Escape.{escape_char, escape_text}
use Rattle.literal.proofs.EscapeLaws.{each-none, each-more}
use Rattle.literal.proofs.escape_text.Goals as goal

pub loop-c-init : goal.loop-c-init
unfolding escape_text
loop-c-init c = ap (λ (l : List ℕ). c.args.text.now ▻ each escape_char l) (c.into_iter-c-iterator.ensures.into_iter_gives ∙ c.new-c-items.ensures)

pub loop-c-preserved : goal.loop-c-preserved
loop-c-preserved c = each-more escape_char _ _ _ _ c.escape_char.ensures ∙ (rw c.in-Some.ensures.steps at c.loop-c.invariant)

pub returns : goal.returns
returns c = sym (each-none escape_char c.loop-c.text) ∙ (rw c.in-None.ensures.steps.0 at c.loop-c.invariant)
