use mathlib.Core.Path.{◌∙◌, sym}
use Rattle.type_names.proofs.FrontLaws.{same_reversed, unlike_byte, like_byte, both_end}
use Rattle.type_names.proofs.same_name.Goals as goal

pub loop-byte-init : goal.loop-byte-init
loop-byte-init c = rw (c.into_iter-byte-iterator.ensures.into_iter_gives, c.new-byte-items.ensures, c.new-second.ensures) (same_reversed _ _)

pub returns-then-ne : goal.returns-then-ne
returns-then-ne c = unlike_byte _ _ _ _ _ c.in-Some.ensures.steps _ c.next-in-loop-byte.ensures.steps (sym c.ne.ensures ∙ c.if-ne.true) ∙ c.loop-byte.invariant

pub loop-byte-preserved : goal.loop-byte-preserved
loop-byte-preserved c = like_byte _ _ _ _ _ c.in-Some.ensures.steps _ c.next-in-loop-byte.ensures.steps (sym c.ne.ensures ∙ c.if-ne.false) ∙ c.loop-byte.invariant

pub returns : goal.returns
returns c = both_end _ _ _ c.in-None.ensures.steps.0 _ c.next-2.ensures.steps _ c.is_none.ensures ∙ c.loop-byte.invariant
