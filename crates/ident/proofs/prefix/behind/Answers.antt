use Rattle.std.proofs.Common.{sym, ◌∙◌}
use Rattle.ident.proofs.PrefixLaws.{other_byte, prefix_ends, no_prefix, upper_next, other_next}
use Rattle.ident.proofs.prefix.behind.Goals as goal

pub returns-then-ne : goal.returns-then-ne
returns-then-ne c =
    sym (no_prefix _ _ (sym c.loop-byte.invariant ∙ other_byte _ _ _ _ _ _ c.in-Some.ensures.steps c.next-in-loop-byte.ensures.steps (sym c.ne.ensures ∙ c.if-ne.true)))

pub returns-in-Some-next : goal.returns-in-Some-next
returns-in-Some-next c =
    sym (upper_next _ _ _ (sym c.loop-byte.invariant ∙ prefix_ends _ _ c.in-None.ensures.steps.0) _ _ (sym c.again.ensures ∙ c.in-Some-next.ensures.steps) (sym c.is_ascii_uppercase.ensures.value ∙ c.if-is_ascii_uppercase.true))

pub returns-in_default : goal.returns-in_default
returns-in_default c =
    sym (other_next _ _ _ (sym c.loop-byte.invariant ∙ prefix_ends _ _ c.in-None.ensures.steps.0) _ _ (sym c.again.ensures ∙ c.in-Some-next.ensures.steps) (sym c.is_ascii_uppercase.ensures.value ∙ c.if-is_ascii_uppercase.false))
