use Rattle.std.proofs.Common.{sym, ap, ◌∙◌, List, ℕ, Result}
use Rattle.writer.specs.Writing.{◌▻◌}
use Rattle.literal.specs.Escape.{escape_bytes}
use Rattle.literal.proofs.EscapeLaws.{escape_bytes-more, escape_bytes-none}
use Rattle.c_escaping.specs.Unescape.{unescape_from}
use Rattle.c_escaping.specs.declared.bytes.BadEscape.{BadEscape}
use Rattle.c_escaping.proofs.ResultLaws.{before_error, before_error-results}
use Rattle.c_escaping.proofs.escape_unescaped.Goals as goal

pub loop-unescaped-init : goal.loop-unescaped-init
loop-unescaped-init c =
    ap (λ (l : List (Result ℕ BadEscape)). c.args.text.now ▻ escape_bytes (before_error l)) (c.into_iter-unescaped-iterator.ensures.into_iter_gives ∙ c.new-unescaped-items.ensures)
    ∙ ap (λ (l : List ℕ). c.args.text.now ▻ escape_bytes l) (before_error-results (unescape_from c.args.s.now 0))

pub returns-in_default : goal.returns-in_default
returns-in_default c = sym (escape_bytes-none c.loop-unescaped.text) ∙ (rw (c.in-Some.ensures.steps, c.in_default.is) at c.loop-unescaped.invariant)

pub loop-unescaped-preserved : goal.loop-unescaped-preserved
loop-unescaped-preserved c = escape_bytes-more _ _ _ _ c.escape_byte.ensures ∙ (rw (c.in-Some.ensures.steps, c.in-Ok.is) at c.loop-unescaped.invariant)

pub returns : goal.returns
returns c = sym (escape_bytes-none c.loop-unescaped.text) ∙ (rw c.in-None.ensures.steps.0 at c.loop-unescaped.invariant)
