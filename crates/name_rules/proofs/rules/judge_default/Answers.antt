use Rattle.base.specs.Steps.{whole}
use Rattle.utf8.specs.Chars.{chars_end, chars_fault, chars_next, char_forward}
use Rattle.name_rules.specs.Rules.{judged}
use mathlib.Core.Path.{sym, ap, ◌∙◌}
use native.Mathlib.Omega.{arith}
use Rattle.name_rules.proofs.rules.judge_default.Goals as goal

pub returns-in_default : goal.returns-in_default
returns-in_default c = ap judged (sym (ap whole (chars_fault _ _ c.loop-at-test.true _ c.char_at.ensures c.in_default.is)) ∙ c.loop-at.invariant)

pub loop-at-smaller : goal.loop-at-smaller
loop-at-smaller c = let l = char_forward _ _ c.loop-at-test.true _ c.char_at.ensures _ _ c.in-Character.is in omega arith

pub loop-at-preserved : goal.loop-at-preserved
loop-at-preserved c = sym (ap whole (chars_next _ _ c.loop-at-test.true _ c.char_at.ensures _ _ c.in-Character.is)) ∙ c.loop-at.invariant

pub returns : goal.returns
returns c = ap judged (sym (ap whole (chars_end _ _ c.loop-at-test.false)) ∙ c.loop-at.invariant)
