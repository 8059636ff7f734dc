use Rattle.std.proofs.Common.{arith, ap, ◌∙◌}
use Rattle.context.specs.Given.{Given}
use Rattle.file_parts.specs.Numbered.{after_message}
use Rattle.file_parts.proofs.WalkLaws.{along_start, along_on, along_end}
use Rattle.file_faults.proofs.WalkLaws.{no_level, one_level, none_more, one_more}
use Rattle.file_faults.proofs.+message_faults_messages_faults.Goals as goal

pub messages_faults-returns-then-left-eq0 : goal.messages_faults-returns-then-left-eq0
messages_faults-returns-then-left-eq0 t c = no_level _ _ _ _ _ _ _ _ c.if-left-eq0.true

pub messages_faults-loop-number-init : goal.messages_faults-loop-number-init
messages_faults-loop-number-init t c =
    along_start (c.into_iter-number-iterator.ensures.into_iter_gives ∙ c.new-number-items.ensures) (ap (λ (x : Given). x.messages) c.context.view_is) (let b = c.requires.0 in omega arith)
    (one_level _ _ _ _ _ _ _ _ c.if-left-eq0.false)

pub messages_faults-loop-number-preserved : goal.messages_faults-loop-number-preserved
messages_faults-loop-number-preserved t c =
    along_on c.loop-number.invariant after_message c.in-Some.ensures.steps (omega arith) (one_more _ _ _ _ _ _ c.loop-number.found _ _ _ _ _ c.message_faults.ensures c.or-found.ensures)

pub messages_faults-returns : goal.messages_faults-returns
messages_faults-returns t c = none_more _ _ _ _ _ _ c.loop-number.found _ ∙ along_end c.loop-number.invariant c.in-None.ensures.steps.0
