use Rattle.std.proofs.Common.{sym, ◌∙◌}
use Rattle.limits.proofs.AnswerLaws.{none_passed}
use Rattle.text_call.proofs.AcceptLaws.{accepts}
use Rattle.text_call.proofs.text.Goals as goal

pub invariant_of-file_answer : goal.invariant_of-file_answer
invariant_of-file_answer c = record {
  accepted = accepts _ _ _ (sym c.check.ensures ∙ c.in_ok-check.was) (sym c.read_set.ensures ∙ c.in_ok-read_set.was)
      (sym c.check_index.ensures ∙ c.in_ok-check_index.was) (sym (c.judge_names.ensures (none_passed _ (sym c.read_set.ensures ∙ c.in_ok-read_set.was))) ∙ c.in_ok-judge_names.was);
}
