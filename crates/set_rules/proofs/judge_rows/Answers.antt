use Rattle.set_rules.proofs.NameAnswers.{six_is, seven_is, answer_six, answer_seven, answer_good}
use Rattle.set_rules.proofs.judge_rows.Goals as goal

pub returns-then-six-files : goal.returns-then-six-files
returns-then-six-files c = λ count is h. answer_six _ _ _ c.count_parts-files.ensures (six_is _ _ _ _ h.room _ h.became _ is _ _ _ _ c.note_set.ensures c.first_bad_file-bad.ensures c.first_unnamed-unnamed.ensures c.min-six.ensures) c.if-six-files.true

pub returns-then-seven-files : goal.returns-then-seven-files
returns-then-seven-files c = λ count is h. answer_seven _ _ _ c.count_parts-files.ensures (six_is _ _ _ _ h.room _ h.became _ is _ _ _ _ c.note_set.ensures c.first_bad_file-bad.ensures c.first_unnamed-unnamed.ensures c.min-six.ensures) c.if-six-files.false _ (seven_is _ _ _ _ h.room _ h.became _ is _ c.first_undeclared-seven.ensures) c.if-seven-files.true

pub returns : goal.returns
returns c = λ count is h. answer_good _ _ _ c.count_parts-files.ensures (six_is _ _ _ _ h.room _ h.became _ is _ _ _ _ c.note_set.ensures c.first_bad_file-bad.ensures c.first_unnamed-unnamed.ensures c.min-six.ensures) c.if-six-files.false _ (seven_is _ _ _ _ h.room _ h.became _ is _ c.first_undeclared-seven.ensures) c.if-seven-files.false
