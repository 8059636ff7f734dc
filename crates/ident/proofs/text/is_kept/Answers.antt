use Rattle.std.proofs.Common.{sym, ◌∙◌}
use Rattle.ident.proofs.NumberLaws.{not_kept}
use Rattle.ident.proofs.text.is_kept.Goals as goal

pub returns-in_default-2 : goal.returns-in_default-2
returns-in_default-2 c = sym (not_kept _ _ _ (sym c.again.ensures ∙ c.in-Some.ensures.steps) (sym c.begins_kept.ensures ∙ c.if-begins_kept.false))
