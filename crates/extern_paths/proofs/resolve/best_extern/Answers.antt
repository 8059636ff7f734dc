use Rattle.std.proofs.Common.{refl, sym, ◌∙◌}
use Rattle.base.specs.Choose.{choose}
use Rattle.split.specs.Split.{begins, split_behind, split}
use Rattle.extern_paths.specs.ProstTypes.{path_words}
use Rattle.extern_paths.proofs.TakerLaws.{best_rows, best_all, best_types}
use Rattle.extern_paths.proofs.resolve.best_extern.Goals as goal

pub returns-then-has : goal.returns-then-has
unfolding path_words split split_behind begins choose
returns-then-has c = best_types _ _ _ _ _ _ c.best_type.ensures (rw c.number.ensures at c.best_row-best.ensures.best) c.row_count.ensures.count refl ∙ sym (best_all _ _ (sym c.has.ensures ∙ c.if-has.true))

pub returns-else-has : goal.returns-else-has
returns-else-has c = (rw c.number.ensures at c.best_row-best.ensures.best) ∙ sym (best_rows _ _ (sym c.has.ensures ∙ c.if-has.false))
