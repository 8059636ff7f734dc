use mathlib.Core.Path.{ap}
use mathlib.Core.Logic.{⊎_elim}
use Rattle.declarations.specs.declared.Declaration.{Declaration as Row}
use Rattle.map_entries.proofs.EntryRowLaws.{parent_none, parent_behind, parent_is}
use Rattle.map_entries.proofs.parent_of.Goals as goal

pub returns-then-up-eq0 : goal.returns-then-up-eq0
returns-then-up-eq0 c =
    ⊎_elim (λ e. parent_none _ _ _ (ap (λ (r : Row). r.up) c.row-up.ensures) e) (λ p. parent_behind _ _ _ (ap (λ (r : Row). r.up) c.row-up.ensures) p.1) c.then-up-eq0.either

pub returns : goal.returns
returns c = parent_is _ _ _ (ap (λ (r : Row). r.up) c.row-up.ensures) c.if-up-eq0.false c.if-i-up.false _ c.row.ensures
