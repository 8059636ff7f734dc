use mathlib.Core.Path.{ap, sym, ◌∙◌}
use mathlib.Core.Bool.{not}
use Rattle.base.specs.Tests.{both_ways}
use Rattle.declarations.specs.Rows.{kind_number}
use Rattle.declarations.specs.declared.Declaration.{Declaration as Row}
use Rattle.type_names.proofs.RowSumLaws.{name_apart}
use Rattle.type_names.proofs.FindLaws.{fits_named, fits_not, fits_none}
use Rattle.type_names.proofs.Names.row_fits.Goals as goal
use Rattle.type_names.proofs.Names.row_fits.Goals.{then-not-sums_apart, else-not-sums_apart}

pub returns-then-is_wanted : goal.returns-then-is_wanted
returns-then-is_wanted c = λ is.
    elim c.if-not-sums_apart.branch [
      | then-not-sums_apart w ↦ fits_named _ _ _ _ _ _ _ _ (ap (λ (r : Row). kind_number r.kind) w.row.ensures) w.is_wanted.ensures (sym w.value-is ∙ c.if-is_wanted.true) (c.is_named.ensures is)
      | else-not-sums_apart w ↦ both_ways c.if-is_wanted.true (w.value-is ∙ ap not w.if-not-sums_apart.false)
    ]

pub returns-else-is_wanted : goal.returns-else-is_wanted
returns-else-is_wanted c = λ is.
    elim c.if-not-sums_apart.branch [
      | then-not-sums_apart w ↦ c.if-is_wanted.false ∙ fits_not _ _ _ _ _ _ _ (ap (λ (r : Row). kind_number r.kind) w.row.ensures) w.is_wanted.ensures (sym w.value-is ∙ c.if-is_wanted.false)
      | else-not-sums_apart w ↦ c.if-is_wanted.false ∙ fits_none _ _ _ _ _ (name_apart _ _ _ c.args.self.now.summed _ _ _ is (c.sums_apart.ensures w.if-not-sums_apart.false))
    ]
