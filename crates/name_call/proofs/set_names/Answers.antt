use Rattle.std.proofs.Common.{ap, ◌∙◌, sym, ℕ}
use lib.ListN.{length-replicate}
use Rattle.text_tables.specs.Rows.{no_message}
use Rattle.set_tables.specs.Filled.{message_rows}
use Rattle.name_call.proofs.DifferLaws.{answered}
use Rattle.name_call.proofs.set_names.Goals as goal

pub slice_bounds-names_differ-end : goal.slice_bounds-names_differ-end
slice_bounds-names_differ-end c = sym (length-replicate {A = ℕ} 1081344 0)

pub returns : goal.returns
returns c =
    c.names_differ.ensures
    ∙ answered _ _ c.requires _ _ (c.fill_tables.ensures.messages_after ∙ ap (λ (m : ℕ). message_rows m c.args.set.now c.args.options) (length-replicate 256 no_message)) c.fill_tables.ensures.fields_after _ (sym c.names_differ.auto.rows ∙ c.rows-2-1.given)
