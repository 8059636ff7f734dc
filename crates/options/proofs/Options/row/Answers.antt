use Rattle.std.proofs.lemmas.Iterator.Consumers.{YieldsList-from_first, nth_from_yields_List}
use Rattle.options.specs.Rows.{row_seen}
use Rattle.options.proofs.Options.row.Goals as goal

pub returns : goal.returns
returns c = nth_from_yields_List _ _ _ c.nth.ensures.ran (YieldsList-from_first row_seen (λ rest. rest) c.args.self.now c.rows.ensures.rows)
