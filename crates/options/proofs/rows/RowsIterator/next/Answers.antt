use Rattle.std.proofs.Common.{sym, ◌∙◌, rules, arith}
use Rattle.options.proofs.RowsLaws.{first_row}
use Rattle.options.proofs.rows.RowsIterator.next.Goals as goal

pub returns-clause-steps : goal.returns-clause-steps
returns-clause-steps c = sym c.self.view_is ∙ first_row _ _ _ _ _ (omega arith) c.self.invariant.2 c.read_row-row.ensures

pub returns-clause-goes : goal.returns-clause-goes
returns-clause-goes c = let first = returns-clause-steps c in search rules
