use Rattle.std.proofs.Common.{sym, ◌∙◌}
use Rattle.options.specs.Rows.{row_seen}
use Rattle.extern_checks.proofs.DoubleLaws.{prost_one, prost_is}
use Rattle.extern_checks.proofs.lists_prost_type.Goals as goal

pub returns-then-is : goal.returns-then-is
returns-then-is c = c.is_prost_type.ensures ∙ sym (prost_one (row_seen c.args.row.now) (sym c.is.ensures ∙ c.if-is.true))

pub returns-else-is : goal.returns-else-is
returns-else-is c = c.is-else-is.ensures ∙ sym (prost_is (row_seen c.args.row.now) (sym c.is.ensures ∙ c.if-is.false))
