use Rattle.std.proofs.Common.{sym, ap, ◌∙◌, arith, rules}
use Rattle.std.specs.Option.{option_map}
use Rattle.options.specs.Rows.{row_seen}
use Rattle.extern_paths.specs.ExternPaths.{prost_types}
use Rattle.extern_paths.proofs.ByLaws.{tail_none, tail_at}
use Rattle.extern_paths.proofs.TakerLaws.{takes_not, takes_it, resolves_not, row_there, resolved_row, types_there, resolved_type}
use Rattle.extern_paths.proofs.resolve.find.Goals as goal

pub returns-then-best-eq0-clause-none : goal.returns-then-best-eq0-clause-none
returns-then-best-eq0-clause-none c = resolves_not _ _ (search rules) _ c.best_extern-best.ensures c.if-best-eq0.true

pub returns-then-best-eq0-clause-free : goal.returns-then-best-eq0-clause-free
returns-then-best-eq0-clause-free c = takes_not _ _ (search rules) _ c.best_extern-best.ensures c.if-best-eq0.true

pub returns-in_err-row-clause-none : goal.returns-in_err-row-clause-none
returns-in_err-row-clause-none c =
    absurd (row_there _ _ (search rules) _ c.best_extern-best.ensures c.if-best-eq0.false (omega arith) (sym c.row.ensures ∙ ap (option_map row_seen) c.in_err-row.was))

pub returns-in_err-row-clause-free : goal.returns-in_err-row-clause-free
returns-in_err-row-clause-free c =
    absurd (row_there _ _ (search rules) _ c.best_extern-best.ensures c.if-best-eq0.false (omega arith) (sym c.row.ensures ∙ ap (option_map row_seen) c.in_err-row.was))

pub returns-then-best-count-clause-some : goal.returns-then-best-count-clause-some
returns-then-best-count-clause-some c =
    resolved_row _ _ (search rules) _ c.best_extern-best.ensures c.if-best-eq0.false (omega arith) _ (sym c.row.ensures ∙ ap (option_map row_seen) c.in_ok-row.was)

pub returns-then-best-count-clause-held : goal.returns-then-best-count-clause-held
returns-then-best-count-clause-held c = takes_it _ _ (search rules) _ c.best_extern-best.ensures c.if-best-eq0.false

pub returns-then-best-count-clause-tail : goal.returns-then-best-count-clause-tail
returns-then-best-count-clause-tail c = tail_none

pub returns-in_err-own-clause-none : goal.returns-in_err-own-clause-none
returns-in_err-own-clause-none c =
    absurd (types_there _ _ (search rules) _ c.best_extern-best.ensures c.if-best-eq0.false (omega arith) (sym c.find.ensures ∙ ap (option_map row_seen) c.in_err-own.was))

pub returns-in_err-own-clause-free : goal.returns-in_err-own-clause-free
returns-in_err-own-clause-free c =
    absurd (types_there _ _ (search rules) _ c.best_extern-best.ensures c.if-best-eq0.false (omega arith) (sym c.find.ensures ∙ ap (option_map row_seen) c.in_err-own.was))

pub returns-clause-held : goal.returns-clause-held
returns-clause-held c = takes_it _ _ (search rules) _ c.best_extern-best.ensures c.if-best-eq0.false

pub returns-clause-some : goal.returns-clause-some
unfolding prost_types
returns-clause-some c =
    resolved_type _ _ (search rules) _ c.best_extern-best.ensures c.if-best-eq0.false (omega arith) (row_seen c.in_ok-own.field-0) (sym c.find.ensures ∙ ap (option_map row_seen) c.in_ok-own.was) _
    (rw c.row_count-count.ensures.count at c.numbered_prost_type.ensures.is)

pub returns-clause-tail : goal.returns-clause-tail
returns-clause-tail c = tail_at _ _ c.numbered_prost_type.ensures.tail
