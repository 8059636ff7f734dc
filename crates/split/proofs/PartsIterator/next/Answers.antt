use Rattle.std.proofs.Common.{sym, ap, ◌∙◌, rules}
use Rattle.std.proofs.lemmas.List.{length-take-le}
use Rattle.std.specs.Option.{option_copied}
use Rattle.split.specs.Split.{parts_left}
use Rattle.split.proofs.SplitLaws.{end_inside, next_parts}
use Rattle.split.proofs.PartsIterator.next.Goals as goal

pub slice_bounds-result-end : goal.slice_bounds-result-end
slice_bounds-result-end c = sym (length-take-le _ _ (end_inside _ _ c.self.invariant _ c.part_end-end.ensures))

pub returns-clause-steps : goal.returns-clause-steps
returns-clause-steps c =
    sym c.self.view_is
    ∙ ap (λ o. parts_left c.self.inside.separator.now (option_copied o)) c.in_ok-rest.was
    ∙ next_parts _ _ c.self.invariant _ c.part_end-end.ensures _ c.get-self-inside.ensures.lookup.0

pub returns-clause-goes : goal.returns-clause-goes
returns-clause-goes c = let first = returns-clause-steps c in search rules
