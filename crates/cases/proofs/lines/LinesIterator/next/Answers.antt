use Rattle.std.proofs.Common.{rules, refl, sym, ap, ◌∙◌, ◌<◌, length}
use Rattle.std.proofs.Math.Dec.{eqb}
use Rattle.std.proofs.lemmas.Iterator.{YieldsList-from_slice}
use Rattle.std.proofs.lemmas.Iterator.Search.{position_from_yields_List}
use borrow.Author.Tests.{tests}
use Rattle.cases.proofs.LineLaws.{no_line, end_found, next_line, rest_behind}
use Rattle.cases.proofs.lines.LinesIterator.next.Goals as goal

pub returns-then-is_empty-clause-steps : goal.returns-then-is_empty-clause-steps
returns-then-is_empty-clause-steps c = let e = no_line c.self.inside.rest.now in search rules

pub returns-clause-steps : goal.returns-clause-steps
returns-clause-steps c =
    let s = c.self.inside.rest.now in
    let e = c.unwrap_or-end.ensures ∙ end_found s c.position-end.result (position_from_yields_List (λ x. eqb x 10) _ _ _ c.position-end.ensures.ran (YieldsList-from_slice s c.iter.ensures.rest) (λ x b q k. search (rules, tests))) in
    let some : 0 < length s = search rules in
    sym c.self.view_is ∙ next_line s some _ e _ (ap (λ b. b.now) c.unwrap_or-self-inside.ensures ∙ rest_behind s _ _ refl c.get.result c.get.ensures.lookup.0)

pub returns-clause-goes : goal.returns-clause-goes
returns-clause-goes c = let first = returns-clause-steps c in search rules
