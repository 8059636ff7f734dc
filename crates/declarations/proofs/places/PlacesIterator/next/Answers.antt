use Rattle.std.proofs.Common.{rules, sym, ◌∙◌}
use borrow.Author.Tests.{tests}
use Rattle.declarations.proofs.FindLaws.{found}
use Rattle.declarations.proofs.places.PlacesIterator.next.Goals as goal

pub returns-in_err-find-clause-steps : goal.returns-in_err-find-clause-steps
returns-in_err-find-clause-steps c =
    let f = rw c.in_err-find.was at (found c.self.inside.number _ _ (λ x r q k. search (rules, tests)) _ _ _ c.find.ensures.ran) in
    search (rules, f)

pub returns-clause-steps : goal.returns-clause-steps
returns-clause-steps c =
    let f = rw c.in_ok-find.was at (found c.self.inside.number _ _ (λ x r q k. search (rules, tests)) _ _ _ c.find.ensures.ran) in
    sym c.self.view_is ∙ f c.in_ok-record.record _ (search rules) c.bytes_in.ensures

pub returns-clause-goes : goal.returns-clause-goes
returns-clause-goes c = let steps = returns-clause-steps c in search (rules, steps)
