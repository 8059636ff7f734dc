use Rattle.std.proofs.Common.{rules}
use borrow.Author.Tests.{tests}
use Rattle.options.specs.Kind.{kind_number}
use Rattle.path.proofs.FoundLaws.{next_value, value_given, goes_on}
use Rattle.path.proofs.values.ValuesIterator.next.Goals as goal

pub returns-clause-steps : goal.returns-clause-steps
returns-clause-steps c =
    let kind = kind_number c.self.inside.kind in
    let path = c.self.inside.path.now in
    let h = next_value kind path c.self.invariant _ _ (λ x b q k. search (rules, tests)) c.self.inside.rows c.find-found.new.self c.find-found.result c.find-found.ensures.ran in
    rw (← c.self.view_is) (value_given c.find-found.result _ _ h c.map.result c.map.ensures.variant (λ z b e d. let k = rw (e, d) at c.map.ensures.cases in search rules))

pub returns-clause-goes : goal.returns-clause-goes
returns-clause-goes c = goes_on _ (λ s. tt) c.map.result _ _ (returns-clause-steps c)
