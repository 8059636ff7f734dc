use Rattle.std.proofs.Common.{rules, sym, ◌∙◌, Some, None}
use borrow.Author.Tests.{tests}
use Rattle.enum_values.proofs.FindLaws.{next_marked}
use Rattle.parts.proofs.Numbered.{found_fits}
use Rattle.enum_values.proofs.ValuesIterator.next.Goals as goal

pub invariant_of-self : goal.invariant_of-self
invariant_of-self c = found_fits _ _ _ _ _ c.find.ensures.ran c.self.invariant

pub invariant_of-self-2 : goal.invariant_of-self-2
invariant_of-self-2 c = found_fits _ _ _ _ _ c.find.ensures.ran c.self.invariant

pub returns-in_err-part-clause-steps : goal.returns-in_err-part-clause-steps
returns-in_err-part-clause-steps c =
    let e = next_marked c.self.inside.marks.now _ _ (λ x b q k. search (rules, tests)) c.self.inside.parts c.find.new.self None c.in_err-part.ensures.ran in
    rw c.from_residual.ensures (sym c.self.view_is ∙ e.0, e.1)

pub returns-clause-steps : goal.returns-clause-steps
returns-clause-steps c =
    let e = next_marked c.self.inside.marks.now _ _ (λ x b q k. search (rules, tests)) c.self.inside.parts c.find.new.self (Some (c.in_ok-part.field-0-0, c.in_ok-part.part)) c.in_ok-part.ensures.ran in
    sym c.self.view_is ∙ rw c.new.ensures e

pub returns-clause-goes : goal.returns-clause-goes
returns-clause-goes c = let e = returns-clause-steps c in search rules
