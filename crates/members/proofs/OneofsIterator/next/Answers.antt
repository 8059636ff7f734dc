use Rattle.std.proofs.Common.{rules}
use Rattle.members.proofs.FindLaws.{next_oneof}
use Rattle.parts.proofs.Numbered.{mapped_fits}
use Rattle.members.proofs.OneofsIterator.next.Goals as goal

pub invariant_of-self : goal.invariant_of-self
invariant_of-self c = mapped_fits _ _ _ _ _ c.find_map.ensures.ran c.self.invariant

pub returns-clause-steps : goal.returns-clause-steps
returns-clause-steps c =
    let s = c.self.inside in
    next_oneof s.table.now s.fields.start s.fields.end s.sums.0 s.sums.1 _ _ (λ x r q h. search rules) s.parts c.find_map.new.self c.find_map.result c.find_map.ensures.ran c.find_map.ensures.runs c.args.self.now c.self.view_is

pub returns-clause-goes : goal.returns-clause-goes
returns-clause-goes c = let e = returns-clause-steps c in search rules
