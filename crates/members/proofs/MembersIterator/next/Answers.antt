use Rattle.std.proofs.Common.{rules}
use Rattle.text_tables.specs.Rows.{is_in}
use Rattle.members.proofs.FindLaws.{next_number}
use Rattle.members.proofs.MembersIterator.next.Goals as goal

pub returns-clause-steps : goal.returns-clause-steps
returns-clause-steps c =
    let s = c.self.inside in
    next_number (is_in s.index) s.table.now _ _ (λ k b q h. search rules) s.fields c.find.new.self c.find.result c.find.ensures.ran c.args.self.now c.self.view_is

pub returns-clause-goes : goal.returns-clause-goes
returns-clause-goes c = let e = returns-clause-steps c in search rules
