use Rattle.std.proofs.Common.{rules, ◌∙◌, sym, ◌&&◌, nat_le}
use Rattle.std.proofs.lemmas.Iterator.{YieldsList-from_slice}
use Rattle.std.proofs.lemmas.Iterator.Search.{all_from_yields_List}
use borrow.Author.Tests.{tests}
use Rattle.options.proofs.KindLaws.{printable_all}
use Rattle.options.proofs.check.is_printable.Goals as goal

pub returns : goal.returns
returns c = all_from_yields_List (λ x. nat_le c.args.low x && nat_le x 126) _ _ _ c.all.ensures.ran (YieldsList-from_slice c.args.bytes.now c.iter.ensures.rest) (λ x b q k. search (rules, tests)) ∙ sym (printable_all _ _)
