use Rattle.std.proofs.Common.{rules, get_or}
use Rattle.std.proofs.Math.Dec.{eqb}
use Rattle.std.proofs.lemmas.Iterator.{YieldsList-from_slice}
use Rattle.std.proofs.lemmas.Iterator.Search.{position_from_yields_List}
use borrow.Author.Tests.{tests}
use Rattle.split.proofs.SplitLaws.{byte_found}
use Rattle.split.proofs.part_end.Goals as goal

pub returns-in-len1 : goal.returns-in-len1
returns-in-len1 c = byte_found _ _ c.in-len1.len_at_least c.in-len1.len_below _ (position_from_yields_List (λ x. eqb x (get_or c.args.separator.now 0 0)) _ _ _ c.position.ensures.ran (YieldsList-from_slice c.args.s.now c.iter.ensures.rest) (λ x b q k. search (rules, tests))) _ c.unwrap_or.ensures
