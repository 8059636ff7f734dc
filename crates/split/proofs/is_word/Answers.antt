use Rattle.std.proofs.Common.{rules, ◌∙◌, sym}
use Rattle.std.proofs.lemmas.Iterator.Consumers.{YieldsList-from_first}
use Rattle.std.proofs.lemmas.Iterator.Search.{any_from_yields_List}
use Rattle.std.specs.Str.{bytes_eq}
use borrow.Author.Tests.{tests}
use Rattle.base.specs.Bytes.{b}
use Rattle.split.specs.Split.{split}
use Rattle.split.proofs.SplitLaws.{among_any}
use Rattle.split.proofs.is_word.Goals as goal

pub returns : goal.returns
returns c = any_from_yields_List (bytes_eq c.args.x.now) _ _ _ c.any.ensures.ran (YieldsList-from_first (λ x. x.now) (λ rest. rest) (split (b " ") c.args.s.now) c.new.ensures.parts) (λ x b q k. search (rules, tests)) ∙ sym (among_any _ _)
