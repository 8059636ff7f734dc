use Rattle.std.proofs.Common.{rules, ◌∙◌}
use Rattle.std.proofs.lemmas.Iterator.{YieldsList-from_slice}
use Rattle.std.proofs.lemmas.Iterator.Search.{any_from_yields_List}
use Rattle.std.specs.Str.{bytes_eq}
use borrow.Author.Tests.{tests}
use Rattle.extern_paths.specs.declared.prost_types.ProstType.{ProstType}
use Rattle.extern_checks.proofs.DoubleLaws.{any_types}
use Rattle.extern_checks.proofs.is_among.Goals as goal

pub returns : goal.returns
returns c = any_from_yields_List (λ (t : ProstType). bytes_eq c.args.x.now t.path.now) _ _ _ c.any.ensures.ran (YieldsList-from_slice c.args.types.now c.iter.ensures.rest) (λ x b q k. search (rules, tests)) ∙ any_types _ _
