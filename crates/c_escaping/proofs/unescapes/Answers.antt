use Rattle.std.proofs.Common.{◌∙◌, rules}
use Rattle.std.specs.Prelude.{is_ok}
use Rattle.std.proofs.lemmas.Iterator.Search.{all_from_yields_List}
use Rattle.std.proofs.lemmas.Iterator.Consumers.{YieldsList-from_first}
use Rattle.c_escaping.specs.Unescape.{unescape_from}
use Rattle.c_escaping.proofs.ResultLaws.{all_ok}
use Rattle.c_escaping.proofs.unescapes.Goals as goal

pub returns : goal.returns
returns c =
    all_from_yields_List is_ok _ _ _ c.all.ensures.ran (YieldsList-from_first (λ x. x) (λ rest. rest) _ c.new.ensures) (λ x b q k. search rules)
    ∙ all_ok (unescape_from c.args.s.now 0)
