use Rattle.std.proofs.Common.{rules, ◌∙◌}
use Rattle.std.proofs.lemmas.Iterator.Adapters.{YieldsList-from_skip}
use Rattle.std.proofs.lemmas.Iterator.Consumers.{YieldsList-from_first}
use Rattle.std.proofs.lemmas.Iterator.Search.{any_from_yields_List}
use Rattle.base.specs.Bytes.{same}
use Rattle.enum_text.specs.Overlap.{asked}
use Rattle.enum_text.proofs.overlap.Variants.comes.Goals as goal

pub returns : goal.returns
returns c =
    let e = c.args.self.now.enumeration in
    any_from_yields_List (asked c.args.self.now.options.now e.name (same c.args.name.now)) _ _ _ c.any.ensures.ran
    (YieldsList-from_skip _ (YieldsList-from_first (λ v. v) (λ rest. rest) e.values (c.skip.ensures.source ∙ c.values.ensures.values)) c.skip.ensures.count)
    (λ x b q k. search rules)
