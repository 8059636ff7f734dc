use Rattle.std.proofs.Common.{rules, ◌∙◌}
use Rattle.std.proofs.lemmas.Iterator.Consumers.{YieldsList-from_first, YieldsList-from_enumerate}
use Rattle.std.proofs.lemmas.Iterator.Search.{any_from_yields_List}
use Rattle.enum_text.proofs.OverlapLaws.{again, again_any}
use Rattle.enum_text.proofs.overlap.Variants.meets.Goals as goal

pub returns : goal.returns
returns c =
    let e = c.args.self.now.enumeration in
    any_from_yields_List (again c.args.self.now.options.now e.name e.values) _ _ _ c.any.ensures.ran
    (YieldsList-from_enumerate (YieldsList-from_first (λ v. v) (λ rest. rest) e.values (c.enumerate.ensures.source ∙ c.values.ensures.values)) c.enumerate.ensures.count)
    (λ x b q k. search rules)
    ∙ again_any c.args.self.now.options.now e.name e.values
