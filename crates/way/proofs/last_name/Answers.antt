use Rattle.std.proofs.Common.{rules, ap, ◌∙◌}
use Rattle.std.proofs.lemmas.Iterator.{items_from_drains}
use Rattle.std.proofs.lemmas.Iterator.Consumers.{YieldsList-from_first}
use Rattle.code_generator.specs.Resolve.{last_name}
use Rattle.way.proofs.WayLaws.{given, last_of}
use Rattle.way.proofs.last_name.Goals as goal

pub returns : goal.returns
returns c =
    let r = c.last.ensures.ran in
    given c.last.result c.unwrap_or_default.result (λ x e. rw e at c.unwrap_or_default.ensures) (λ e. let h = rw e at c.unwrap_or_default.ensures in search rules) _ r.2 ∙ last_of r.0
    ∙ ap last_name (items_from_drains r.0 (r.1.1.0, r.1.1.1, λ _. (r.1.0, r.1.1.2)) (YieldsList-from_first (λ x. x.now) (λ rest. rest) _ c.new.ensures.parts))
