use Rattle.std.proofs.Common.{◌∙◌, ap, List, ℕ, []}
use Rattle.std.proofs.lemmas.Iterator.{items_from_drains}
use Rattle.std.proofs.lemmas.Iterator.Consumers.{YieldsList-from_first}
use Rattle.limits.proofs.FitLaws.{text_small}
use Rattle.limits.proofs.TextLaws.{last_of, last_is, last_text}
use Rattle.limits.proofs.strings.text.Goals as goal

pub returns-clause-text : goal.returns-clause-text
returns-clause-text c =
    let r = c.last.ensures.ran in
    last_is (λ x. x.now) _ (λ x is. is) _ r.0 _ r.2 c.unwrap_or_default.ensures
    ∙ ap (last_of []) (items_from_drains r.0 (r.1.1.0, r.1.1.1, λ _. (r.1.0, r.1.1.2)) (YieldsList-from_first (λ x. x.now) (λ (rest : List (List ℕ)). rest) _ c.new.ensures.parts))
    ∙ last_text c.args.number c.args.part.now

pub returns-clause-bound : goal.returns-clause-bound
returns-clause-bound c = rw (returns-clause-text c) (text_small c.args.number c.args.part.now)
