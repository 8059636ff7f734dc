use Rattle.std.specs.Prelude.{None}
use Rattle.std.specs.List.{last_or}
use Rattle.std.proofs.lemmas.List.{map-id}
use Rattle.std.proofs.lemmas.Iterator.{items_from_drains}
use Rattle.std.proofs.lemmas.Iterator.Consumers.{YieldsList-from_first}
use mathlib.Core.Path.{ap, sym, ◌∙◌}
use mathlib.Core.List.{List}
use Rattle.declarations.specs.Rows.{last_place}
use Rattle.declarations.specs.declared.places.Place.{Place}
use Rattle.declarations.proofs.last_string.Goals as goal

pub returns : goal.returns
unfolding last_place
returns c =
    let r = c.last.ensures.ran in
    r.2
    ∙ ap (last_or None)
    (sym (map-id r.0)
    ∙ items_from_drains r.0 (r.1.1.0, r.1.1.1, λ _. (r.1.0, r.1.1.2)) (YieldsList-from_first (λ (x : Place). x) (λ (rest : List Place). rest) _ c.new.ensures.places))
