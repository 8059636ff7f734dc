use Rattle.std.proofs.Common.{ap, rules, ◌∙◌}
use Rattle.std.proofs.lemmas.Iterator.Search.{all_from_yields_List}
use Rattle.std.proofs.lemmas.Iterator.Splits.{YieldsList-from_slice_split}
use Rattle.std.specs.Prelude.{eqb}
use Rattle.std.specs.List.{list_all}
use Rattle.base.specs.Lists.{all}
use Rattle.name_rules.specs.Rules.{good_name}
use Rattle.descriptor.proofs.SegmentLaws.{segments_are}
use Rattle.name_rules.proofs.rules.segments_good.Goals as goal

pub returns : goal.returns
unfolding all
returns c =
    all_from_yields_List good_name _ _ _ c.all.ensures.ran
    (YieldsList-from_slice_split _ (λ x. eqb x 46) c.args.name.now c.split.ensures.rest c.split.ensures.done c.split.ensures.closure (λ x b q h. search rules))
    (λ x b q h. search rules)
    ∙ ap (list_all good_name) (segments_are c.args.name.now)
