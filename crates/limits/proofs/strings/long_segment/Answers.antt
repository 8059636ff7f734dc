use Rattle.std.proofs.Common.{◌∙◌, ℕ, List, length, ltb, eqb, rules, tests}
use Rattle.std.proofs.lemmas.Iterator.Search.{any_from_yields_List}
use Rattle.std.proofs.lemmas.Iterator.Splits.{YieldsList-from_slice_split}
use Rattle.limits.proofs.TextLaws.{split_segments}
use Rattle.limits.proofs.strings.long_segment.Goals as goal

pub returns : goal.returns
returns c =
    any_from_yields_List (λ (x : List ℕ). ltb 64 (length x)) _ _ _ c.any.ensures.ran
    (YieldsList-from_slice_split _ (λ (k : ℕ). eqb k 46) c.args.name.now c.split.ensures.rest c.split.ensures.done c.split.ensures.closure (λ x b q k. search (rules, tests)))
    (λ x b q k. search (rules, tests))
    ∙ split_segments c.args.name.now
