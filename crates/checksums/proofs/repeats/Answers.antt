use Rattle.std.proofs.Common.{rules, ◌∙◌, refl, ℕ, ◌+◌, ◌-◌, length}
use Rattle.std.specs.Prelude.{take, drop}
use Rattle.std.proofs.lemmas.Iterator.{YieldsList-from_slice}
use Rattle.std.proofs.lemmas.Iterator.Consumers.{YieldsList-from_enumerate}
use Rattle.std.proofs.lemmas.Iterator.Search.{any_from_yields_List}
use borrow.Author.Tests.{tests}
use Rattle.checksums.specs.Sums.{holds}
use Rattle.checksums.proofs.Steps.{repeats_from}
use Rattle.checksums.proofs.repeats.Goals as goal

pub returns : goal.returns
returns c =
    let t = c.args.sums.now in
    any_from_yields_List (λ (p : ℕ × ℕ). holds p.1 (take (length t - (p.0 + 1)) (drop (p.0 + 1) t))) _ _ _ c.any.ensures.ran
    (YieldsList-from_enumerate (YieldsList-from_slice t (cc)) c.enumerate.ensures.count)
    (λ x b q k. search (rules, tests))
    ∙ repeats_from t 0 t refl
