use Rattle.std.proofs.Common.{rules, ap, ◌∙◌, refl, ℕ, ◌+◌, ◌-◌, length, List}
use Rattle.std.specs.Prelude.{take, drop}
use Rattle.std.proofs.lemmas.Iterator.{YieldsList-from_slice}
use Rattle.std.proofs.lemmas.Iterator.Consumers.{YieldsList-from_enumerate}
use Rattle.std.proofs.lemmas.Iterator.Search.{any_from_yields_List}
use borrow.Author.Tests.{tests}
use Rattle.path.specs.Forms.{among}
use Rattle.code_generator.specs.Refusals.{overlap}
use Rattle.name_rows.proofs.Steps.{chunks_are, overlap_from}
use Rattle.name_rows.proofs.rows_meet.Goals as goal

pub returns : goal.returns
returns c =
    let t = c.as_chunks.result.0.now in
    any_from_yields_List (λ (p : ℕ × List ℕ). among p.1 (take (length t - (p.0 + 1)) (drop (p.0 + 1) t))) _ _ _ c.any.ensures.ran
    (YieldsList-from_enumerate (YieldsList-from_slice t (cc)) c.enumerate.ensures.count)
    (λ x b q k. search (rules, tests))
    ∙ overlap_from t 0 t refl
    ∙ ap overlap (c.as_chunks.ensures.front ∙ chunks_are c.args.rows.now)
