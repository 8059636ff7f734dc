use Rattle.std.proofs.Common.{sym, ap, ◌∙◌, List, ℕ}
use Rattle.writer.specs.Writing.{◌▻◌}
use Rattle.writer.proofs.TextLaws.{appended}
use Rattle.rust_paths.proofs.PartLaws.{path_first, no_part}
use Rattle.rust_paths.proofs.put_path.Goals as goal

pub returns-in-Some : goal.returns-in-Some
returns-in-Some c =
    appended _ _ _ _ _ c.put_first.ensures c.put_parts.ensures
    ∙ ap (λ (p : List ℕ). c.args.text.now ▻ p) (sym (path_first _ _ _ (sym c.new-parts.ensures.parts ∙ c.in-Some.ensures.steps)))

pub returns-in_default : goal.returns-in_default
returns-in_default c = absurd (no_part _ (sym c.new-parts.ensures.parts ∙ c.in_default.ensures.steps.0))
