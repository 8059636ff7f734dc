use Rattle.std.proofs.Common.{ap, ◌∙◌, List, ℕ}
use Rattle.writer.specs.Writing.{◌▻◌}
use Rattle.writer.proofs.TextLaws.{appended}
use Rattle.extern_paths.proofs.ByLaws.{by_itself, by_prefix, behind_is}
use Rattle.extern_paths.proofs.resolve.put_by.Goals as goal

pub returns-then-eq : goal.returns-then-eq
returns-then-eq c = λ tail. appended _ _ _ _ _ c.put.ensures c.put-then-eq.ensures ∙ ap (λ (p : List ℕ). c.args.text.now ▻ p) (by_itself _ _ _ _ c.eq.ensures c.if-eq.true)

pub returns-else-eq : goal.returns-else-eq
returns-else-eq c = λ tail.
    appended _ _ _ _ _ (rw tail at c.put_rust_path.ensures) (rw (behind_is _ _ _ c.min-behind.ensures) at c.put_behind.ensures)
    ∙ ap (λ (p : List ℕ). c.args.text.now ▻ p) (by_prefix _ _ _ _ c.eq.ensures c.if-eq.false)
