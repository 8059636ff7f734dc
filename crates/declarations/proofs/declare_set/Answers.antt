use mathlib.Core.Path.{◌≡◌}
use lib.ListN.{length}
use native.Mathlib.Omega.{arith}
use Rattle.std.proofs.lemmas.Grind.{common_steps}
use Rattle.std.specs.Iterator.Adapters.{enumerate_source, enumerate_count}
use Rattle.declarations.specs.Rows.{places}
use Rattle.declarations.proofs.FileLaws.{going_start, going_end, going_more}
use Rattle.declarations.proofs.declare_set.Goals as goal

pub loop-file-init : goal.loop-file-init
loop-file-init c =
    let none : enumerate_count c.into_iter-file-iterator.result ≡ 0 = grind (arith, common_steps) in
    let all : enumerate_source c.into_iter-file-iterator.result ≡ places c.args.set.now 1 (record { start = 0; end = length c.args.set.now }) = grind (arith, common_steps) in
    rw (none, all) (going_start _ _ c.none-count.result c.none-count.ensures.rows c.none-count.ensures.messages)

pub loop-file-preserved : goal.loop-file-preserved
loop-file-preserved c =
    rw c.in-Some.ensures.steps.2 (going_more _ _ _ _ _ _ _ c.loop-file.invariant _ _ c.in-Some.ensures.steps.0 _ _ (rw c.in-Some.ensures.steps.1 at c.declare_file-count.ensures))

pub returns : goal.returns
returns c = going_end _ _ _ _ _ _ _ c.loop-file.invariant c.in-None.ensures.steps.0.0
