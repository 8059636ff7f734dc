use Rattle.std.proofs.Common.{rules, refl, ap, arith, length, ◌≡◌}
use Rattle.std.proofs.lemmas.Grind.{common_steps}
use Rattle.std.specs.Iterator.Adapters.{enumerate_source, enumerate_count, filter_map_source}
use Rattle.wire.specs.Message.{record_seen, records_at}
use Rattle.index.proofs.FileLaws.{going_start, going_large, going_end, file_fits, going_file, next_file, no_file}
use Rattle.index.proofs.index_files.Goals as goal

pub returns-then-set-gt32768 : goal.returns-then-set-gt32768
returns-then-set-gt32768 c = going_large _ _ _ _ c.if-set-gt32768.true

pub loop-file-init : goal.loop-file-init
loop-file-init c =
    let none : enumerate_count c.into_iter-file-iterator.result ≡ 0 = grind (arith, common_steps) in
    let all : filter_map_source (enumerate_source c.into_iter-file-iterator.result) ≡ records_at 0 c.args.set.now = grind (arith, common_steps) in
    rw none (going_start _ _ _ _ _ all c.if-set-gt32768.false)

pub index_in-next-requires-clause-room : goal.index_in-next-requires-clause-room
index_in-next-requires-clause-room c =
    let here = next_file _ _ _ _ _ _ _ _ (λ p x r q k. search rules) _ _ _ c.in-Some.ensures.steps.0 c.loop-file.invariant in
    file_fits _ _ _ _ _ _ _ _ _ (record_seen c.in-Some.record) refl here.1 _ (ap length c.bytes_in-bytes.ensures)

pub loop-file-preserved : goal.loop-file-preserved
loop-file-preserved c =
    let here = next_file _ _ _ _ _ _ _ _ (λ p x r q k. search rules) _ _ _ c.in-Some.ensures.steps.0 c.loop-file.invariant in
    rw c.in-Some.ensures.steps.2 (going_file _ _ _ _ _ _ _ _ _ (record_seen c.in-Some.record) refl here.1 here.0 _ c.bytes_in-bytes.ensures _ _ (rw c.in-Some.ensures.steps.1 at c.index_in-next.ensures.0) c.index_in-next.ensures.1)

pub returns : goal.returns
returns c = going_end _ _ _ _ _ _ _ _ refl (no_file _ _ _ _ _ _ _ _ (λ p x r q k. search rules) _ _ c.in-None.ensures.steps.0 c.loop-file.invariant)
