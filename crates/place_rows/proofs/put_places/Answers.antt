use Rattle.std.proofs.Common.{ap, ◌∙◌, arith, refl}
use Rattle.writer.specs.Writing.{◌▻◌}
use Rattle.descriptor.specs.Decode.{entries, parts}
use Rattle.context.specs.Given.{Given}
use Rattle.walks.specs.Walked.{walked, written_on, written_all}
use Rattle.file_parts.specs.Numbered.{after_file}
use Rattle.file_parts.proofs.WalkLaws.{along_start, along_on, along_end}
use Rattle.place_rows.specs.PlaceRows.{file_rows, behind_file, set_rows}
use Rattle.place_rows.proofs.put_places.Goals as goal

pub loop-first-init : goal.loop-first-init
unfolding set_rows
loop-first-init c =
    let g = c.args.context.now in
    along_start (c.into_iter-first-iterator.ensures.into_iter_gives ∙ c.new-first-items.ensures) (ap (λ (x : Given). x.messages) c.context.view_is) (omega arith)
    (ap (λ (x : Given). c.args.text.now ▻ walked (file_rows g.options g.messages g.fields) (behind_file g.options g.messages g.fields) 0 (parts 1 (entries x.set))) c.context.view_is)

pub loop-first-preserved : goal.loop-first-preserved
loop-first-preserved c = along_on c.loop-first.invariant after_file c.in-Some.ensures.steps (omega arith) (written_on _ _ _ _ _ _ refl _ _ _ _ refl refl c.put_file.ensures)

pub returns : goal.returns
returns c = written_all _ _ _ _ _ _ (along_end c.loop-first.invariant c.in-None.ensures.steps.0) refl
