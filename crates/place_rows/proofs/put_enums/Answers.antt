use Rattle.std.proofs.Common.{ap, refl, List}
use Rattle.writer.specs.Writing.{◌▻◌}
use Rattle.descriptor.specs.Descriptor.{Bytes}
use Rattle.walks.specs.Walked.{written_on, written_all}
use Rattle.place_rows.specs.PlaceRows.{enum_rows}
use Rattle.place_rows.proofs.put_enums.Goals as goal

pub loop-part-init : goal.loop-part-init
unfolding enum_rows
loop-part-init c = ap (λ (l : List Bytes). c.args.text.now ▻ enum_rows c.args.options.now c.args.home.now l) c.into_iter-part-iterator.ensures.into_iter_gives

pub loop-part-preserved : goal.loop-part-preserved
loop-part-preserved c = written_on _ _ _ _ _ _ c.loop-part.invariant _ _ _ _ c.in-Some.ensures.steps refl c.put_enum.ensures

pub returns : goal.returns
returns c = written_all _ _ _ _ _ _ c.loop-part.invariant c.in-None.ensures.steps.0
