use Rattle.std.proofs.Common.{sym, add-one}
use Rattle.base.specs.Bytes.{b}
use Rattle.writer.specs.Text.{each}
use Rattle.writer.proofs.TextLaws.{put-nothing, put-append}
use Rattle.way.proofs.put_supers.Goals as goal

pub loop-init : goal.loop-init
loop-init c = sym (put-nothing c.args.text.now)

pub loop-preserved : goal.loop-preserved
loop-preserved c = rw (c.put.ensures, c.loop.invariant, add-one) (put-append c.args.text.now (each (λ _. b "super::") c.loop.counter) (b "super::"))
