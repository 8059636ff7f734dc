use Rattle.std.proofs.Common.{sym, add-one}
use Rattle.base.specs.Bytes.{b}
use Rattle.writer.specs.Text.{indent}
use Rattle.writer.proofs.TextLaws.{put-nothing, put-append}
use Rattle.writer.proofs.text.Text.put_indent.Goals as goal

pub loop-init : goal.loop-init
unfolding indent
loop-init c = sym (put-nothing c.args.self.now)

pub loop-preserved : goal.loop-preserved
unfolding indent
loop-preserved c =
    rw (c.put.ensures, c.loop.invariant, add-one) (put-append c.args.self.now (indent c.loop.counter) (b "    "))
