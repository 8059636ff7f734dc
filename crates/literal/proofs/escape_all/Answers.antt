use Rattle.std.proofs.Common.{sym}
use Rattle.literal.specs.Escape.{escape_char}
use Rattle.literal.proofs.EscapeLaws.{each-none, each-take}
use Rattle.literal.proofs.escape_all.Goals as goal

pub loop-c-init : goal.loop-c-init
loop-c-init c = sym (each-none escape_char c.args.text.now)

pub loop-c-preserved : goal.loop-c-preserved
loop-c-preserved c = each-take escape_char _ _ _ _ _ c.loop-c-test.true c.loop-c.invariant (rw c.from.ensures at c.escape_char.ensures)
