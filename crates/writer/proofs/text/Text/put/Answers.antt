use Rattle.std.proofs.Common.{arith, ap}
use Rattle.writer.proofs.Laying.{sets-beyond, put_mid-whole, put_mid-front}
use Rattle.writer.specs.Writing.{draft_of, with_draft}
use Rattle.writer.proofs.TextLaws.{stored}
use Rattle.writer.proofs.text.Text.put.Goals as goal

pub returns-then-end-room : goal.returns-then-end-room
returns-then-end-room c =
    ap (with_draft c.args.self.now) (stored (draft_of c.args.self.now) c.args.bytes.now _ _ (put_mid-whole _ _ _ _ _ c.copy_from_slice.ensures.after c.saturating_add-end.ensures c.if-end-room.true (omega arith)) (omega arith))

pub returns-then-at-room : goal.returns-then-at-room
returns-then-at-room c =
    ap (with_draft c.args.self.now) (stored (draft_of c.args.self.now) c.args.bytes.now _ _ (put_mid-front _ _ _ _ c.copy_from_slice-then-at-room.ensures.after c.if-at-room.true (omega arith) (omega arith)) (omega arith))

pub returns-else-at-room : goal.returns-else-at-room
returns-else-at-room c = ap (with_draft c.args.self.now) (stored (draft_of c.args.self.now) c.args.bytes.now _ _ (sets-beyond c.args.self.now.buffer.now c.args.bytes.now c.args.self.now.length _ c.if-at-room.false) (omega arith))
