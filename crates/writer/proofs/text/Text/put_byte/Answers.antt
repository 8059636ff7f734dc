use Rattle.std.proofs.Common.{[], ◌∷◌, arith, ap, sym}
use Rattle.writer.specs.Writing.{draft_of, with_draft}
use Rattle.writer.proofs.Laying.{sets-take, sets-beyond}
use Rattle.writer.proofs.TextLaws.{stored}
use Rattle.writer.proofs.text.Text.put_byte.Goals as goal

pub returns-then-at-self : goal.returns-then-at-self
returns-then-at-self c =
    ap (with_draft c.args.self.now) (stored (draft_of c.args.self.now) (c.args.byte ∷ []) _ _ (sym (sets-take c.args.self.now.buffer.now (c.args.byte ∷ []) c.args.self.now.length _ (omega arith))) (omega arith))

pub returns-else-at-self : goal.returns-else-at-self
returns-else-at-self c =
    ap (with_draft c.args.self.now) (stored (draft_of c.args.self.now) (c.args.byte ∷ []) _ _ (sets-beyond c.args.self.now.buffer.now (c.args.byte ∷ []) c.args.self.now.length _ c.if-at-self.false) (omega arith))
