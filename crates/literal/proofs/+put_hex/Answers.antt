use Rattle.std.proofs.Common.{sym, ◌∙◌}
use Rattle.writer.proofs.TextLaws.{put-nothing, appended}
use Rattle.literal.specs.HexLaws.{hex_none, hex_short, hex_long}
use Rattle.literal.proofs.+put_hex.Goals as goal
use Rattle.literal.proofs.+put_hex.Goals.{then-n-ge16, else-n-ge16}

pub returns-then-k-eq0 : goal.returns-then-k-eq0
returns-then-k-eq0 t c = rw (c.if-k-eq0.true, hex_none) (sym (put-nothing c.args.text.now))

pub returns : goal.returns
returns t c =
    elim c.if-n-ge16.branch [
      | then-n-ge16 w ↦ rw (hex_long _ _ c.if-k-eq0.false w.if-n-ge16.true, ← c.hex_digit.ensures) (appended _ _ _ _ _ (w.text-is ∙ w.put_hex.ensures) c.put_byte.ensures)
      | else-n-ge16 w ↦ rw (hex_short _ _ c.if-k-eq0.false w.if-n-ge16.false, ← c.hex_digit.ensures, ← w.text-is) c.put_byte.ensures
    ]
