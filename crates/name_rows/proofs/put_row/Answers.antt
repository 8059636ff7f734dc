use Rattle.std.proofs.Common.{ap, ◌∙◌, List, ℕ}
use Rattle.writer.specs.Writing.{◌▻◌}
use Rattle.writer.proofs.TextLaws.{appended}
use Rattle.name_rows.specs.Rows.{row, with_checksum, four_bytes}
use Rattle.name_rows.proofs.Steps.{key_is}
use Rattle.name_rows.proofs.put_row.Goals as goal

pub returns : goal.returns
unfolding row with_checksum four_bytes
returns c =
    appended _ _ _ _ _ c.put.ensures (c.put-2.ensures ∙ ap (λ (p : List ℕ). c.put.new.self ▻ p) (c.to_le_bytes.ensures ∙ ap four_bytes c.checksum.ensures))
    ∙ ap (λ (k : List ℕ). c.args.text.now ▻ with_checksum k) (key_is _ _ c.fill_key.ensures)
