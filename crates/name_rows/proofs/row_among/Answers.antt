use Rattle.std.proofs.Common.{ap, ◌∙◌}
use Rattle.path.specs.Forms.{among}
use Rattle.name_rows.proofs.Steps.{chunks_are}
use Rattle.name_rows.proofs.row_among.Goals as goal

pub returns : goal.returns
returns c = c.is_among.ensures ∙ ap (among c.args.wanted.now) (c.as_chunks.ensures.front ∙ chunks_are c.args.rows.now)
