use Rattle.writer.proofs.TextLaws.{appended, put_where-pick}
use Rattle.std.proofs.Common.{◌∙◌}
use Rattle.name_rows.proofs.Spelling.put.Goals as goal

pub returns-in-OneofType : goal.returns-in-OneofType
returns-in-OneofType c = rw c.in-OneofType.is (appended _ _ _ _ _ c.put_upper_camel-in-OneofType.ensures (c.put_if.ensures ∙ put_where-pick _ _ _))
