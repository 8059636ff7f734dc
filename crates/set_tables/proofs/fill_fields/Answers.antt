use Rattle.set_tables.proofs.FillLaws.{few_there, many_there, few_declared, many_declared}
use Rattle.set_tables.proofs.fill_fields.Goals as goal

pub fields_within-requires-clause-most_fields : goal.fields_within-requires-clause-most_fields
fields_within-requires-clause-most_fields c = few_there _ c.if-set-le-SHORT.true

pub fields_within-requires-clause-most_rows : goal.fields_within-requires-clause-most_rows
fields_within-requires-clause-most_rows c = few_declared _ c.if-set-le-SHORT.true

pub fields_within-requires-2-clause-most_fields : goal.fields_within-requires-2-clause-most_fields
fields_within-requires-2-clause-most_fields c = many_there _ c.if-set-le-SHORT.false

pub fields_within-requires-2-clause-most_rows : goal.fields_within-requires-2-clause-most_rows
fields_within-requires-2-clause-most_rows c = many_declared _ c.if-set-le-SHORT.false
