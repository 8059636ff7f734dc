use Rattle.members.specs.Members.{may_derive}
use Rattle.oneof_text.proofs.EnumLaws.{enum_written}
use Rattle.oneof_text.proofs.put_enum.Goals as goal

pub returns : goal.returns
unfolding may_derive
returns c =
    let g = c.args.context.now in
    rw (c.end.ensures, c.append_variants.ensures, c.put.ensures, c.put_type.ensures, c.put_line.ensures, c.lines_before.ensures, c.as_bytes.ensures, c.as_bytes-2.ensures, c.path_of-path.ensures, c.derives-copy.ensures, c.derives-eq.ensures)
    (enum_written g.options g.set g.messages g.fields c.args.depth c.args.full.now c.args.oneof.now.name c.args.oneof.now.conflict _ c.args.text.now _ c.saturating_add-inner.ensures)
