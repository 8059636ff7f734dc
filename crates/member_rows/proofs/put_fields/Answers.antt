use Rattle.std.proofs.Common.{◌≡◌, refl, ap, ◌∙◌, sym, [], arith}
use Rattle.writer.specs.Writing.{◌▻◌}
use Rattle.name_rows.specs.Spelt.{spelt_by}
use Rattle.name_rows.specs.Rows.{row}
use Rattle.context.specs.Given.{Given}
use Rattle.descriptor.specs.Descriptor.{Bytes, FieldDescriptor}
use Rattle.name_rules.specs.Accessors.{text}
use Rattle.text_tables.specs.Rows.{field_row}
use Rattle.member_rows.specs.MemberRows.{chosen}
use Rattle.member_rows.proofs.NameLaws.{fields_on, fields_past, fields_done}
use Rattle.member_rows.proofs.put_fields.Goals as goal

pub loop-k-preserved-then-is_member : goal.loop-k-preserved-then-is_member
loop-k-preserved-then-is_member c =
    let v = c.args in
    let g = v.context.now in
    let d = c.in-Some.ensures.steps in
    let is : c.is_member.result ≡ chosen v.oneof (field_row g.fields c.in-Some.k) = c.is_member.ensures ∙ ap (chosen v.oneof) (c.field_row.ensures ∙ ap (λ (x : Given). field_row x.fields c.in-Some.k) c.context.view_is) in
    let written = c.put_row.ensures ∙ ap (λ (name : Bytes). c.loop-k.text ▻ row [] (spelt_by v.spelling name)) (c.name.ensures ∙ ap (λ (f : FieldDescriptor). text f.name) c.field_at.ensures) in
    rw (d.0, d.1.2) (fields_on v.spelling g.set g.fields (chosen v.oneof) c.loop-k.k-iterator.end c.loop-k.k-iterator.start c.loop-k.text _ c.loop-k.invariant (omega (arith, d.1.0)) (rw d.1.1 at (sym is ∙ c.if-is_member.true)) _ (rw d.1.1 at written))

pub loop-k-preserved : goal.loop-k-preserved
loop-k-preserved c =
    let v = c.args in
    let g = v.context.now in
    let d = c.in-Some.ensures.steps in
    let is : c.is_member.result ≡ chosen v.oneof (field_row g.fields c.in-Some.k) = c.is_member.ensures ∙ ap (chosen v.oneof) (c.field_row.ensures ∙ ap (λ (x : Given). field_row x.fields c.in-Some.k) c.context.view_is) in
    rw (d.0, d.1.2) (fields_past v.spelling g.set g.fields (chosen v.oneof) c.loop-k.k-iterator.end c.loop-k.k-iterator.start c.loop-k.text _ c.loop-k.invariant (omega (arith, d.1.0)) (rw d.1.1 at (sym is ∙ c.if-is_member.false)) _ refl)

pub returns : goal.returns
returns c = let d = c.in-None.ensures.steps in fields_done _ _ _ _ _ _ _ _ c.loop-k.invariant (omega (arith, d.1.0))
