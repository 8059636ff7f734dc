use Rattle.std.proofs.Common.{ap, ◌∙◌, List, ℕ, ◌++◌, ◌-◌, length, false}
use Rattle.base.specs.Choose.{choose}
use Rattle.writer.specs.declared.text.Text.{Text}
use Rattle.writer.specs.Writing.{◌▻◌}
use Rattle.writer.proofs.TextLaws.{appended}
use Rattle.context.specs.Given.{Given}
use Rattle.text_tables.specs.Rows.{is_plain}
use Rattle.members.specs.Members.{numbers_where}
use Rattle.member_rows.specs.MemberRows.{name_row, field_rows, oneof_rows, rows_overlap, struct_meets}
use Rattle.member_rows.proofs.NameLaws.{members_in}
use Rattle.member_rows.proofs.struct_meets.Goals as goal

pub returns : goal.returns
unfolding struct_meets field_rows name_row choose
returns c =
    let g = c.args.context.now in
    let m = c.args.message.now in
    let fields = c.fields-fields.result in
    let put = c.put_fields.ensures ∙ ap (λ (t : Text). t ▻ field_rows g.set g.fields false (numbers_where is_plain g.fields (fields.end - fields.start) fields.start)) c.new-text.ensures in
    c.rows_meet.ensures _ _ (appended _ _ _ _ _ put c.put_oneofs.ensures)
    ∙ ap (λ (ks : List ℕ). rows_overlap (length c.args.rows.now) (field_rows g.set g.fields false ks ++ oneof_rows g.messages g.fields m.number m.part))
    (members_in g.messages g.fields m.number m.part (ap (λ (x : Given). x.messages) c.context.view_is) c.fields-fields.ensures.start c.fields-fields.ensures.end is_plain)
