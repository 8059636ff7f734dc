use Rattle.std.proofs.Common.{ap, ◌∙◌, ◌-◌, true}
use Rattle.base.specs.Choose.{choose}
use Rattle.writer.specs.declared.text.Text.{Text}
use Rattle.writer.specs.Writing.{◌▻◌}
use Rattle.text_tables.specs.Rows.{is_in}
use Rattle.members.specs.Members.{numbers_where}
use Rattle.member_rows.specs.MemberRows.{name_row, field_rows}
use Rattle.member_rows.proofs.variants_meet.Goals as goal

pub returns : goal.returns
unfolding field_rows name_row choose
returns c = c.rows_meet.ensures _ _ (c.put_fields.ensures ∙ ap (λ (t : Text). t ▻ field_rows c.args.context.now.set c.args.context.now.fields true (numbers_where (is_in c.args.index) c.args.context.now.fields (c.args.fields.end - c.args.fields.start) c.args.fields.start)) c.new-text.ensures)
