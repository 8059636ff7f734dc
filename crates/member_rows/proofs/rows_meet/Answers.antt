use Rattle.std.proofs.Common.{ap, ◌∙◌, List, ℕ, length, take}
use Rattle.code_generator.specs.Refusals.{overlap}
use Rattle.name_rows.specs.Rows.{rows_in}
use Rattle.member_rows.specs.MemberRows.{rows_overlap}
use Rattle.member_rows.proofs.NameLaws.{laid}
use Rattle.member_rows.proofs.rows_meet.Goals as goal

pub returns : goal.returns
unfolding rows_overlap
returns c rows bytes e =
    let t = c.args.text.now in
    c.rows_meet.ensures
    ∙ ap (λ (s : List ℕ). overlap (rows_in (length s) s)) (ap (λ (n : ℕ). take n t.buffer.now) c.place.ensures.place ∙ laid rows bytes t c.place.ensures.room e)
