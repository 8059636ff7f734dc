use Rattle.std.proofs.Common.{◌≡◌, ap, ◌∙◌, ◌||◌, length, take, ℕ}
use Rattle.writer.specs.declared.text.Text.{Text}
use Rattle.writer.specs.Writing.{◌▻◌}
use Rattle.context.specs.Given.{Given}
use Rattle.code_generator.specs.Refusals.{overlap}
use Rattle.name_rows.specs.Rows.{rows_in}
use Rattle.place_rows.specs.PlaceRows.{set_rows}
use Rattle.package_names.specs.Packages.{packages_meet, packages_stand}
use Rattle.member_rows.proofs.NameLaws.{laid}
use Rattle.name_call.proofs.DifferLaws.{places_are}
use Rattle.name_call.proofs.places_differ.Goals as goal

pub returns : goal.returns
returns c =
    let g = c.args.context.now in
    let t = c.put_places.new.text in
    let s = take c.place-end.result t.buffer.now in
    let is : s ≡ take (length c.args.rows.now) (set_rows g.options g.messages g.fields g.set) = ap (λ (n : ℕ). take n t.buffer.now) c.place-end.ensures.place
    ∙ laid _ _ t c.place-end.ensures.room (c.put_places.ensures ∙ ap (λ (u : Text). u ▻ set_rows g.options g.messages g.fields g.set) c.new-text.ensures) in
    places_are g.options (length c.args.rows.now) g.set g.messages g.fields s is c.places_meet.result
    (c.places_meet.ensures ∙ ap (λ (x : Given). overlap (rows_in (length s) s) || (packages_meet x.set || packages_stand (length s) s x.set)) c.context.view_is)
