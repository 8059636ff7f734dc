use Rattle.std.proofs.Common.{ap, ap₂, ◌∙◌, List}
use Rattle.writer.specs.Writing.{◌▻◌}
use Rattle.writer.proofs.TextLaws.{appended}
use Rattle.descriptor.specs.Descriptor.{Bytes}
use Rattle.context.specs.Given.{Given}
use Rattle.place_rows.specs.PlaceRows.{enum_rows, messages_rows, file_rows}
use Rattle.place_rows.proofs.put_file.Goals as goal

pub returns : goal.returns
unfolding file_rows
returns c =
    let g = c.args.context.now in
    let t = c.put_messages.new.text in
    appended c.args.text.now t c.put_enums.new.text _ _
    (c.put_messages.ensures ∙ ap₂ (λ (home : Bytes) (ps : List Bytes). c.args.text.now ▻ messages_rows g.options g.messages g.fields 16 home c.args.first ps) (c.as_bytes.ensures ∙ c.package-scope.ensures) c.new.ensures.parts)
    (c.put_enums.ensures
    ∙ ap (λ (x : Given). t ▻ enum_rows x.options c.as_bytes-2.result.now c.new-2.result) c.context.view_is
    ∙ ap₂ (λ (home : Bytes) (ps : List Bytes). t ▻ enum_rows g.options home ps) (c.as_bytes-2.ensures ∙ c.package-scope.ensures) c.new-2.ensures.parts)
