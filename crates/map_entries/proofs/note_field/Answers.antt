use mathlib.Core.Path.{ap, sym, ◌∙◌}
use Rattle.descriptor.specs.Descriptor.{FieldDescriptor}
use Rattle.descriptor.specs.Seen.{text_seen}
use Rattle.map_entries.proofs.PassLaws.{unnamed_field, named_field}
use Rattle.map_entries.proofs.note_field.Goals as goal

pub returns-in-Some : goal.returns-in-Some
returns-in-Some c =
    named_field _ _ _ _ _ c.new-field.ensures _ _ _ (sym (ap (λ (f : FieldDescriptor). f.type_name) c.field.view_is) ∙ ap text_seen c.in-Some.is) _ c.maps.ensures _ c.vote_of-said.ensures _ c.note_rows.ensures

pub returns-in_default : goal.returns-in_default
returns-in_default c = unnamed_field _ _ _ _ _ c.new-field.ensures _ _ (sym (ap (λ (f : FieldDescriptor). f.type_name) c.field.view_is) ∙ ap text_seen c.in_default.is)
