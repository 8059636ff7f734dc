use Rattle.std.proofs.Common.{ap, ◌∙◌, List}
use Rattle.descriptor.specs.Descriptor.{ValueDescriptor}
use Rattle.code_generator.specs.Refusals.{overlap}
use Rattle.enum_values.specs.Enumeration.{Enumeration}
use Rattle.enum_text.specs.Overlap.{names}
use Rattle.enum_text.proofs.PartLaws.{kept_in}
use Rattle.enum_text.proofs.overlap.written_overlaps.Goals as goal

pub returns : goal.returns
returns c =
    let rs = c.args.options.now in
    c.overlap.ensures ∙ ap (λ (y : Enumeration). overlap (names rs y.name y.values)) c.new-enumeration.ensures
    ∙ ap (λ (vs : List ValueDescriptor). overlap (names rs c.args.name.now vs)) (kept_in _ _ c.build_enum_value_mappings-kept.ensures)
