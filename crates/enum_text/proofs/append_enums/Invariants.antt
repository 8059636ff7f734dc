use mathlib.Core.Path.{◌≡◌}
use mathlib.Core.List.{map}
use Rattle.descriptor.specs.Decode.{decode_enum}
use Rattle.writer.specs.Writing.{◌▻◌}
use Rattle.enum_text.specs.EnumText.{enum_texts, enums_in}
use Rattle.enum_text.proofs.append_enums.Given as goal

abbrev pub invariant-loop-enumeration : goal.invariant-loop-enumeration
invariant-loop-enumeration l =
    l.text ▻ enum_texts l.options l.depth l.scope (map decode_enum l.enumeration-iterator) ≡ l.initial.text ▻ enum_texts l.options l.depth l.scope (enums_in l.fn.number l.fn.part)
