use mathlib.Core.Path.{◌≡◌}
use mathlib.Core.List.{map}
use Rattle.descriptor.specs.Decode.{decode_value}
use Rattle.enum_values.specs.Kept.{no_values, noted, values_in}
use Rattle.enum_values.proofs.build_enum_value_mappings.Given as goal

abbrev pub invariant-loop-value : goal.invariant-loop-value
invariant-loop-value l = noted l.kept (map decode_value l.value-iterator) ≡ noted no_values (values_in l.part)
