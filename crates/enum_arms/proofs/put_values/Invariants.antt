use mathlib.Core.Path.{◌≡◌}
use Rattle.code_generator.specs.Writing.{◌⊳◌}
use Rattle.enum_arms.specs.ValueText.{value_texts}
use Rattle.enum_arms.proofs.put_values.Given as goal

abbrev pub invariant-loop-value : goal.invariant-loop-value
invariant-loop-value l =
    l.text ⊳ value_texts l.options l.arm l.depth l.enumeration.full l.enumeration.name l.value-iterator ≡ l.initial.text ⊳ value_texts l.options l.arm l.depth l.enumeration.full l.enumeration.name l.enumeration.values
