use Rattle.std.specs.Prelude.{◌≡◌}
use Rattle.enum_text.proofs.SumLaws.{with_sums}
use Rattle.enum_text.proofs.overlap.Variants.put_sums.Given as goal

abbrev pub invariant-loop-value : goal.invariant-loop-value
invariant-loop-value l = with_sums l.self.options.now l.self.enumeration.name l.sums l.value-iterator ≡ with_sums l.self.options.now l.self.enumeration.name l.initial.sums l.self.enumeration.values
