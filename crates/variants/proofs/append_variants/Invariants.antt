use Rattle.std.specs.Prelude.{◌≡◌}
use Rattle.members.specs.Members.{oneof_members}
use Rattle.code_generator.specs.Writing.{◌⊳◌}
use Rattle.variants.specs.Variants.{variant_texts}
use Rattle.variants.proofs.append_variants.Given as goal

abbrev pub invariant-loop-k : goal.invariant-loop-k
invariant-loop-k l =
    l.text ⊳ variant_texts l.context.options l.context.set l.context.fields l.depth l.full l.path l.k-iterator
    ≡ l.initial.text ⊳ variant_texts l.context.options l.context.set l.context.fields l.depth l.full l.path (oneof_members l.context.fields l.oneof)
