use Rattle.std.proofs.Common.{◌≡◌, ◌∷◌, map}
use Rattle.writer.specs.Writing.{◌▻◌}
use Rattle.rust_paths.specs.Segments.{written}
use Rattle.rust_paths.specs.Parts.{led, segments}
use Rattle.rust_paths.proofs.put_parts.Given as goal

abbrev pub invariant-loop-part : goal.invariant-loop-part
invariant-loop-part l = l.text ▻ led (map written (segments l.camel (l.last ∷ l.part-iterator))) ≡ l.initial.text ▻ led (map written (segments l.camel (l.initial.last ∷ l.initial.part-iterator)))
