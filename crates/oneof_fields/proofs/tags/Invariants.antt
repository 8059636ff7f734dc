use Rattle.std.specs.Prelude.{◌≡◌, true, map}
use Rattle.writer.specs.Writing.{◌▻◌}
use Rattle.members.specs.Members.{field_at, oneof_members}
use Rattle.code_generator.specs.Writing.{◌⊳◌}
use Rattle.code_generator.specs.Oneofs.{tags}
use Rattle.oneof_fields.proofs.TagLaws.{numbers_of}
use Rattle.oneof_fields.proofs.tags.Given as goal

abbrev pub invariant-loop-k : goal.invariant-loop-k
invariant-loop-k l =
    l.text ▻ numbers_of true (map (field_at l.context.set l.context.fields) l.k-iterator)
    ≡ l.fn.text ⊳ tags (map (field_at l.context.set l.context.fields) (oneof_members l.context.fields l.oneof))
