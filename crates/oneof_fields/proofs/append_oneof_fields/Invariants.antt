use Rattle.std.specs.Prelude.{◌≡◌}
use Rattle.base.specs.Lists.{all_of}
use Rattle.writer.specs.Writing.{◌▻◌}
use Rattle.members.specs.Seen.{OneofSeen}
use Rattle.code_generator.specs.Piece.{flat}
use Rattle.oneof_fields.specs.OneofFields.{oneof_field_texts}
use Rattle.oneof_fields.proofs.FieldLaws.{field_of}
use Rattle.oneof_fields.proofs.append_oneof_fields.Given as goal

abbrev pub invariant-loop-oneof : goal.invariant-loop-oneof
invariant-loop-oneof l =
    l.text ▻ all_of (λ (o : OneofSeen). flat (field_of l.context l.depth l.message o)) l.oneof-iterator
    ≡ l.initial.text ▻ oneof_field_texts l.context.options l.context.set l.context.messages l.context.fields l.depth l.message.full l.message.nested l.message.number l.message.part
