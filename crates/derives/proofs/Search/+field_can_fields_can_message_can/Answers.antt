use Rattle.std.proofs.Common.{◌∙◌, sym, ap, arith}
use Rattle.derives.specs.Can.{answer_of}
use Rattle.derives.proofs.Known.{field_told, field_by_type, memo_type, type_cannot, memo_sought, sought_fewer, kept_found, scan_other, scan_can, scan_all, scan_not}
use Rattle.derives.proofs.Search.+field_can_fields_can_message_can.Goals.{fields_can-else-place_of-message-via-then-place_of-message+else-not-field_can, fields_can-else-place_of-message-via-else-place_of-message}
use Rattle.derives.proofs.Search.+field_can_fields_can_message_can.Goals as goal

pub field_can-message_can-requires : goal.field_can-message_can-requires
field_can-message_can-requires t c =
    let to = c.place_of-target.ensures.message in
    let place = c.requires.place in
    let turn = c.fixed_answer.ensures in
    (omega (arith, c.requires.memo_bound), (rw to (memo_type _ _ _ place _ turn c.in-None.is c.requires.memo), (c.place_of-target.ensures.bound, (rw to (type_cannot _ _ _ place _ turn c.in-None.is c.requires.memo), omega (arith, c.requires.memo_bound)))))

pub field_can-returns-in-Some-clause-value : goal.field_can-returns-in-Some-clause-value
field_can-returns-in-Some-clause-value t c = sym (field_told _ _ _ c.requires.place _ c.fixed_answer.ensures _ c.in-Some.is)

pub field_can-returns-in-None-clause-value : goal.field_can-returns-in-None-clause-value
field_can-returns-in-None-clause-value t c =
    c.message_can.ensures.value ∙ ap (answer_of _ _) c.place_of-target.ensures.message ∙ sym (field_by_type _ _ _ c.requires.place _ c.fixed_answer.ensures c.in-None.is)

pub fields_can-returns-then-not-field_can-clause-value : goal.fields_can-returns-then-not-field_can-clause-value
fields_can-returns-then-not-field_can-clause-value t c =
    let own = sym c.place_of.ensures.message ∙ c.if-place_of-message.true in
    sym (scan_not _ _ (c.fields_of-fields.ensures.within c.loop-field.field-index c.loop-field-test.true) own (sym c.field_can.ensures.value ∙ c.if-not-field_can.true))

pub fields_can-loop-field-preserved : goal.fields_can-loop-field-preserved
fields_can-loop-field-preserved t c =
    elim c.else-place_of-message.branch [
      | fields_can-else-place_of-message-via-then-place_of-message+else-not-field_can w ↦
          rw w.memo-is (scan_can c.loop-field.invariant w.field_can.ensures.kept (sym w.field_can.ensures.value ∙ w.if-not-field_can.false))
      | fields_can-else-place_of-message-via-else-place_of-message w ↦ rw w.memo-is (scan_other c.loop-field.invariant (λ own. w.if-place_of-message.false (c.place_of.ensures.message ∙ own)))
    ]

pub fields_can-returns-clause-value : goal.fields_can-returns-clause-value
fields_can-returns-clause-value t c = sym (scan_all c.loop-field.invariant c.fields_of-fields.ensures c.loop-field-test.false)

pub message_can-fields_can-can-requires : goal.message_can-fields_can-can-requires
message_can-fields_can-can-requires t c =
    let m = c.requires.memo in
    let lt = c.requires.message_bound in
    let less = sought_fewer m lt c.in_default.not-Some in
    (omega arith, (memo_sought m lt, (lt, omega (arith, c.requires.memo_bound))))

pub message_can-returns-clause-kept : goal.message_can-returns-clause-kept
message_can-returns-clause-kept t c = kept_found c.requires.memo c.requires.message_bound c.fields_can-can.ensures.kept _ (sym c.fields_can-can.ensures.value)
