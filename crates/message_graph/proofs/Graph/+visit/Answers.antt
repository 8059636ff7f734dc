use Rattle.std.proofs.Common.{◌∙◌, sym, arith}
use Rattle.std.proofs.lemmas.Grind.{common_steps}
use borrow.Author.Tests.{not-true}
use lib.ListN.{length, length-set}
use Rattle.base.specs.Tests.{both_ways}
use Rattle.message_graph.proofs.Visits.{clear_set, visiting_past, visiting_on, visiting_end, link_here}
use Rattle.message_graph.proofs.Graph.+visit.Goals.{then-is_link_of+then-not-marks-target, else-is_link_of, else-is_link_of-via-then-is_link_of+else-not-marks-target, else-is_link_of-via-else-is_link_of}
use Rattle.message_graph.proofs.Graph.+visit.Goals as goal

pub visit-requires : goal.visit-requires
visit-requires t c = grind (arith, common_steps, not-true, length, length-set, clear_set)

pub loop-field-preserved : goal.loop-field-preserved
loop-field-preserved t c =
    let v = c.loop-field.invariant in
    let part = c.fields_of-fields.ensures in
    elim c.if-is_link_of.branch [
      | then-is_link_of+then-not-marks-target w ↦
          rw w.marks-is (visiting_on v (link_here part c.loop-field.field-index c.loop-field-test.true (sym c.is_link_of.ensures ∙ w.if-is_link_of.true)) (rw c.place_of-target.ensures.message at w.visit.ensures))
      | else-is_link_of w ↦
          elim w.else-is_link_of.branch [
            | else-is_link_of-via-then-is_link_of+else-not-marks-target w' ↦ rw w.marks-is (visiting_past v (λ is. rw c.place_of-target.ensures.message at w'.if-not-marks-target.false))
            | else-is_link_of-via-else-is_link_of w' ↦ rw w.marks-is (visiting_past v (λ is. both_ways is (sym c.is_link_of.ensures ∙ w'.if-is_link_of.false)))
          ]
    ]

pub returns : goal.returns
returns t c = visiting_end c.fields_of-fields.ensures c.loop-field.invariant c.loop-field-test.false (omega (arith, c.requires.message_bound)) c.requires.clear
