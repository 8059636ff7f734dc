use Rattle.std.proofs.Common.{rules, ◌-◌, sym, ◌∙◌, ap, length}
use Rattle.wire.specs.Message.{record_seen}
use Rattle.limits.specs.Fits.{Held}
use Rattle.limits.proofs.FitLaws.{held_none, counted_found, counted_skip, name_found, name_kept}
use Rattle.limits.proofs.+totals_below.Goals as goal
use Rattle.limits.proofs.+totals_below.Goals.{then-record-eq-NAME, else-record-eq-NAME, then-holds_none, else-holds_none+in_ok-inner}

pub loop-record-preserved-in-Some-below : goal.loop-record-preserved-in-Some-below
loop-record-preserved-in-Some-below t c =
    let held : Held (c.args.left - 1) c.in-Some-below.below c.bytes_in-bytes.result.now c.if-holds_none.inner =
    elim c.if-holds_none.branch [
      | then-holds_none w ↦ rw (w.inner-is, w.none-inner.ensures) (held_none _ _ _ (sym c.holds_none.ensures ∙ w.if-holds_none.true))
      | else-holds_none+in_ok-inner w ↦ rw w.inner-is w.in_ok-inner.ensures
    ] in
    record {
      counted =
          counted_found _ _ _ _ _ _ c.loop-record.invariant.counted (record_seen c.in-Ok.record) (search rules) c.in-Some-below.below (search rules) _ c.bytes_in-bytes.ensures _ held _
          (c.in_ok-added.ensures.adds (λ some. c.name.ensures ∙ held.name some)) _ c.in_ok-totals.ensures;
      named =
          elim c.if-record-eq-NAME.branch [
            | then-record-eq-NAME w ↦ name_found _ _ _ _ c.loop-record.invariant.named (record_seen c.in-Ok.record) (search rules) w.if-record-eq-NAME.true _ (w.name-is ∙ ap length c.bytes_in-bytes.ensures)
            | else-record-eq-NAME w ↦ rw w.name-is (name_kept _ _ _ _ c.loop-record.invariant.named (record_seen c.in-Ok.record) (search rules) w.if-record-eq-NAME.false)
          ];
    }

pub loop-record-preserved-in_default-below : goal.loop-record-preserved-in_default-below
loop-record-preserved-in_default-below t c =
    record {
      counted = counted_skip _ _ _ _ _ _ c.loop-record.invariant.counted (record_seen c.in-Ok.record) (search rules) (search rules);
      named =
          elim c.if-record-eq-NAME.branch [
            | then-record-eq-NAME w ↦ name_found _ _ _ _ c.loop-record.invariant.named (record_seen c.in-Ok.record) (search rules) w.if-record-eq-NAME.true _ (w.name-is ∙ ap length c.bytes_in-bytes.ensures)
            | else-record-eq-NAME w ↦ rw w.name-is (name_kept _ _ _ _ c.loop-record.invariant.named (record_seen c.in-Ok.record) (search rules) w.if-record-eq-NAME.false)
          ];
    }
