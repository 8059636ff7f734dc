use Rattle.std.proofs.Common.{sym, ap, ◌∙◌, arith, List, ℕ, length}
use Rattle.joined.specs.Joined.{◌⊙◌}
use Rattle.name_rows.specs.Rows.{rows_in}
use Rattle.package_names.specs.Packages.{module_of, module_in}
use Rattle.package_names.proofs.StandLaws.{stand, stands_none, stands_long, stands_hit, stands_on}
use Rattle.package_names.proofs.package_stands.Goals as goal

pub returns-then-as_bytes-gt-MAX_HOME : goal.returns-then-as_bytes-gt-MAX_HOME
returns-then-as_bytes-gt-MAX_HOME c = stands_long (rows_in (length c.args.rows.now) c.args.rows.now) _ _ (omega (arith, ap (λ (l : List ℕ). length l) c.as_bytes.ensures, c.if-as_bytes-gt-MAX_HOME.true)) ∙ c.loop-segment.invariant

pub returns-then-module_stands : goal.returns-then-module_stands
returns-then-module_stands c =
    let rows = rows_in (length c.args.rows.now) c.args.rows.now in
    let is = c.module_stands.ensures ∙ ap (λ (home : List ℕ). module_in rows (module_of home c.in-Some.segment.now)) c.as_bytes-in-loop-segment.ensures in
    stands_hit rows _ _ _ _ is c.if-module_stands.true ∙ ap (stand rows c.loop-segment.home) (sym c.in-Some.ensures.steps) ∙ c.loop-segment.invariant

pub loop-segment-preserved : goal.loop-segment-preserved
loop-segment-preserved c =
    let rows = rows_in (length c.args.rows.now) c.args.rows.now in
    let is = c.module_stands.ensures ∙ ap (λ (home : List ℕ). module_in rows (module_of home c.in-Some.segment.now)) c.as_bytes-in-loop-segment.ensures in
    let next = c.new-home.ensures ∙ ap (λ (home : List ℕ). home ⊙ c.in-Some.segment.now) c.as_bytes-in-loop-segment-2.ensures in
    stands_on rows _ _ _ _ is c.if-module_stands.false _ next ∙ ap (stand rows c.loop-segment.home) (sym c.in-Some.ensures.steps) ∙ c.loop-segment.invariant

pub returns : goal.returns
returns c =
    let rows = rows_in (length c.args.rows.now) c.args.rows.now in
    stands_none rows c.loop-segment.home ∙ ap (stand rows c.loop-segment.home) (sym c.in-None.ensures.steps.0) ∙ c.loop-segment.invariant
