use Rattle.map_entries.specs.declared.Namers.{Namers}
use Rattle.map_entries.specs.declared.Namers.TheVariants.{Nobody}
use lib.ListN.{length-replicate}
use native.Mathlib.Omega.{arith}
use Rattle.declarations.specs.Rows.{no_row}
use Rattle.declarations.specs.declared.Declaration.{Declaration as Row}
use Rattle.set_rules.proofs.RowCounts.{room_within, room_short}
use Rattle.set_rules.proofs.judge_names.Goals as goal

pub returns-then-set-le-SHORT : goal.returns-then-set-le-SHORT
returns-then-set-le-SHORT c = λ _. c.judge_within.ensures (room_short _ _ _ c.if-set-le-SHORT.true (rw (length-replicate {A = Row} 151 no_row) (omega arith)) (rw (length-replicate {A = Namers} 151 Nobody) (omega arith)))

pub returns : goal.returns
returns c = λ passed. c.judge_within-2.ensures (room_within _ _ _ passed (rw (length-replicate {A = Row} 545 no_row) (omega arith)) (rw (length-replicate {A = Namers} 545 Nobody) (omega arith)))
