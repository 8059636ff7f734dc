use Rattle.std.proofs.Common.{arith, ltb-true, ltb-false}
use Rattle.std.specs.Prelude.{◌≡◌, ℕ, ltb, min}
use Rattle.base.specs.Choose.{choose_case}
use Rattle.field_columns.specs.Columns.{rows_counted}
use Rattle.field_columns.proofs.rows_counted.Goals as goal

least : (count : ℕ) → min count 65535 ≡ rows_counted count
unfolding rows_counted
least count =
    choose_case (λ (n : ℕ). min count 65535 ≡ n) (ltb 65535 count) (λ h. let more = ltb-true 65535 count h in omega arith) (λ h. let most = ltb-false 65535 count h in omega arith)

pub returns : goal.returns
returns c = rw c.min.ensures (least c.args.count, omega arith)
