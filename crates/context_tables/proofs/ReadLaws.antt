-- What the code reads is what the definitions say. Assumes nothing.
use Rattle.std.proofs.Common.{◌≡◌, ap, List, ℕ, eqb, get_or}
use Rattle.std.proofs.Math.Bool.{not}
use Rattle.message_graph.proofs.RowLaws.{target_row, kind_row, label_row, setting_row}
use Rattle.context_tables.specs.Rows.{is_set_at}

pub set_read : (bytes : List ℕ) (i x : ℕ) → x ≡ get_or bytes i 0 → not (eqb x 0) ≡ is_set_at bytes i
unfolding is_set_at
set_read bytes i x e = ap (λ (n : ℕ). not (eqb n 0)) e

-- the columns over the fields, by their rows
pub ruleset columns = (target_row, kind_row, label_row, setting_row)
