use mathlib.Core.Path.{ap, ◌∙◌}
use Prim.Native.Nat.{ℕ, ◌-◌}
use Rattle.field_columns.specs.Columns.{byte_of}
use Rattle.declarations.specs.Rows.{kind_number, row_at}
use Rattle.declarations.specs.declared.Declaration.{Declaration}
use Rattle.type_names.proofs.FindLaws.{found_gives}
use Rattle.targets.specs.Targets.{message_named}
use Rattle.targets.proofs.message_named.Goals as goal

pub returns-in-Some : goal.returns-in-Some
unfolding message_named
returns-in-Some c =
    c.number_of.ensures ∙ ap (λ (r : Declaration). byte_of (kind_number r.kind - 2)) c.row.ensures
    ∙ (rw c.in-Some.is at (found_gives _ _ _ _ _ (λ (x : ℕ). byte_of (kind_number (row_at c.args.names.now.declared.rows.now x).kind - 2)) 0 _ c.find.ensures))

pub returns-in-None : goal.returns-in-None
unfolding message_named
returns-in-None c = rw c.in-None.is at (found_gives _ _ _ _ _ (λ (x : ℕ). byte_of (kind_number (row_at c.args.names.now.declared.rows.now x).kind - 2)) 0 _ c.find.ensures)
