-- Full names from their ends, and the rows that they are made of.
use Rattle.std.specs.Prelude.{ℕ, suc, ◌≡◌, false, List, [], Option, None, Some}
use denote.Ref.{Bor}
use Rattle.base.specs.Bytes.{same}
use Rattle.descriptor.specs.Descriptor.{Bytes}
use Rattle.name_rules.specs.FullNames.{◌·◌}
use Rattle.declarations.specs.declared.Declaration.{Declaration as Row}
use Rattle.declarations.specs.Rows.{row_at}
use Rattle.declarations.specs.Listed.{above, full}
use Rattle.type_names.specs.declared.Front.{Front}

-- no row, or a row, as the number by which full names are defined
abbrev pub code_of : Option ℕ → ℕ
code_of None = 0
code_of (Some i) = suc i

-- what is left of a full name that is read from its end
abbrev pub spelled : Bytes → List Row → Option Front → Bytes
spelled bytes t None = []
spelled bytes t (Some f) = full bytes t (code_of f.up) · f.own.now

-- a name against the full name of row i; what is left is to be compared with the full name of what the row stands in
abbrev pub Stripped : Bytes → List Row → Bytes → ℕ → Option (Bor (List ℕ)) → Type 0
Stripped bytes t name i None = same (full bytes t (suc i)) name ≡ false
Stripped bytes t name i (Some front) = same (full bytes t (suc i)) name ≡ same (full bytes t (above i (row_at t i))) front.now

-- the rows of a table from one upward: the number of the next, as full names are defined by
pub record Climb : Type 0 where
  pub rows : List Row
  pub code : ℕ

-- one row on
pub record ClimbsOver (old : Climb) (i : ℕ) (new : Climb) : Type 0 where
  pub here : old.code ≡ suc i
  pub rows : new.rows ≡ old.rows
  pub code : new.code ≡ above i (row_at old.rows i)

abbrev pub Climbs : Climb → Option ℕ → Climb → Type 0
Climbs old None new = old.code ≡ 0
Climbs old (Some i) new = ClimbsOver old i new
