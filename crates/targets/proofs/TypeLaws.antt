-- A field of the table, from the bytes that its row says. Assumes nothing.
use mathlib.Core.Path.{◌≡◌, ap, ◌∙◌}
use mathlib.Core.Bool.{Bool}
use mathlib.Core.List.{List}
use Prim.Native.Nat.{ℕ}
use Rattle.descriptor.specs.Descriptor.{FieldDescriptor}
use Rattle.descriptor.specs.Decode.{decode_field}
use Rattle.index.specs.Tree.{row_at, row_bytes}
use Rattle.index.specs.declared.Row.{Row}
use Rattle.field_columns.specs.Columns.{column_of, byte_of, column_at, Column}
use Rattle.declarations.specs.declared.Declaration.{Declaration}
use Rattle.message_graph.specs.declared.Field.{Field}
use Rattle.targets.specs.Targets.{type_number, target_at, field_in}

module _ (set : List ℕ) (places : List Row) (k : ℕ) (row : Row) (row_is : row ≡ row_at places k) (part : List ℕ) (part_is : part ≡ row_bytes set row)
    (f : FieldDescriptor) (f_is : f ≡ decode_field part) where
  field_there : f ≡ decode_field (row_bytes set (row_at places k))
  field_there = f_is ∙ ap decode_field (part_is ∙ ap (row_bytes set) row_is)

  pub target_read : (t : List Declaration) (count r : ℕ) → r ≡ type_number set t count f → r ≡ target_at set places t count k
  unfolding target_at
  target_read t count r is = is ∙ ap (type_number set t count) field_there

  pub column_read : (column : Column) (n r : ℕ) → n ≡ column_of column f → r ≡ byte_of n → r ≡ column_at set places column k
  unfolding column_at
  column_read column n r n_is is = is ∙ ap byte_of (n_is ∙ ap (column_of column) field_there)

-- a field, by its numbers
pub made : (set : List ℕ) (places : List Row) (t : List Declaration) (count : ℕ) (settings : List ℕ) (k : ℕ) {owner target kind label : ℕ} {boxed : Bool}
    → owner ≡ (field_in set places t count settings k).owner → target ≡ (field_in set places t count settings k).target → kind ≡ (field_in set places t count settings k).kind
    → label ≡ (field_in set places t count settings k).label → boxed ≡ (field_in set places t count settings k).boxed
    → ◌≡◌ {A = Field} (record { owner = owner; target = target; kind = kind; label = label; boxed = boxed }) (field_in set places t count settings k)
made set places t count settings k a b c d e = rw (a, b, c, d, e)
