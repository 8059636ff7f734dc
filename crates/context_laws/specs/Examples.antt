-- The tables of a small set, and what is boxed in it. Assumes nothing.
use Rattle.std.specs.Prelude.{ℕ, ◌≡◌, refl, true, false, List, [], ◌∷◌, map}
use Rattle.std.proofs.Math.Option.{Option, some, none}
use Rattle.base.specs.Bytes.{b, same}
use Rattle.base.specs.Choose.{choose}
use Rattle.base.specs.Lists.{any, first_failing}
use Rattle.descriptor.specs.Descriptor.{Bytes, FieldDescriptor}
use Rattle.name_rules.specs.FullNames.{Entry}
use Rattle.message_graph.specs.Fields.{fields, message_at, is_link}
use Rattle.message_graph.specs.Leads.{leads_by, leadsb}
use Rattle.message_graph.specs.Boxes.{may_loop, boxed_by_loop}
use Rattle.context_laws.specs.Tables.{rows_from, listed, number_of, tables_of}

abbrev field : Bytes → ℕ → ℕ → Option Bytes → FieldDescriptor
field name label type type_name = record {
  name = some name;
  number = some 1;
  label = some label;
  type = some type;
  type_name = type_name;
  default_value = none;
  options = none;
  oneof_index = none;
  proto3_optional = false;
}

abbrev entry : Bytes → List FieldDescriptor → Entry
entry full fs = record { full = full; message = record { name = none; fields = fs; enums = []; map_entry = false; oneofs = [] } }

-- .A has a .C, repeated .A, an int32 and a .B; .B has an .A; .C a string
abbrev messages : List Entry
messages =
    entry (b ".A") (field (b "c") 1 11 (some (b ".C")) ∷ field (b "x") 3 11 (some (b ".A")) ∷ field (b "n") 1 5 none ∷ field (b "b") 1 11 (some (b ".B")) ∷ [])
    ∷ entry (b ".B") (field (b "a") 1 11 (some (b ".A")) ∷ [])
    ∷ entry (b ".C") (field (b "s") 1 9 none ∷ [])
    ∷ []

tables : tables_of messages ≡ fields (0 ∷ 0 ∷ 0 ∷ 0 ∷ 1 ∷ 2 ∷ []) (2 ∷ 0 ∷ 0 ∷ 1 ∷ 0 ∷ 0 ∷ []) (11 ∷ 11 ∷ 5 ∷ 11 ∷ 11 ∷ 9 ∷ []) (1 ∷ 3 ∷ 1 ∷ 1 ∷ 1 ∷ 1 ∷ [])
unfolding tables_of rows_from number_of listed any first_failing choose same
tables = refl

boxed : map (boxed_by_loop (tables_of messages)) (0 ∷ 1 ∷ 2 ∷ 3 ∷ 4 ∷ 5 ∷ []) ≡ (false ∷ false ∷ false ∷ true ∷ true ∷ false ∷ [])
unfolding tables_of rows_from number_of listed any first_failing choose same boxed_by_loop may_loop is_link leadsb leads_by message_at
boxed = refl
