-- The tables of message_graph and derives for the messages of a set: a row for each field, in declaration order. Assumes nothing.
use Rattle.std.specs.Prelude.{ℕ, suc, ◌≤◌, ◌≡◌, Bool, true, false, ◌||◌, not, length}
use mathlib.Core.List.{List, [], ◌∷◌, ◌++◌, map, Memᴰ}
use Rattle.base.specs.Bytes.{same}
use Rattle.base.specs.Choose.{choose}
use Rattle.base.specs.Lists.{any, first_failing}
use Rattle.descriptor.specs.Descriptor.{Bytes, FieldDescriptor}
use Rattle.options.specs.Settings.{Setting}
use Rattle.name_rules.specs.Accessors.{text, type, label, is_message, is_group}
use Rattle.name_rules.specs.FullNames.{◌·◌, Entry, fields_of_entries}
use Rattle.message_graph.specs.Limit.{messages}
use Rattle.message_graph.specs.Fields.{Fields, fields}
use Rattle.context.specs.Context.{has}

-- a field, the number of its message, and that message's full name
pub record Row : Type 0 where
  pub owner : ℕ
  pub full : Bytes
  pub field : FieldDescriptor

abbrev pub field_row : ℕ → Entry → FieldDescriptor → Row
field_row i e f = record { owner = i; full = e.full; field = f }

-- the fields of messages that are numbered from i
unfoldable pub rows_from : ℕ → List Entry → List Row
rows_from i [] = []
rows_from i (e ∷ es) = map (field_row i e) e.message.fields ++ rows_from (suc i) es

abbrev pub rows_of : List Entry → List Row
rows_of es = rows_from 0 es

abbrev pub called : Bytes → Entry → Bool
called full e = same e.full full

-- has a message this full name?
unfoldable pub listed : List Entry → Bytes → Bool
listed es full = any (called full) es

-- the number of the first message with this full name, and 0 where none has it
unfoldable pub number_of : List Entry → Bytes → ℕ
number_of es full = choose (listed es full) (first_failing (λ e. not (called full e)) es) 0

abbrev pub type_name_of : Row → Bytes
type_name_of r = text r.field.type_name

-- owner, target, kind and label of each field
unfoldable pub tables_of : List Entry → Fields
tables_of es =
    fields (map (λ (r : Row). r.owner) (rows_of es))
    (map (λ (r : Row). number_of es (type_name_of r)) (rows_of es))
    (map (λ (r : Row). type r.field) (rows_of es))
    (map (λ (r : Row). label r.field) (rows_of es))

-- has the field a boxed setting at `.M.f`?
abbrev pub is_set : List Setting → Row → Bool
is_set rs r = has rs 4 (r.full · text r.field.name)

unfoldable pub settings_of : List Setting → List Entry → List Bool
settings_of rs es = map (is_set rs) (rows_of es)

-- no message's full name is that of a later one
abbrev pub Distinct : List Entry → Type 0
Distinct [] = Unit
Distinct (e ∷ es) = (listed es e.full ≡ false) × Distinct es

-- what holds of a set without refusal 4, 6 and 7: limit 3 is kept, full names differ, and the type names of messages and groups are full names of messages
pub record Sound (es : List Entry) : Type 0 where
  pub few : length es ≤ messages
  pub distinct : Distinct es
  pub typed : (f : FieldDescriptor) → Memᴰ f (fields_of_entries es) → (is_message f || is_group f) ≡ true → listed es (text f.type_name) ≡ true
