-- The columns over a table of field rows, and where each message's fields begin in it. Assumes nothing.
use Rattle.std.specs.Prelude.{ℕ, ◌-◌, Bool, List, length, take, ltb, leb}
use Rattle.base.specs.Choose.{choose}
use Rattle.base.specs.Lists.{all_of, first_failing}
use Rattle.descriptor.specs.Descriptor.{FieldDescriptor, MessageDescriptor}
use Rattle.descriptor.specs.Decode.{decode_field}
use Rattle.index.specs.Tree.{row_at, row_bytes}
use Rattle.index.specs.declared.Row.{Row}
use Rattle.message_graph.specs.Limit.{messages}
use Rattle.message_graph.specs.Tab.{tab}
use Rattle.name_rules.specs.Accessors.{type, label}

-- the number of the message that a row stands in; 0 for a number that no message can have
unfoldable pub owner_of : ℕ → ℕ
owner_of up = choose (ltb (up - 1) messages) (up - 1) 0

abbrev pub owner_at : List Row → ℕ → ℕ
owner_at fields i = owner_of (row_at fields i).up

-- the columns that hold a number of the field's descriptor
pub data Column : Type 0 where
  Kind Label : Column

-- a field's type or label
abbrev pub column_of : Column → FieldDescriptor → ℕ
column_of Kind f = type f
column_of Label f = label f

-- in one byte: 0, which is no type and no label, for a number over 255
unfoldable pub byte_of : ℕ → ℕ
byte_of n = choose (ltb n 256) n 0

unfoldable pub column_at : List ℕ → List Row → Column → ℕ → ℕ
column_at set fields column i = byte_of (column_of column (decode_field (row_bytes set (row_at fields i))))

-- a table has fewer than 65,536 rows
unfoldable pub rows_counted : ℕ → ℕ
rows_counted count = choose (ltb 65535 count) 65535 count

abbrev pub first_rows : List Row → ℕ → List Row
first_rows fields count = tab count (row_at fields)

-- a row of a message before message i
abbrev pub before : ℕ → Row → Bool
before i r = leb r.up i

-- where the fields of message i begin: behind the rows, from the first on, of messages before it
unfoldable pub start_at : List Row → ℕ → ℕ → ℕ
start_at fields count i = first_failing (before i) (first_rows fields (rows_counted count))

-- how many fields the messages before message i have
unfoldable pub fields_before : List MessageDescriptor → ℕ → ℕ
fields_before ms i = length (all_of (λ m. m.fields) (take i ms))
