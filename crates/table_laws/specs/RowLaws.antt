-- What the text's writers read in the tables. Assumes nothing.
use Rattle.std.specs.Prelude.{◌≡◌, Bool, List, ℕ, ◌<◌}
use Rattle.message_graph.specs.Tab.{tab, tab_at}
use Rattle.index.specs.declared.Row.{Row}
use Rattle.text_tables.specs.Rows.{no_message, no_field, message_row, field_row}
use Rattle.context_tables.specs.Rows.{message_row_of, field_row_of}

-- the row of message i
pub message_row_is : (rows : List Row) (first : List ℕ) (copy eq : List Bool) (n i : ℕ) → i < n
    → message_row (tab n (message_row_of rows first copy eq)) i ≡ message_row_of rows first copy eq i
message_row_is rows first copy eq n i room = tab_at n (message_row_of rows first copy eq) no_message i room

-- the row of field k
pub field_row_is : (set : List ℕ) (rows table : List Row) (target kind label : List ℕ) (boxed settings copy eq entries : List Bool) (n k : ℕ) → k < n
    → field_row (tab n (field_row_of set rows table target kind label boxed settings copy eq entries)) k ≡ field_row_of set rows table target kind label boxed settings copy eq entries k
field_row_is set rows table target kind label boxed settings copy eq entries n k room =
    tab_at n (field_row_of set rows table target kind label boxed settings copy eq entries) no_field k room
