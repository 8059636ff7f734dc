-- A file of a set by its index: its part, and the number of its first message. Assumes nothing.
use Rattle.std.specs.Prelude.{ℕ, zero, suc, List, [], ◌∷◌, length}
use Rattle.descriptor.specs.Descriptor.{Bytes}
use Rattle.descriptor.specs.Decode.{entries, parts}
use Rattle.text_tables.specs.Rows.{message_row}
use Rattle.text_tables.specs.declared.MessageRow.{MessageRow}

-- one of these parts; past the last none
unfoldable pub part_at : List Bytes → ℕ → Bytes
part_at [] x = []
part_at (p ∷ ps) zero = p
part_at (p ∷ ps) (suc x) = part_at ps x

-- the number behind n messages, the first of which is message i, and those nested in them
unfoldable pub behind : List MessageRow → ℕ → ℕ → ℕ
behind messages zero i = i
behind messages (suc n) i = behind messages n (message_row messages i).after

-- behind the messages of x of these files, the first of which is message i
unfoldable pub first_number : List MessageRow → ℕ → List Bytes → ℕ → ℕ
first_number messages i [] x = i
first_number messages i (p ∷ ps) zero = i
first_number messages i (p ∷ ps) (suc x) = first_number messages (behind messages (length (parts 4 (entries p))) i) ps x
