-- The messages of a scope, and the files of a set, each with its number. Assumes nothing.
use Rattle.std.specs.Prelude.{◌≡◌, ℕ, ◌<◌, List, [], ◌∷◌, length, Option, MatchOption}
use Rattle.std.specs.Borrow.{Bor}
use Rattle.descriptor.specs.Descriptor.{Bytes}
use Rattle.descriptor.specs.Decode.{entries, parts}
use Rattle.text_tables.specs.Rows.{message_row}
use Rattle.text_tables.specs.declared.MessageRow.{MessageRow}
use Rattle.file_parts.specs.FileParts.{behind}

-- those that are left, of which the first has a number
pub record NumberedSeen : Type 0 where
  pub messages : List MessageRow
  pub number : ℕ
  pub parts : List Bytes

-- the number that comes next, behind one with a number and these bytes
abbrev pub Next : Type 0
Next = List MessageRow → ℕ → Bytes → ℕ

-- the first comes, with its number, and leaves those behind it
abbrev pub Yields : Next → NumberedSeen → Option (ℕ × Bor Bytes) → NumberedSeen → Type 0
Yields next s r t =
    MatchOption r ((s.parts ≡ []) × (t.parts ≡ []))
    (λ x. (x.0 ≡ s.number) × (s.parts ≡ x.1.now ∷ t.parts) × (t.number ≡ next s.messages s.number x.1.now) × (t.number < 65536) × (t.messages ≡ s.messages))

-- behind a message and those nested in it the next
abbrev pub after_message : Next
after_message messages i p = (message_row messages i).after

abbrev pub YieldsNumbered : NumberedSeen → Option (ℕ × Bor Bytes) → NumberedSeen → Type 0
YieldsNumbered s r t = Yields after_message s r t

-- behind the messages of a file the next one's first
abbrev pub after_file : Next
after_file messages i p = behind messages (length (parts 4 (entries p))) i

abbrev pub YieldsFiles : NumberedSeen → Option (ℕ × Bor Bytes) → NumberedSeen → Type 0
YieldsFiles s r t = Yields after_file s r t
