-- The rows of the places that a set's declarations have: by the tables, with paths cut where the buffers end. Assumes nothing.
use Rattle.std.specs.Prelude.{ℕ, zero, suc, Bool, ◌||◌, not, List, [], ◌++◌, eqb, length, take}
use Rattle.base.specs.Lists.{is_empty}
use Rattle.writer.specs.Text.{pick}
use Rattle.ident.specs.Ident.{to_snake, to_upper_camel}
use Rattle.descriptor.specs.Descriptor.{Bytes}
use Rattle.descriptor.specs.Decode.{entries, parts, decode_file}
use Rattle.options.specs.Settings.{Setting}
use Rattle.extern_paths.specs.ExternPaths.{taken}
use Rattle.name_rules.specs.FullNames.{package_scope}
use Rattle.walks.specs.Walked.{walked}
use Rattle.joined.specs.Joined.{max_path, ◌⊙◌}
use Rattle.text_tables.specs.Rows.{message_row, is_in}
use Rattle.text_tables.specs.declared.MessageRow.{MessageRow}
use Rattle.text_tables.specs.declared.FieldRow.{FieldRow}
use Rattle.members.specs.Members.{name_in, members, conflict}
use Rattle.code_generator.specs.Piece.{spelt, oneof_type}
use Rattle.message_text.specs.MessageText.{is_entry, module_for}
use Rattle.file_parts.specs.FileParts.{behind}
use Rattle.name_rows.specs.Rows.{row}

-- an enum, whose part q is; nothing is counted
unfoldable pub enum_row : List Setting → Bytes → ℕ → Bytes → Bytes
enum_row rs home x q = pick (taken rs (home ⊙ name_in q)) [] (row home (to_upper_camel (name_in q)))

abbrev pub same_count : ℕ → Bytes → ℕ
same_count x q = x

unfoldable pub enum_rows : List Setting → Bytes → List Bytes → Bytes
enum_rows rs home qs = walked (enum_row rs home) same_count 0 qs

-- ---- by the tables; t: the table of fields
module _ (messages : List MessageRow) (t : List FieldRow) where
  -- the enum of the oneof with the index x, whose part q is, of message i, whose part p is: one left without fields is left out
  unfoldable pub oneof_row : Bytes → Bool → ℕ → Bytes → ℕ → Bytes → Bytes
  oneof_row full deeper i p x q =
      pick (is_empty (members (is_in x) messages t i p)) [] (row full (spelt (oneof_type (conflict deeper p (name_in q)) (name_in q))))

  abbrev pub next_index : ℕ → Bytes → ℕ
  next_index x q = suc x

  unfoldable pub oneof_rows : Bytes → Bool → ℕ → Bytes → Bytes
  oneof_rows full deeper i p = walked (oneof_row full deeper i p) next_index 0 (parts 8 (entries p))

module _ (rs : List Setting) (messages : List MessageRow) (t : List FieldRow) where
  -- the rows of nested messages in a scope, the first with a number
  abbrev pub Inner : Type 0
  Inner = Bytes → ℕ → List Bytes → Bytes

  -- the module of message i, whose part p is, and what stands in it
  unfoldable pub module_rows : Inner → Bytes → Bytes → Bool → ℕ → Bytes → Bytes
  module_rows inner scope full deeper i p =
      row scope (to_snake (name_in p))
      ++ inner full (suc i) (parts 3 (entries p))
      ++ enum_rows rs full (parts 4 (entries p))
      ++ oneof_rows messages t full deeper i p

  -- map entries are left out, and what an extern path takes, with all inside it
  unfoldable pub message_rows : Inner → Bytes → Bool → ℕ → Bytes → Bytes
  message_rows inner scope deeper i p =
      pick (is_entry p || taken rs (scope ⊙ name_in p)) []
      (row scope (to_upper_camel (name_in p))
      ++ pick (module_for messages t deeper i p) (module_rows inner scope (scope ⊙ name_in p) deeper i p) [])

  -- the number of the message behind message i and those nested in it
  abbrev pub number_after : ℕ → Bytes → ℕ
  number_after i p = (message_row messages i).after

  -- messages in a scope, so many levels
  unfoldable pub messages_rows : ℕ → Inner
  messages_rows zero scope i ps = []
  messages_rows (suc left) scope i ps = walked (message_rows (messages_rows left) scope (not (eqb left 0))) number_after i ps

  -- the file whose part p is; its first message has the number i
  unfoldable pub file_rows : ℕ → Bytes → Bytes
  file_rows i p =
      messages_rows 16 (take max_path (package_scope (decode_file p).package_name)) i (parts 4 (entries p))
      ++ enum_rows rs (take max_path (package_scope (decode_file p).package_name)) (parts 5 (entries p))

  -- the number of the message behind those of a file
  abbrev pub behind_file : ℕ → Bytes → ℕ
  behind_file i p = behind messages (length (parts 4 (entries p))) i

  unfoldable pub set_rows : List ℕ → Bytes
  set_rows set = walked file_rows behind_file 0 (parts 1 (entries set))
