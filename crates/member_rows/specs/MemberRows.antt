-- Names of a struct's members, and of a oneof's variants, that are the same, as they are found: by the tables, in rows as far as there is room
-- for them, with paths cut where the buffers end. Assumes nothing.
use Rattle.std.specs.Prelude.{ℕ, zero, suc, Bool, true, false, ◌||◌, List, [], ◌∷◌, ◌++◌, length, take, Option, Some, None}
use Rattle.base.specs.Choose.{choose}
use Rattle.base.specs.Lists.{all_of, is_empty}
use Rattle.ident.specs.Ident.{to_snake, to_upper_camel}
use Rattle.descriptor.specs.Descriptor.{Bytes}
use Rattle.descriptor.specs.Decode.{entries, parts, decode_message, decode_file}
use Rattle.options.specs.Settings.{Setting}
use Rattle.extern_paths.specs.ExternPaths.{taken}
use Rattle.name_rules.specs.Accessors.{text}
use Rattle.name_rules.specs.FullNames.{package_scope}
use Rattle.joined.specs.Joined.{max_path, ◌⊙◌}
use Rattle.text_tables.specs.Rows.{message_row, is_plain, is_in}
use Rattle.text_tables.specs.declared.MessageRow.{MessageRow}
use Rattle.text_tables.specs.declared.FieldRow.{FieldRow}
use Rattle.walks.specs.Walked.{walked}
use Rattle.members.specs.Members.{name_in, field_at, members}
use Rattle.name_rows.specs.declared.Spelling.{Spelling}
use Rattle.name_rows.specs.Spelt.{spelt_by}
use Rattle.code_generator.specs.Refusals.{overlap}
use Rattle.name_rows.specs.Rows.{row, rows_in}
use Rattle.file_parts.specs.FileParts.{behind}

-- the row of a name that has no home: a variant's is camel, a struct's member's snake
unfoldable pub name_row : Bool → Bytes → Bytes
name_row camel x = row [] (choose camel (to_upper_camel x) (to_snake x))

-- t: the table of fields
abbrev pub field_name : List ℕ → List FieldRow → ℕ → Bytes
field_name set t k = text (field_at set t k).name

-- the rows of these fields
unfoldable pub field_rows : List ℕ → List FieldRow → Bool → List ℕ → Bytes
field_rows set t camel ks = all_of (λ (k : ℕ). name_row camel (field_name set t k)) ks

-- the fields of the oneof with an index, or else of none
abbrev pub chosen : Option ℕ → FieldRow → Bool
chosen None row = is_plain row
chosen (Some index) row = is_in index row

-- the rows of these fields, spelt alike
abbrev pub rows_by : Spelling → List ℕ → List FieldRow → List ℕ → Bytes
rows_by spelling set t ks = all_of (λ (k : ℕ). row [] (spelt_by spelling (field_name set t k))) ks

-- are two rows of a text the same, of which there is room for so many bytes?
unfoldable pub rows_overlap : ℕ → Bytes → Bool
rows_overlap room s = overlap (rows_in (length (take room s)) (take room s))

module _ (messages : List MessageRow) (t : List FieldRow) where
  -- the row of the oneof with the index x, whose part q is, of message i, whose part p is: one left without fields has none
  unfoldable pub oneof_row : ℕ → Bytes → ℕ → Bytes → Bytes
  oneof_row i p x q = choose (is_empty (members (is_in x) messages t i p)) [] (name_row false (name_in q))

  abbrev pub next_index : ℕ → Bytes → ℕ
  next_index x q = suc x

  unfoldable pub oneof_rows : ℕ → Bytes → Bytes
  oneof_rows i p = walked (oneof_row i p) next_index 0 (parts 8 (entries p))

-- room: of the buffer
module _ (room : ℕ) (set : List ℕ) (messages : List MessageRow) (t : List FieldRow) where
  -- the members of a struct
  unfoldable pub struct_meets : ℕ → Bytes → Bool
  struct_meets i p = rows_overlap room (field_rows set t false (members is_plain messages t i p) ++ oneof_rows messages t i p)

  -- the variants of one of n oneofs, the first of which has the index x
  unfoldable pub oneofs_meet : ℕ → Bytes → ℕ → ℕ → Bool
  oneofs_meet i p zero x = false
  oneofs_meet i p (suc n) x = rows_overlap room (field_rows set t true (members (is_in x) messages t i p)) || oneofs_meet i p n (suc x)

  -- message i alone, whose part p is
  unfoldable pub own_meet : ℕ → Bytes → Bool
  own_meet i p = struct_meets i p || oneofs_meet i p (length (parts 8 (entries p))) 0

module _ (rs : List Setting) (room : ℕ) (set : List ℕ) (messages : List MessageRow) (t : List FieldRow) where
  abbrev pub Inner : Type 0
  Inner = Bytes → ℕ → List Bytes → Bool

  -- a message with those nested in it: what is not written has none
  unfoldable pub message_meets : Inner → Bytes → ℕ → Bytes → Bool
  message_meets inner scope i p =
      choose ((decode_message p).map_entry || taken rs (scope ⊙ name_in p)) false (own_meet room set messages t i p || inner (scope ⊙ name_in p) (suc i) (parts 3 (entries p)))

  -- messages in a scope, the first with the number i
  unfoldable pub meet_of : Inner → Inner
  meet_of inner scope i [] = false
  meet_of inner scope i (p ∷ ps) = message_meets inner scope i p || meet_of inner scope (message_row messages i).after ps

  -- so many levels
  unfoldable pub messages_meet : ℕ → Inner
  messages_meet zero scope i ps = false
  messages_meet (suc left) scope i ps = meet_of (messages_meet left) scope i ps

  -- of the file whose part p is; its first message has the number i
  unfoldable pub file_meets : ℕ → Bytes → Bool
  file_meets i p = messages_meet 16 (take max_path (package_scope (decode_file p).package_name)) i (parts 4 (entries p))

  -- of files, the first message of the first with the number i
  unfoldable pub files_meet : ℕ → List Bytes → Bool
  files_meet i [] = false
  files_meet i (p ∷ ps) = file_meets i p || files_meet (behind messages (length (parts 4 (entries p))) i) ps

  -- of the set
  unfoldable pub set_meets : Bool
  set_meets = files_meet 0 (parts 1 (entries set))
