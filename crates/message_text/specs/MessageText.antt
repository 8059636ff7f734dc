-- The messages of a file as they are written: by the tables, with paths cut where the buffers end. Assumes nothing.
use Rattle.std.specs.Prelude.{ℕ, zero, suc, Bool, ◌||◌, ◌&&◌, not, List, [], ◌++◌, eqb, length, take}
use Rattle.base.specs.Lists.{any, is_empty}
use Rattle.writer.specs.Text.{pick}
use Rattle.syntax.specs.Syntax.{syntax_of}
use Rattle.descriptor.specs.Descriptor.{Bytes}
use Rattle.descriptor.specs.Decode.{entries, parts, decode_message, decode_file}
use Rattle.options.specs.Settings.{Setting}
use Rattle.extern_paths.specs.ExternPaths.{taken}
use Rattle.name_rules.specs.FullNames.{package_scope}
use Rattle.walks.specs.Walked.{walked}
use Rattle.joined.specs.Joined.{max_path, ◌⊙◌}
use Rattle.text_tables.specs.Rows.{message_row}
use Rattle.text_tables.specs.declared.MessageRow.{MessageRow}
use Rattle.text_tables.specs.declared.FieldRow.{FieldRow}
use Rattle.members.specs.Members.{name_in, in_oneofs}
use Rattle.struct_text.specs.StructText.{struct_text}
use Rattle.enum_text.specs.EnumText.{enums_in, enum_texts}
use Rattle.oneof_text.specs.OneofText.{oneof_texts}
use Rattle.code_generator.specs.Piece.{flat}
use Rattle.code_generator.specs.Attributes.{end}
use Rattle.code_generator.specs.Generate.{push_mod, is_proto3}

-- is a message a map entry?
abbrev pub is_entry : Bytes → Bool
is_entry q = (decode_message q).map_entry

-- is a module written for message i, whose part p is? deeper: are nested messages read?
unfoldable pub module_for : List MessageRow → List FieldRow → Bool → ℕ → Bytes → Bool
module_for messages t deeper i p =
    not (is_empty (parts 4 (entries p)))
    || ((deeper && any (λ (q : Bytes). not (is_entry q)) (parts 3 (entries p)))
    || in_oneofs t (length (parts 2 (entries p))) (message_row messages i).first)

-- t: the table of fields
module _ (rs : List Setting) (set : List ℕ) (messages : List MessageRow) (t : List FieldRow) (proto3 : Bool) where
  -- how the nested messages are written: at a depth, in a scope, the first with a number
  abbrev pub Inner : Type 0
  Inner = ℕ → Bytes → ℕ → List Bytes → Bytes

  -- the module of message i
  unfoldable pub module_text : Inner → ℕ → Bytes → Bool → ℕ → Bytes → Bytes
  module_text inner d full deeper i p =
      flat (push_mod d (name_in p))
      ++ inner (suc d) full (suc i) (parts 3 (entries p))
      ++ enum_texts rs (suc d) full (enums_in 4 p)
      ++ oneof_texts rs set messages t (suc d) full deeper i p
      ++ flat (end d)

  -- message i, whose part p is: map entries are left out, and what an extern path takes, with all inside it
  unfoldable pub message_text : Inner → ℕ → Bytes → Bool → ℕ → Bytes → Bytes
  message_text inner d scope deeper i p =
      pick (is_entry p || taken rs (scope ⊙ name_in p)) []
      (struct_text rs set messages t proto3 d scope (scope ⊙ name_in p) deeper i p
      ++ pick (module_for messages t deeper i p) (module_text inner d (scope ⊙ name_in p) deeper i p) [])

  -- the number of the message behind message i and those nested in it
  abbrev pub number_after : ℕ → Bytes → ℕ
  number_after i p = (message_row messages i).after

  -- messages in a scope, so many levels
  unfoldable pub message_texts : ℕ → Inner
  message_texts zero d scope i ps = []
  message_texts (suc left) d scope i ps = walked (message_text (message_texts left) d scope (not (eqb left 0))) number_after i ps

-- the text of the file whose part p is; its first message has the number i
unfoldable pub text_of_file : List Setting → List ℕ → List MessageRow → List FieldRow → ℕ → Bytes → Bytes
text_of_file rs set messages t i p =
    message_texts rs set messages t (is_proto3 (syntax_of (decode_file p).syntax)) 16 0 (take max_path (package_scope (decode_file p).package_name)) i (parts 4 (entries p))
    ++ enum_texts rs 0 (take max_path (package_scope (decode_file p).package_name)) (enums_in 5 p)
