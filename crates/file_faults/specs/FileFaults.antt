-- Refusals 8 and 9 of a file as they are found: by the tables, with paths cut where the buffers end. Assumes nothing.
use Rattle.std.specs.Prelude.{ℕ, zero, suc, Bool, false, ◌||◌, ◌&&◌, not, List, [], ◌∷◌, eqb, take}
use Rattle.base.specs.Choose.{choose}
use Rattle.base.specs.Lists.{any}
use Rattle.field_types.specs.Types.{sort_of, bytes}
use Rattle.descriptor.specs.Descriptor.{Bytes}
use Rattle.descriptor.specs.Decode.{entries, parts, decode_enum, decode_message, decode_file}
use Rattle.options.specs.Settings.{Setting}
use Rattle.extern_paths.specs.ExternPaths.{taken}
use Rattle.name_rules.specs.Accessors.{type}
use Rattle.name_rules.specs.FullNames.{package_scope}
use Rattle.joined.specs.Joined.{max_path, ◌⊙◌}
use Rattle.text_tables.specs.Rows.{message_row, is_plain}
use Rattle.text_tables.specs.declared.MessageRow.{MessageRow}
use Rattle.text_tables.specs.declared.FieldRow.{FieldRow}
use Rattle.members.specs.Members.{name_in, field_at, map_entry_at, members}
use Rattle.enum_text.specs.Overlap.{enum_meets}
use Rattle.code_generator.specs.Refusals.{is_given, given_fails}
use Rattle.file_faults.specs.declared.Faults.{Faults}

abbrev pub no_faults : Faults
no_faults = record { overlap = false; default = false }

-- those of one or the other
infixl 20 ◌or◌
abbrev pub ◌or◌ : Faults → Faults → Faults
x or y = record { overlap = x.overlap || y.overlap; default = x.default || y.default }

-- does the bytes default of field k, which is to be written, not unescape? t: the table of fields
unfoldable pub default_fails_at : List ℕ → List FieldRow → ℕ → Bool
default_fails_at set t k =
    not (is_given (map_entry_at set t k)) && (eqb (sort_of (type (field_at set t k))) bytes && given_fails (field_at set t k).default_value)

-- do variants overlap in one of these enums?
abbrev pub enums_meet : List Setting → Bytes → List Bytes → Bool
enums_meet rs scope qs = any (λ (q : Bytes). enum_meets rs scope (decode_enum q)) qs

module _ (rs : List Setting) (set : List ℕ) (messages : List MessageRow) (t : List FieldRow) where
  abbrev pub Inner : Type 0
  Inner = Bytes → ℕ → List Bytes → Faults

  -- message i alone, whose part p is
  unfoldable pub own_faults : Bytes → ℕ → Bytes → Faults
  own_faults full i p = record { overlap = enums_meet rs full (parts 4 (entries p)); default = any (default_fails_at set t) (members is_plain messages t i p) }

  -- with those nested in it: what is not written has none
  unfoldable pub message_faults : Inner → Bytes → ℕ → Bytes → Faults
  message_faults inner scope i p =
      choose ((decode_message p).map_entry || taken rs (scope ⊙ name_in p)) no_faults
      (own_faults (scope ⊙ name_in p) i p or inner (scope ⊙ name_in p) (suc i) (parts 3 (entries p)))

  -- messages in a scope, the first with the number i
  unfoldable pub faults_of : Inner → Inner
  faults_of inner scope i [] = no_faults
  faults_of inner scope i (p ∷ ps) = message_faults inner scope i p or faults_of inner scope (message_row messages i).after ps

  -- so many levels
  unfoldable pub messages_faults : ℕ → Inner
  messages_faults zero scope i ps = no_faults
  messages_faults (suc left) scope i ps = faults_of (messages_faults left) scope i ps

-- of the file whose part p is; its first message has the number i
unfoldable pub faults_of_file : List Setting → List ℕ → List MessageRow → List FieldRow → ℕ → Bytes → Faults
faults_of_file rs set messages t i p =
    messages_faults rs set messages t 16 (take max_path (package_scope (decode_file p).package_name)) i (parts 4 (entries p))
    or record { overlap = enums_meet rs (take max_path (package_scope (decode_file p).package_name)) (parts 5 (entries p)); default = false }
