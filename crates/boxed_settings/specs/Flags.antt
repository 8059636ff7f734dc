-- Which fields of a set have a boxed setting at `.M.f`, in declaration order: 1 for each that has, 0 for each other. Assumes nothing.
use Rattle.std.specs.Prelude.{ℕ, zero, suc, Bool, List, [], ◌∷◌, ◌++◌, take}
use Rattle.base.specs.Choose.{choose}
use Rattle.descriptor.specs.Descriptor.{Bytes}
use Rattle.descriptor.specs.Decode.{entries, parts, decode_oneof, decode_file}
use Rattle.options.specs.Settings.{Setting}
use Rattle.name_rules.specs.Accessors.{text}
use Rattle.name_rules.specs.FullNames.{package_scope}
use Rattle.context.specs.Context.{has}
use Rattle.walks.specs.Walked.{walked}
use Rattle.joined.specs.Joined.{max_path, ◌⊙◌}

-- the name of a message or field, given as its bytes
abbrev pub name_in : Bytes → Bytes
name_in p = text (decode_oneof p)

unfoldable pub flag : Bool → Bytes
flag on = choose on 1 0 ∷ []

-- a field of the message with the full name
unfoldable pub field_flag : List Setting → Bytes → ℕ → Bytes → Bytes
field_flag rs full x p = flag (has rs 4 (full ⊙ name_in p))

abbrev pub stay : ℕ → Bytes → ℕ
stay x p = x

unfoldable pub field_flags : List Setting → Bytes → Bytes → Bytes
field_flags rs full p = walked (field_flag rs full) stay 0 (parts 2 (entries p))

-- a message, its fields and then those of the messages nested in it
abbrev pub message_flags : (Bytes → List Bytes → Bytes) → List Setting → Bytes → ℕ → Bytes → Bytes
message_flags inner rs scope x p = field_flags rs (scope ⊙ name_in p) p ++ inner (scope ⊙ name_in p) (parts 3 (entries p))

-- messages in a scope, so many levels
unfoldable pub messages_flags : ℕ → List Setting → Bytes → List Bytes → Bytes
messages_flags zero rs scope ps = []
messages_flags (suc k) rs scope ps = walked (message_flags (messages_flags k rs) rs scope) stay 0 ps

-- a file's messages; its scope is cut like a path
unfoldable pub file_flags : List Setting → ℕ → Bytes → Bytes
file_flags rs x p = messages_flags 16 rs (take max_path (package_scope (decode_file p).package_name)) (parts 4 (entries p))

unfoldable pub set_flags : List Setting → Bytes → Bytes
set_flags rs set = walked (file_flags rs) stay 0 (parts 1 (entries set))
