-- Can a message, or a field, derive Copy or Eq? A message's answer turns on its fields, and a field's answer on its type's message.
-- The depth bounds the links that are followed; `Depth` proves that as many as there are messages are enough. Assumes nothing.
use Rattle.std.specs.Prelude.{Bool, true, false, not, ◌&&◌, ◌||◌, List, ℕ, zero, suc, eqb, get_or}
use Rattle.message_graph.specs.Limit.{messages}
use Rattle.message_graph.specs.Fields.{Fields, size, owner_of, target_of, kind_of, label_of}
use Rattle.message_graph.specs.Leads.{leadsb}
use Rattle.message_graph.specs.declared.Field.{Field}
use Rattle.message_graph.specs.Rows.{message_of, fields_of, settings_of}
use Rattle.derives.specs.declared.Derive.{Derive}
use Rattle.derives.specs.declared.Derive.TheVariants.{Copy, Eq}
use Rattle.derives.specs.declared.Derives.{Derives}
use Rattle.derives.specs.Rules.{rule}

-- p at each place below n
unfoldable pub every : ℕ → (ℕ → Bool) → Bool
every zero p = true
every (suc n) p = every n p && p n

-- the answer of the field i, where `can` has the messages' answers; `set` has the boxed settings
unfoldable pub field_can : Derive → Fields → List Bool → (ℕ → Bool) → ℕ → Bool
field_can d f set can i =
    rule d (kind_of f i) (label_of f i) (leadsb f (target_of f i) (owner_of f i)) (get_or set i false) (can (target_of f i))

-- the field i can, or is of another message than x
unfoldable pub entry_can : Derive → Fields → List Bool → (ℕ → Bool) → ℕ → ℕ → Bool
entry_can d f set can x i = not (eqb (owner_of f i) x) || field_can d f set can i

-- the answer of the message x: each of its fields can, those of oneofs too
unfoldable pub message_can : Derive → Fields → List Bool → ℕ → ℕ → Bool
message_can d f set zero x = false
message_can d f set (suc depth) x = every (size f) (entry_can d f set (message_can d f set depth) x)

unfoldable pub can_message_derive : Derive → Fields → List Bool → ℕ → Bool
can_message_derive d f set x = message_can d f set messages x

unfoldable pub can_field_derive : Derive → Fields → List Bool → ℕ → Bool
can_field_derive d f set i = field_can d f set (can_message_derive d f set) i

-- the answer of the message x, over rows
abbrev pub answer_of : Derive → List Field → ℕ → Bool
answer_of d rows = can_message_derive d (fields_of rows) (settings_of rows)

-- the answer of a row, as `can_field_derive` gives it at the row's place
abbrev pub row_can : Derive → List Field → Field → Bool
row_can d rows r = rule d r.kind r.label (leadsb (fields_of rows) (message_of r.target) (message_of r.owner)) r.boxed (answer_of d rows (message_of r.target))

-- the messages' answers for a trait
abbrev pub derived : Derives → Derive → List Bool
derived can Copy = can.copy
derived can Eq = can.eq
