-- The fields of a set in declaration order, as tables with a row for each field, and which of them are links.
-- Messages are numbered in declaration order, from 0. Assumes nothing.
use Rattle.std.specs.Prelude.{◌≡◌, Bool, not, ◌&&◌, List, ℕ, ◌<◌, eqb, ltb, length, get_or}
use Rattle.std.proofs.Common.{arith, ltb-true, lt-ltb}
use Rattle.base.specs.Choose.{choose, choose_case}
use Rattle.message_graph.specs.Limit.{messages}

pub record Fields : Type 0 where
  -- the message that has the field
  pub owner : List ℕ
  -- the message that is the field's type, where its type is message or group
  pub target : List ℕ
  -- type and label, by descriptor.proto's numbers
  pub kind : List ℕ
  pub label : List ℕ

abbrev pub fields : List ℕ → List ℕ → List ℕ → List ℕ → Fields
fields owner target kind label = record { owner = owner; target = target; kind = kind; label = label }

abbrev pub size : Fields → ℕ
size f = length f.owner

-- the message that a table has at i; 0 past the table's end, and for a number that no message can have
unfoldable pub message_at : List ℕ → ℕ → ℕ
message_at s i = choose (ltb (get_or s i 0) messages) (get_or s i 0) 0

abbrev pub owner_of : Fields → ℕ → ℕ
owner_of f i = message_at f.owner i

abbrev pub target_of : Fields → ℕ → ℕ
target_of f i = message_at f.target i

abbrev pub kind_of : Fields → ℕ → ℕ
kind_of f i = get_or f.kind i 0

abbrev pub label_of : Fields → ℕ → ℕ
label_of f i = get_or f.label i 0

-- descriptor.proto's numbers
abbrev pub type_group : ℕ
type_group = 10

abbrev pub type_message : ℕ
type_message = 11

abbrev pub label_repeated : ℕ
label_repeated = 3

-- document 01's link: a field that has type message and isn't repeated
unfoldable pub is_link : ℕ → ℕ → Bool
is_link kind label = eqb kind type_message && not (eqb label label_repeated)

abbrev pub link : Fields → ℕ → Bool
link f i = is_link (kind_of f i) (label_of f i)

-- ---- laws

pub message_at_below : (s : List ℕ) (i : ℕ) → message_at s i < messages
unfolding message_at
message_at_below s i =
    choose_case (λ (x : ℕ). x < messages) (ltb (get_or s i 0) messages) (λ h. ltb-true (get_or s i 0) messages h) (λ h. omega arith)

-- a message's number is read as it stands
pub message_at_is : (s : List ℕ) (i : ℕ) → get_or s i 0 < messages → message_at s i ≡ get_or s i 0
unfolding message_at choose
message_at_is s i h = rw (lt-ltb (get_or s i 0) messages h)
