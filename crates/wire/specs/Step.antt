-- What stands at a position of a message: nothing more, a fault, or a record, which is a key and its payload.
-- Every fault is placed at the record's key.
use Rattle.std.specs.Prelude.{ℕ, ◌+◌, ◌-◌, ◌/◌, ◌%◌, List, length, leb, eqb}
use Rattle.base.specs.Choose.{choose}
use Rattle.wire.specs.Varint.{Varint, varint, on_varint}

-- a record: where its key starts, its field number, its wire type (0, 1, 2 or 5), its value (of wire type 0) or its payload's length
-- (of wire type 2; otherwise 0), where its payload starts, and the position after it
pub record Record : Type 0 where
  pub key : ℕ
  pub number : ℕ
  pub wiretype : ℕ
  pub value : ℕ
  pub start : ℕ
  pub next : ℕ

-- nothing more, a fault in the record whose key starts there, or a record
pub data Step : Type 0 where
  End : Step
  Fault : ℕ → Step
  Found : Record → Step

-- a payload of len bytes from start on, in n bytes
abbrev pub sized : ℕ → ℕ → ℕ → ℕ → ℕ → ℕ → ℕ → Step
sized n key number wiretype value start len =
    choose (leb len (n - start)) (Found (record { key = key; number = number; wiretype = wiretype; value = value; start = start; next = start + len })) (Fault key)

-- wire type 0: the value
abbrev pub scalar : ℕ → ℕ → ℕ → ℕ → Varint → Step
scalar key number wiretype start w =
    on_varint w (Fault key) (λ value next. Found (record { key = key; number = number; wiretype = wiretype; value = value; start = start; next = next }))

-- wire type 2: the length, and so many bytes
abbrev pub delimited : ℕ → ℕ → ℕ → ℕ → Varint → Step
delimited n key number wiretype w = on_varint w (Fault key) (λ len start. sized n key number wiretype len start len)

unfoldable pub payload : List ℕ → ℕ → ℕ → ℕ → ℕ → Step
payload s key number wiretype start =
    choose (eqb number 0) (Fault key)
    (choose (eqb wiretype 0) (scalar key number wiretype start (varint s start))
    (choose (eqb wiretype 1) (sized (length s) key number wiretype 0 start 8)
    (choose (eqb wiretype 2) (delimited (length s) key number wiretype (varint s start))
    (choose (eqb wiretype 5) (sized (length s) key number wiretype 0 start 4) (Fault key)))))

-- a key is the field number times 8, and the wire type
abbrev pub keyed : List ℕ → ℕ → Varint → Step
keyed s at w = on_varint w (Fault at) (λ key start. payload s at (key / 8) (key % 8) start)

unfoldable pub step_at : List ℕ → ℕ → Step
step_at s at = choose (leb (length s) at) End (keyed s at (varint s at))
