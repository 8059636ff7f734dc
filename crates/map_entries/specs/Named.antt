-- Which fields name a message, by one pass over the fields of a set. Assumes nothing.
use Rattle.std.specs.Prelude.{ℕ, zero, suc, ◌+◌, ◌-◌, Bool, true, false, ◌&&◌, List, [], ◌∷◌, ◌++◌, length, get_or, set, replicate, eqb, ltb}
use Rattle.std.proofs.Math.Option.{Option, some, none}
use Rattle.base.specs.Choose.{choose}
use Rattle.base.specs.Lists.{all_of}
use Rattle.wire.specs.Records.{part}
use Rattle.descriptor.specs.Descriptor.{Bytes, FieldDescriptor}
use Rattle.descriptor.specs.Decode.{entries, parts, decode_field, decode_message}
use Rattle.name_rules.specs.Accessors.{is_repeated, is_message}
use Rattle.declarations.specs.Rows.{row_at, kind_number}
use Rattle.declarations.specs.declared.Declaration.{Declaration as Row}
use Rattle.declarations.specs.Listed.{Listed, listed}
use Rattle.type_names.specs.LookUp.{named}

-- a field that has a type name: that, the number of its message, and is it a repeated message field?
pub record Use : Type 0 where
  pub name : Bytes
  pub number : ℕ
  pub mapping : Bool

abbrev pub use_of : ℕ → Bool → Option Bytes → List Use
use_of number mapping none = []
use_of number mapping (some name) = record { name = name; number = number; mapping = mapping } ∷ []

abbrev pub is_mapping : FieldDescriptor → Bool
is_mapping f = is_repeated f && is_message f

unfoldable pub field_use : ℕ → FieldDescriptor → List Use
field_use number f = use_of number (is_mapping f) f.type_name

abbrev pub part_use : ℕ → Bytes → List Use
part_use number s = field_use number (decode_field s)

-- those of the message in row i of a table, where it is one
unfoldable pub row_uses : Bytes → List Row → ℕ → List Use
row_uses bytes t i =
    choose (ltb (kind_number (row_at t i).kind) 2) []
    (all_of (part_use (kind_number (row_at t i).kind - 2)) (parts 2 (entries (part bytes (row_at t i).start ((row_at t i).end - (row_at t i).start)))))

-- those of messages with their numbers
unfoldable pub uses : List Listed → List Use
uses [] = []
uses (l ∷ ls) = all_of (field_use l.number) l.fields ++ uses ls

-- who names a message: nobody (0), repeated message fields of the message with the number n alone (n + 2), or others (1). What one field says, and
-- what two say together
unfoldable pub vote : ℕ → Bool → ℕ
vote number mapping = choose mapping (number + 2) 1

unfoldable pub joined : ℕ → ℕ → ℕ
joined w v = choose (eqb w 0) v (choose (eqb w v) w 1)

unfoldable pub noted : ℕ → ℕ → List ℕ → List ℕ
noted i v who = set who i (joined (get_or who i 0) v)

-- what one field says of each of the first n rows with this full name
unfoldable pub noted_rows : Bytes → List Row → Bytes → ℕ → ℕ → List ℕ → List ℕ
noted_rows bytes t name v zero who = who
noted_rows bytes t name v (suc n) who = choose (named bytes t name n) (noted n v (noted_rows bytes t name v n who)) (noted_rows bytes t name v n who)

-- what all fields say of each of the first n rows
unfoldable pub tally : Bytes → List Row → ℕ → List Use → List ℕ → List ℕ
tally bytes t n [] who = who
tally bytes t n (u ∷ us) who = tally bytes t n us (noted_rows bytes t u.name (vote u.number u.mapping) n who)

-- a table of so many rows, and who names each
unfoldable pub naming : Bytes → List Row → ℕ → ℕ → List ℕ
naming bytes t n size = tally bytes t n (uses (listed bytes t n)) (replicate size 0)

-- ---- one row

-- what the fields say of a row that passes the test, those before having said w
unfoldable pub said : (Use → Bool) → List Use → ℕ → ℕ
said p [] w = w
said p (u ∷ us) w = said p us (choose (p u) (joined w (vote u.number u.mapping)) w)

-- a repeated message field of the message with the number
abbrev pub mapping_in : ℕ → (Use → Bool) → Use → Bool
mapping_in number p u = p u && (u.mapping && eqb u.number number)

-- the message that row i stands in has the kind; below 2, at top level, it has none
unfoldable pub parent_kind : List Row → ℕ → ℕ
parent_kind t i = choose (eqb (row_at t i).up 0) 0 (choose (ltb i (row_at t i).up) 0 (kind_number (row_at t ((row_at t i).up - 1)).kind))

unfoldable pub entry_row_named : List Row → List ℕ → ℕ → Bool
entry_row_named t who i = choose (ltb (parent_kind t i) 2) false (eqb (get_or who i 0) (parent_kind t i))

-- is row i a map entry?
unfoldable pub is_entry_row : Bytes → List Row → ℕ → Bool
is_entry_row bytes t i = choose (ltb (kind_number (row_at t i).kind) 2) false (decode_message (part bytes (row_at t i).start ((row_at t i).end - (row_at t i).start))).map_entry

unfoldable pub row_named : Bytes → List Row → List ℕ → ℕ → Bool
row_named bytes t who i = choose (is_entry_row bytes t i) (entry_row_named t who i) true

-- the file of the first of n rows, from row i on, that is a map entry and isn't named as it must be; the count of files where there is none
unfoldable pub unnamed_from : Bytes → List Row → List ℕ → ℕ → ℕ → ℕ
unnamed_from bytes t who zero i = length (parts 1 (entries bytes))
unnamed_from bytes t who (suc n) i = choose (row_named bytes t who i) (unnamed_from bytes t who n (i + 1)) (row_at t i).file

unfoldable pub first_unnamed : Bytes → List Row → ℕ → List ℕ → ℕ
first_unnamed bytes t n who = unnamed_from bytes t who n 0
