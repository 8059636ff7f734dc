-- The rows of a set's declarations in a table, in declaration order: files in turn, each message followed by its own enums and the messages nested
-- in it, a file's own enums last; before them a row for its package, where it has one. A table that is full is left as it is.
use Rattle.std.specs.Prelude.{ℕ, zero, suc, ◌+◌, ◌-◌, ◌≤◌, ◌≡◌, Bool, false, List, [], ◌∷◌, length, set, get_or, eqb, ltb, Option, None}
use Rattle.std.specs.Option.{is_some, unwrap_or}
use Rattle.std.specs.List.{last_or}
use Rattle.base.specs.Choose.{choose}
use Rattle.descriptor.specs.Places.{end_in}
use Rattle.wire.specs.Records.{records, part}
use Rattle.wire.specs.Step.{Record, Step, End, Fault, Found}
use Rattle.declarations.specs.declared.places.Place.{Place}
use Rattle.declarations.specs.declared.Kind.{Kind}
use Rattle.declarations.specs.declared.Kind.TheVariants.{Package, Enum, Message}
use Rattle.declarations.specs.declared.Declaration.{Declaration as Row}
use Rattle.declarations.specs.declared.counts.Count.{Count}

-- the bytes at a place of the set
abbrev pub bytes_at : List ℕ → Place → List ℕ
bytes_at bytes p = part bytes p.start (p.end - p.start)

-- where one lies in the set, whose message's bytes start at base
abbrev pub place : ℕ → Record → Place
place base f = record { start = base + f.start; end = base + end_in f }

-- the places of the embedded messages with the field number, among the records of bytes that start at base
unfoldable pub places_of : ℕ → ℕ → List Step → List Place
places_of number base [] = []
places_of number base (End ∷ rs) = []
places_of number base (Fault key ∷ rs) = []
places_of number base (Found f ∷ rs) = choose (eqb f.number number) (place base f ∷ places_of number base rs) (places_of number base rs)

-- those of the message at a place
unfoldable pub places : List ℕ → ℕ → Place → List Place
places bytes number p = places_of number p.start (records (bytes_at bytes p) 0)

-- what is past the end of a table
abbrev pub no_row : Row
no_row = record { kind = Package; name = 0; len = 0; up = 0; file = 0; start = 0; end = 0 }

-- a row of the table: none past the end, and past row 65,535
unfoldable pub row_at : List Row → ℕ → Row
row_at t i = choose (ltb 65535 i) no_row (get_or t i no_row)

-- the number of a kind: 0 for a package, 1 for an enum, 2 and its number in declaration order for a message
unfoldable pub kind_number : Kind → ℕ
kind_number Package = 0
kind_number Enum = 1
kind_number (Message n) = n + 2

unfoldable pub has_room : List Row → ℕ → Bool
has_room t i = choose (ltb 65535 i) false (ltb i (length t))

-- a message or enum at a place, in the file with the index, in what has the row before up
-- where the last string with the field number of the message at a place lies
unfoldable pub last_place : List ℕ → ℕ → Place → Option Place
last_place bytes number p = last_or None (places bytes number p)

-- that place, or one without bytes
abbrev pub lies : Option Place → Place
lies q = unwrap_or q (record { start = 0; end = 0 })

unfoldable pub declaration_row : List ℕ → ℕ → ℕ → Kind → Place → Row
declaration_row bytes file up kind p =
    record {
      kind = kind;
      name = (lies (last_place bytes 1 p)).start;
      len = (lies (last_place bytes 1 p)).end - (lies (last_place bytes 1 p)).start;
      up = up;
      file = file;
      start = p.start;
      end = p.end;
    }

-- a file's package
abbrev pub package_of : List ℕ → Place → Option Place
package_of bytes p = last_place bytes 2 p

unfoldable pub package_row : List ℕ → ℕ → Place → Row
package_row bytes file p =
    record { kind = Package; name = (lies (package_of bytes p)).start; len = (lies (package_of bytes p)).end - (lies (package_of bytes p)).start; up = 0; file = file; start = p.start; end = p.end }

-- a table, how many rows it has, and how many of them are messages
pub record State : Type 0 where
  pub table : List Row
  pub rows : ℕ
  pub messages : ℕ

abbrev pub state : List Row → Count → State
state t c = record { table = t; rows = c.rows; messages = c.messages }

abbrev pub room : State → Bool
room x = has_room x.table x.rows

-- one row more
abbrev pub push : Row → State → State
push r x = record { table = set x.table x.rows r; rows = x.rows + 1; messages = x.messages }

abbrev pub push_message : Row → State → State
push_message r x = record { table = set x.table x.rows r; rows = x.rows + 1; messages = x.messages + 1 }

unfoldable pub declare_enums : List ℕ → ℕ → ℕ → List Place → State → State
declare_enums bytes file up [] x = x
declare_enums bytes file up (p ∷ ps) x = choose (room x) (declare_enums bytes file up ps (push (declaration_row bytes file up Enum p) x)) x

-- messages with what is nested in them, so many levels
unfoldable pub declare_messages : List ℕ → ℕ → ℕ → ℕ → List Place → State → State
declare_messages bytes file zero up ps x = x
declare_messages bytes file (suc n) up [] x = x
declare_messages bytes file (suc n) up (p ∷ ps) x =
    choose (room x)
    (declare_messages bytes file (suc n) up ps
    (declare_messages bytes file n (x.rows + 1) (places bytes 3 p)
    (declare_enums bytes file (x.rows + 1) (places bytes 4 p) (push_message (declaration_row bytes file up (Message x.messages) p) x))))
    x

unfoldable pub declare_members : List ℕ → ℕ → ℕ → Place → State → State
declare_members bytes file up p x = declare_enums bytes file up (places bytes 5 p) (declare_messages bytes file 16 up (places bytes 4 p) x)

unfoldable pub declare_file : List ℕ → ℕ → Place → State → State
declare_file bytes file p x =
    choose (is_some (package_of bytes p))
    (choose (room x) (declare_members bytes file (x.rows + 1) p (push (package_row bytes file p) x)) x)
    (declare_members bytes file 0 p x)

unfoldable pub declare_files : List ℕ → ℕ → List Place → State → State
declare_files bytes file [] x = x
declare_files bytes file (p ∷ ps) x = declare_files bytes (file + 1) ps (declare_file bytes file p x)

abbrev pub no_rows : List Row → State
no_rows t = record { table = t; rows = 0; messages = 0 }

-- the table of a set's declarations
unfoldable pub declared : List ℕ → List Row → State
declared bytes t = declare_files bytes 0 (places bytes 1 (record { start = 0; end = length bytes })) (no_rows t)

-- a table and a count are this state
pub record Became (x : State) (t : List Row) (c : Count) : Type 0 where
  pub is : state t c ≡ x
  pub fewer : c.messages ≤ c.rows
