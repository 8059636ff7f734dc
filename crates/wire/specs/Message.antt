-- The records of a message, one after the other, up to its end or its first fault.
use Rattle.std.specs.Prelude.{ℕ, zero, suc, ◌+◌, ◌-◌, ◌/◌, ◌%◌, List, [], ◌∷◌, length, Option, Some, None, Result, Ok, Err, ◌==◌, if◌then◌else◌}
use Rattle.wire.specs.Encoding.{Field}
use Rattle.wire.specs.Value.{value_seen}
use Rattle.wire.specs.Readers.{◌>>=◌, varint, payload}
use Rattle.wire.specs.declared.records.record.Record.{Record}
use Rattle.wire.specs.declared.records.record.Fault.{Fault}

-- a record without where it lies in memory: where its key starts, its field, and where its value starts
pub record Entry : Type 0 where
  pub key : ℕ
  pub field : Field
  pub start : ℕ

abbrev pub record_seen : Record → Entry
record_seen r = record { key = r.key; field = record { number = r.number; value = value_seen r.value }; start = r.start }

abbrev pub seen : Result Record Fault → Result Entry Fault
seen (Ok r) = Ok (record_seen r)
seen (Err f) = Err f

-- the record at the front of some bytes, and those after it, where its key stands at a place: a key is the field number times 8, and the wire type
unfoldable pub record_at : ℕ → List ℕ → Option (Entry × List ℕ)
record_at key bytes =
    varint bytes >>= λ tag.
    if tag.0 / 8 == 0 then None
    else (payload (tag.0 % 8) tag.1 >>= λ v. Some (record { key = key; field = record { number = tag.0 / 8; value = v.0.0 }; start = key + (length bytes - length v.0.1) }, v.1))

-- a record and those of the rest, or a fault, which is the last
unfoldable pub with_others : Option (Entry × List ℕ) → ℕ → (List ℕ → List (Result Entry Fault)) → List (Result Entry Fault)
with_others None at others = Err (record { key = at }) ∷ []
with_others (Some x) at others = Ok x.0 ∷ others x.1

-- at most so many records, where the bytes stand at a place
unfoldable pub records_within : ℕ → ℕ → List ℕ → List (Result Entry Fault)
records_within n at [] = []
records_within zero at (b ∷ bs) = []
records_within (suc n) at (b ∷ bs) =
    with_others (record_at at (b ∷ bs)) at (λ rest. records_within n (at + (length (b ∷ bs) - length rest)) rest)

-- all: each takes a byte at least
unfoldable pub records_at : ℕ → List ℕ → List (Result Entry Fault)
records_at at bytes = records_within (length bytes) at bytes

-- the fields of those that can be read; a fault is the last
unfoldable pub fields_in : List (Result Entry Fault) → List Field
fields_in [] = []
fields_in (Ok e ∷ rs) = e.field ∷ fields_in rs
fields_in (Err f ∷ rs) = fields_in rs
