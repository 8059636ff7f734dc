-- A table of fields as rows: the lists that the graph is defined over, and where the fields of a message lie. Assumes nothing.
use Rattle.std.specs.Prelude.{◌≡◌, Bool, false, ◌&&◌, List, ℕ, ◌+◌, ◌≤◌, ◌<◌, eqb, ltb, map, length, get_or}
use Rattle.base.specs.Choose.{choose}
use Rattle.message_graph.specs.Limit.{messages}
use Rattle.message_graph.specs.Fields.{Fields, fields, is_link}
use Rattle.message_graph.specs.declared.Field.{Field}
use Rattle.message_graph.specs.declared.Range.{Range}

-- what a table has past its end
abbrev pub no_field : Field
no_field = record { owner = 0; target = 0; kind = 0; label = 0; boxed = false }

abbrev pub row_at : List Field → ℕ → Field
row_at rows i = get_or rows i no_field

-- the tables of the rows
unfoldable pub fields_of : List Field → Fields
fields_of rows = fields (map (λ r. r.owner) rows) (map (λ r. r.target) rows) (map (λ r. r.kind) rows) (map (λ r. r.label) rows)

-- which fields have a boxed setting
abbrev pub settings_of : List Field → List Bool
settings_of rows = map (λ r. r.boxed) rows

-- the message with this number, as `message_at` reads it
unfoldable pub message_of : ℕ → ℕ
message_of n = choose (ltb n messages) n 0

-- is the field a link of the message x?
abbrev pub is_link_of : Field → ℕ → Bool
is_link_of row x = eqb (message_of row.owner) x && is_link row.kind row.label

abbrev pub no_range : Range
no_range = record { first = 0; end = 0 }

abbrev pub range_at : List Range → ℕ → Range
range_at ranges x = get_or ranges x no_range

-- a range and the field i, which stands behind it
unfoldable pub with_field : Range → ℕ → Range
with_field r i = record { first = choose (eqb r.end 0) i r.first; end = i + 1 }

-- of the fields below i, each lies in the range of its message
pub record RangedTo (rows : List Field) (ranges : List Range) (i : ℕ) : Type 0 where
  pub size : length ranges ≡ messages
  pub order : (x : ℕ) → (range_at ranges x).first ≤ (range_at ranges x).end
  pub within : (x : ℕ) → (range_at ranges x).end ≤ i
  pub low : (k : ℕ) → k < i → (range_at ranges (message_of (row_at rows k).owner)).first ≤ k
  pub high : (k : ℕ) → k < i → k < (range_at ranges (message_of (row_at rows k).owner)).end

-- a field's place in a table
pub record Place (rows : List Field) (field : Field) : Type 0 where
  pub at : ℕ
  pub below : at < length rows
  pub is : row_at rows at ≡ field

-- a part of a table that has all fields of the message x
pub record Part (rows part : List Field) (x : ℕ) : Type 0 where
  pub within : (k : ℕ) → k < length part → Place rows (row_at part k)
  pub all : (i : ℕ) → i < length rows → message_of (row_at rows i).owner ≡ x → Place part (row_at rows i)
