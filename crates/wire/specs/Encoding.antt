-- The Protocol Buffers encoding, as its document states it: which bytes encode which fields. Nothing here reads, and there are no positions.
-- A field is a number and a value. Within 64 bits: a varint has at most ten bytes and a value below 2 ^ 64, which also bounds keys and lengths.
-- What follows for bytes that encode nothing: a key, value or payload is cut where no split into the parts below is left before the end; a varint
-- of eleven bytes, or of ten with a value of 2 ^ 64 or more, is over 64 bits; a key whose number is 0, or whose wire type is 3, 4, 6 or 7, begins no field.
-- Wire types 3 and 4, which the encoding's document has for the start and end of a group, are left out by document 01: it refuses them.
use Rattle.std.specs.Prelude.{ℕ, ◌+◌, ◌*◌, ◌^◌, ◌<◌, ◌≤◌, ◌≡◌, List, [], ◌∷◌, ◌++◌, length, get_or}

-- base 128: seven bits in each byte, the lowest first. The top bit, 128, is set in each byte but the last.
pub data Base128 : List ℕ → ℕ → Type 0 where
  last : {bs : List ℕ} {n : ℕ} → n < 128 → bs ≡ n ∷ [] → Base128 bs n
  more : {bs : List ℕ} {n : ℕ} (low high : ℕ) (rest : List ℕ) → low < 128 → Base128 rest high → bs ≡ (128 + low) ∷ rest → n ≡ low + 128 * high → Base128 bs n

-- a varint of 64 bits
pub record EncodesVarint (bs : List ℕ) (n : ℕ) : Type 0 where
  pub base128 : Base128 bs n
  pub at_most_ten : length bs ≤ 10
  pub in_64_bits : n < 2 ^ 64

-- the number that bytes are, little-endian
unfoldable pub little_endian : List ℕ → ℕ
little_endian [] = 0
little_endian (b ∷ bs) = b + 256 * little_endian bs

-- a value: a varint, 64 bits, a string of bytes (a text, an embedded message, a packed field), or 32 bits
pub data Value : Type 0 where
  varint_value : ℕ → Value
  i64_value : ℕ → Value
  len_value : List ℕ → Value
  i32_value : ℕ → Value

abbrev pub wire_type : Value → ℕ
wire_type (varint_value n) = 0
wire_type (i64_value n) = 1
wire_type (len_value bytes) = 2
wire_type (i32_value n) = 5

-- a string of bytes stands behind its length
pub record EncodesBytes (bs bytes : List ℕ) : Type 0 where
  pub size : List ℕ
  pub encodes_size : EncodesVarint size (length bytes)
  pub joined : bs ≡ size ++ bytes

abbrev pub EncodesValue : List ℕ → Value → Type 0
EncodesValue bs (varint_value n) = EncodesVarint bs n
EncodesValue bs (i64_value n) = (length bs ≡ 8) × (little_endian bs ≡ n)
EncodesValue bs (len_value bytes) = EncodesBytes bs bytes
EncodesValue bs (i32_value n) = (length bs ≡ 4) × (little_endian bs ≡ n)

pub record Field : Type 0 where
  pub number : ℕ
  pub value : Value

-- a record: the key, which is the field number times 8 and the wire type, and the payload behind it
pub record EncodesField (bs : List ℕ) (f : Field) : Type 0 where
  pub key : List ℕ
  pub payload : List ℕ
  pub joined : bs ≡ key ++ payload
  pub number_from_one : 1 ≤ f.number
  pub encodes_key : EncodesVarint key (f.number * 8 + wire_type f.value)
  pub encodes_payload : EncodesValue payload f.value

-- a message: records, one behind the other
pub data Encodes : List ℕ → List Field → Type 0 where
  none : {bs : List ℕ} → bs ≡ [] → Encodes bs []
  more : {bs : List ℕ} {f : Field} {fs : List Field} (first rest : List ℕ) → EncodesField first f → Encodes rest fs → bs ≡ first ++ rest → Encodes bs (f ∷ fs)

-- the elements of a slice of bytes
abbrev pub Bytes : List ℕ → Type 0
Bytes s = (k : ℕ) → get_or s k 0 < 256
