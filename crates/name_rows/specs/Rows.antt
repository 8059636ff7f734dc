-- A name in its module as a row of 384 bytes, and the rows of a text. Assumes nothing.
use Rattle.std.specs.Prelude.{ℕ, zero, suc, ◌+◌, ◌*◌, ◌/◌, ◌%◌, ◌^◌, List, [], ◌∷◌, ◌++◌, ltb, length, take, drop, replicate}
use Rattle.base.specs.Choose.{choose}
use Rattle.base.specs.Lists.{all_of}
use Rattle.writer.specs.Wrote.{over}
use Rattle.descriptor.specs.Descriptor.{Bytes}
use Rattle.name_check.specs.NameCheck.{Place}

abbrev pub key_length : ℕ
key_length = 380

abbrev pub row_length : ℕ
row_length = 384

-- the home, a byte 0 and the name
abbrev pub key_text : Bytes → Bytes → Bytes
key_text home name = home ++ (0 ∷ []) ++ name

-- cut at 380 bytes, or with zeros behind
unfoldable pub key : Bytes → Bytes → Bytes
key home name = over (replicate key_length 0) 0 (key_text home name)

-- a checksum of bytes, behind bytes whose checksum is h
unfoldable pub checksum : ℕ → Bytes → ℕ
checksum h [] = h
checksum h (x ∷ xs) = checksum ((h * 31 + x) % 2 ^ 32) xs

-- the four bytes of a number, the lowest first
unfoldable pub four_bytes : ℕ → Bytes
four_bytes h = h % 256 ∷ h / 256 % 256 ∷ h / 65536 % 256 ∷ h / 16777216 % 256 ∷ []

unfoldable pub with_checksum : Bytes → Bytes
with_checksum k = k ++ four_bytes (checksum 0 k)

-- the row of a name in a home
unfoldable pub row : Bytes → Bytes → Bytes
row home name = with_checksum (key home name)

abbrev pub place_row : Place → Bytes
place_row p = row p.home p.name

-- the rows of places, one behind the other
abbrev pub rows_of : List Place → Bytes
rows_of ps = all_of place_row ps

-- the first n rows of a text, as many as are whole
unfoldable pub rows_in : ℕ → Bytes → List Bytes
rows_in zero t = []
rows_in (suc n) t = choose (ltb (length t) row_length) [] (take row_length t ∷ rows_in n (drop row_length t))
