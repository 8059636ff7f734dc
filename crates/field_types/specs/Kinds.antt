-- The types and sorts of code, by their number in descriptor.proto and their letter. Assumes nothing.
use Rattle.std.specs.Prelude.{ℕ, Option, Some, None}
use Rattle.field_types.specs.Types.{float, integer, boolean, text, group, message, bytes, enumerated}
use Rattle.field_types.specs.declared.kinds.Sort.{Sort}
use Rattle.field_types.specs.declared.kinds.Sort.TheVariants as sorts
use Rattle.field_types.specs.declared.kinds.«Type».{«Type» as Kind}
use Rattle.field_types.specs.declared.kinds.«Type».TheVariants as kinds

abbrev pub letter : Sort → ℕ
letter sorts.Float = float
letter sorts.Integer = integer
letter sorts.Boolean = boolean
letter sorts.Text = text
letter sorts.Group = group
letter sorts.Message = message
letter sorts.Bytes = bytes
letter sorts.Enumerated = enumerated

-- the letter of a sort, and 0 for none
abbrev pub letter_of : Option Sort → ℕ
letter_of None = 0
letter_of (Some sort) = letter sort

abbrev pub number : Kind → ℕ
number kinds.Double = 1
number kinds.Float = 2
number kinds.Int64 = 3
number kinds.Uint64 = 4
number kinds.Int32 = 5
number kinds.Fixed64 = 6
number kinds.Fixed32 = 7
number kinds.Bool = 8
number kinds.String = 9
number kinds.Group = 10
number kinds.Message = 11
number kinds.Bytes = 12
number kinds.Uint32 = 13
number kinds.Enum = 14
number kinds.Sfixed32 = 15
number kinds.Sfixed64 = 16
number kinds.Sint32 = 17
number kinds.Sint64 = 18
