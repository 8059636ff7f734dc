-- What counts for the limits 3 to 10, by the bytes alone: each declaration of a set counts 1 or 0, and a set has the sum.
use Rattle.std.specs.Prelude.{ℕ, zero, suc, ◌+◌, Bool, true, false, List, [], ◌∷◌, length, ltb, eqb, Option, Some, None}
use Rattle.std.proofs.Math.Option.{Option as Possibly, none, some}
use Rattle.base.specs.Choose.{choose}
use Rattle.base.specs.Lists.{any}
use Rattle.wire.specs.Encoding.{Field}
use Rattle.descriptor.specs.Descriptor.{Bytes}
use Rattle.descriptor.specs.Decode.{entries, last, text, bytes_in, parts}
use Rattle.descriptor.specs.Limits.{max_messages, max_fields, max_enums, max_values, max_name, max_full_name, max_default, segments}
use Rattle.limits.specs.Sums.{sum, bit}
use Rattle.limits.specs.declared.limit.Limit.{Limit}
use Rattle.limits.specs.declared.limit.Limit.TheVariants as limits
use Rattle.limits.specs.declared.sort.Sort.{Sort}
use Rattle.limits.specs.declared.sort.Sort.TheVariants as sorts

-- Levels left in a message's bytes: 19 in the set's, 18 in a file's, 17 in those of a message at the top, 2 at nesting 16.
unfoldable pub message_below : ℕ → Sort
message_below left = choose (ltb left 3) sorts.DeepMessage sorts.Message

-- the sort of what a message of a sort holds with a field number; none where it is no declaration
unfoldable pub sort_below : Sort → ℕ → ℕ → Option Sort
sort_below sorts.Set left number = choose (eqb number 1) (Some sorts.File) None
sort_below sorts.File left number = choose (eqb number 4) (Some (message_below left)) (choose (eqb number 5) (Some sorts.Enum) None)
sort_below sorts.Message left number =
    choose (eqb number 2) (Some sorts.Field)
    (choose (eqb number 3) (Some (message_below left)) (choose (eqb number 4) (Some sorts.Enum) (choose (eqb number 8) (Some sorts.Oneof) None)))
sort_below sorts.Enum left number = choose (eqb number 2) (Some sorts.Value) None
sort_below _ left number = None

-- a string by its field number; one that is missing has no bytes
abbrev pub bytes_or_none : Possibly Bytes → Bytes
bytes_or_none none = []
bytes_or_none (some b) = b

abbrev pub text_bytes : ℕ → Bytes → Bytes
text_bytes number s = bytes_or_none (text (last number (entries s)))

abbrev pub text_length : ℕ → Bytes → ℕ
text_length number s = length (text_bytes number s)

-- is a segment of a package too long?
unfoldable pub long_segment : Bytes → Bool
long_segment p = any (λ s. ltb max_name (length s)) (segments p)

-- limits 8 and 9 of a declaration
unfoldable pub long_name : Sort → Bytes → Bool
long_name sorts.File s = long_segment (text_bytes 2 s)
long_name sorts.DeepMessage s = false
long_name _ s = ltb max_name (text_length 1 s)

unfoldable pub long_full_name : Sort → ℕ → Bytes → Bool
long_full_name sorts.Message around s = ltb max_full_name (around + 1 + text_length 1 s)
long_full_name sorts.Enum around s = ltb max_full_name (around + 1 + text_length 1 s)
long_full_name _ around s = false

abbrev pub is_message : Sort → Bool
is_message sorts.Message = true
is_message _ = false

abbrev pub is_field : Sort → Bool
is_field sorts.Field = true
is_field _ = false

abbrev pub is_enum : Sort → Bool
is_enum sorts.Enum = true
is_enum _ = false

-- does a declaration of a sort count for a limit? Around it stands a full name of a length
unfoldable pub counts : Limit → Sort → ℕ → Bytes → Bool
counts limits.Messages sort around s = is_message sort
counts limits.Fields sort around s = is_field sort
counts limits.Enums sort around s = is_enum sort
counts limits.Values sorts.Enum around s = ltb max_values (length (parts 2 (entries s)))
counts limits.Values _ around s = false
counts limits.Nesting sorts.DeepMessage around s = true
counts limits.Nesting _ around s = false
counts limits.Names sort around s = long_name sort s
counts limits.FullNames sort around s = long_full_name sort around s
counts limits.Defaults sorts.Field around s = ltb max_default (text_length 7 s)
counts limits.Defaults _ around s = false

-- fields, oneofs, values and messages too deep hold no declaration
unfoldable pub holds_none : Sort → Bool
holds_none sorts.Set = false
holds_none sorts.File = false
holds_none sorts.Message = false
holds_none sorts.Enum = false
holds_none _ = true

-- the length of the full name around what a declaration holds
unfoldable pub around_below : Sort → ℕ → Bytes → ℕ
around_below sorts.File around s = choose (eqb (text_length 2 s) 0) 0 (text_length 2 s + 1)
around_below sorts.Message around s = around + 1 + text_length 1 s
around_below _ around s = 0

-- how what a declaration holds is counted: its sort, the length of the full name around, its bytes
abbrev pub Inner : Type 0
Inner = Sort → ℕ → Bytes → ℕ

unfoldable pub weight : Limit → Inner → Option Sort → ℕ → Bytes → ℕ
weight limit inner None around s = 0
weight limit inner (Some sort) around s = bit (counts limit sort around s) + inner sort (around_below sort around s) s

abbrev pub field_weight : Limit → Inner → ℕ → Sort → ℕ → Field → ℕ
field_weight limit inner left sort around f = weight limit inner (sort_below sort left f.number) around (bytes_in f.value)

-- the declarations that count for a limit, in the bytes of a message of a sort with levels left
unfoldable pub tally : Limit → ℕ → Inner
tally limit zero sort around s = 0
tally limit (suc k) sort around s = sum (field_weight limit (tally limit k) (suc k) sort around) (entries s)

-- how many may count for a limit; for those of one declaration none
unfoldable pub most : Limit → ℕ
most limits.Messages = max_messages
most limits.Fields = max_fields
most limits.Enums = max_enums
most _ = 0

unfoldable pub passes : Limit → Bytes → Bool
passes limit s = ltb (most limit) (tally limit 19 sorts.Set 0 s)

-- its number in document 01's list
unfoldable pub limit_number : Limit → ℕ
limit_number limits.Messages = 3
limit_number limits.Fields = 4
limit_number limits.Enums = 5
limit_number limits.Values = 6
limit_number limits.Nesting = 7
limit_number limits.Names = 8
limit_number limits.FullNames = 9
limit_number limits.Defaults = 10

-- the lowest first
abbrev pub all_limits : List Limit
all_limits = limits.Messages ∷ limits.Fields ∷ limits.Enums ∷ limits.Values ∷ limits.Nesting ∷ limits.Names ∷ limits.FullNames ∷ limits.Defaults ∷ []
