-- Refusal 4: the lowest limit that a set passes, of those that document 01 numbers 1 to 10. Each limit passes, one more is refused.
-- Lengths are of raw bytes, also of names that are no identifiers. A missing name counts 0.
use Rattle.std.specs.Prelude.{ℕ, ◌+◌, Bool, false, ◌||◌, List, [], ◌∷◌, ◌++◌, length, ltb, eqb}
use Rattle.std.proofs.Math.Option.{Option, none, some}
use Rattle.base.specs.Choose.{choose}
use Rattle.base.specs.Lists.{any, all_of}
use Rattle.descriptor.specs.Descriptor.{Forest, done, node, preorder, Bytes, FieldDescriptor, EnumDescriptor, MessageDescriptor, FileDescriptor}
use Rattle.descriptor.specs.Decode.{entries, parts, decode_set, too_deep_file}

abbrev pub max_set : ℕ
max_set = 32768

abbrev pub max_files : ℕ
max_files = 32

abbrev pub max_messages : ℕ
max_messages = 256

abbrev pub max_fields : ℕ
max_fields = 2048

abbrev pub max_enums : ℕ
max_enums = 256

abbrev pub max_values : ℕ
max_values = 256

abbrev pub max_name : ℕ
max_name = 64

abbrev pub max_full_name : ℕ
max_full_name = 255

abbrev pub max_default : ℕ
max_default = 255

-- over the whole set: files in turn, each message followed by those nested in it
unfoldable pub messages_in : List FileDescriptor → List MessageDescriptor
messages_in = all_of (λ f. preorder f.messages)

unfoldable pub fields_in : List FileDescriptor → List FieldDescriptor
fields_in fs = all_of (λ m. m.fields) (messages_in fs)

unfoldable pub enums_in : List FileDescriptor → List EnumDescriptor
enums_in fs = all_of (λ f. f.enums) fs ++ all_of (λ m. m.enums) (messages_in fs)

abbrev pub length_of : Option Bytes → ℕ
length_of none = 0
length_of (some b) = length b

abbrev pub long_name : Option Bytes → Bool
long_name n = ltb max_name (length_of n)

-- the segments of a package: what stands between dots
abbrev pub on_first : ℕ → List Bytes → List Bytes
on_first c [] = (c ∷ []) ∷ []
on_first c (s ∷ ss) = (c ∷ s) ∷ ss

unfoldable pub segments : Bytes → List Bytes
segments [] = [] ∷ []
segments (c ∷ cs) = choose (eqb c 46) ([] ∷ segments cs) (on_first c (segments cs))

abbrev pub long_package : Option Bytes → Bool
long_package none = false
long_package (some p) = any (λ s. ltb max_name (length s)) (segments p)

-- limit 8: the name of a message, field, oneof, enum or value, or a segment of a package
abbrev pub long_in_enum : EnumDescriptor → Bool
long_in_enum e = long_name e.name || any (λ v. long_name v.name) e.values

abbrev pub long_in_message : MessageDescriptor → Bool
long_in_message m = long_name m.name || any (λ f. long_name f.name) m.fields || any long_name m.oneofs

unfoldable pub passes_8 : List FileDescriptor → Bool
passes_8 fs = any (λ f. long_package f.package_name) fs || any long_in_message (messages_in fs) || any long_in_enum (enums_in fs)

-- limit 9: the full name of a message or enum. A package adds its dot and bytes; an empty one adds nothing
abbrev pub package_length : Option Bytes → ℕ
package_length none = 0
package_length (some []) = 0
package_length (some (c ∷ cs)) = 1 + length (c ∷ cs)

abbrev pub full_length : ℕ → Option Bytes → ℕ
full_length around name = around + 1 + length_of name

-- the full names' lengths in what has a full name so long around it
unfoldable pub enum_lengths : ℕ → List EnumDescriptor → List ℕ
enum_lengths around [] = []
enum_lengths around (e ∷ es) = full_length around e.name ∷ enum_lengths around es

unfoldable pub full_lengths : ℕ → Forest MessageDescriptor → List ℕ
full_lengths around done = []
full_lengths around (node m nested following) =
    (full_length around m.name ∷ enum_lengths (full_length around m.name) m.enums)
    ++ full_lengths (full_length around m.name) nested ++ full_lengths around following

abbrev pub file_lengths : FileDescriptor → List ℕ
file_lengths f = enum_lengths (package_length f.package_name) f.enums ++ full_lengths (package_length f.package_name) f.messages

unfoldable pub passes_9 : List FileDescriptor → Bool
passes_9 fs = any (λ n. ltb max_full_name n) (all_of file_lengths fs)

-- limit 10: a default, an enum field's too
unfoldable pub passes_10 : List FileDescriptor → Bool
passes_10 fs = any (λ f. ltb max_default (length_of f.default_value)) (fields_in fs)

-- the lowest limit passed by a set with these files; 0 where none is. Limit 7: a message nested deeper than 16, the top level being 1
unfoldable pub limit_of_files : List Bytes → List FileDescriptor → ℕ
limit_of_files bytes fs =
    choose (ltb max_files (length fs)) 2
    (choose (ltb max_messages (length (messages_in fs))) 3
    (choose (ltb max_fields (length (fields_in fs))) 4
    (choose (ltb max_enums (length (enums_in fs))) 5
    (choose (any (λ e. ltb max_values (length e.values)) (enums_in fs)) 6
    (choose (any too_deep_file bytes) 7 (choose (passes_8 fs) 8 (choose (passes_9 fs) 9 (choose (passes_10 fs) 10 0))))))))

-- limit 1 comes before refusal 3, the others after it
abbrev pub passes_1 : Bytes → Bool
passes_1 s = ltb max_set (length s)

unfoldable pub limit_passed : Bytes → ℕ
limit_passed s = choose (passes_1 s) 1 (limit_of_files (parts 1 (entries s)) (decode_set s))
