-- The fields of a message by their numbers in the table of fields: those of a oneof, and those of none. Assumes nothing.
use Rattle.std.specs.Prelude.{ℕ, zero, suc, ◌+◌, ◌-◌, Bool, true, false, ◌||◌, ◌&&◌, not, List, [], ◌∷◌, ◌++◌, map, length, take, None, Some}
use Rattle.std.specs.Prelude as std
use Rattle.std.proofs.Math.Option.{Option, none}
use Rattle.base.specs.Bytes.{same}
use Rattle.base.specs.Choose.{choose}
use Rattle.base.specs.Lists.{all, any, is_empty}
use Rattle.derives.specs.declared.Derive.{Derive}
use Rattle.derives.specs.declared.Derive.TheVariants.{Copy, Eq}
use Rattle.checksums.specs.Sums.{sum_of}
use Rattle.ident.specs.Ident.{to_upper_camel}
use Rattle.descriptor.specs.Descriptor.{Bytes, FieldDescriptor}
use Rattle.descriptor.specs.Decode.{entries, parts, decode_field, decode_oneof}
use Rattle.options.specs.Settings.{Setting}
use Rattle.name_rules.specs.Accessors.{text, is_repeated}
use Rattle.context.specs.Context.{has}
use Rattle.joined.specs.Joined.{max_path, ◌⊙◌}
use Rattle.text_tables.specs.Rows.{message_row, field_row, place_bytes, is_plain, is_in}
use Rattle.text_tables.specs.declared.MessageRow.{MessageRow}
use Rattle.text_tables.specs.declared.Place.{Place}
use Rattle.text_tables.specs.declared.FieldRow.{FieldRow}
use Rattle.members.specs.Seen.{MessageSeen, OneofSeen}
use Rattle.code_generator.specs.MapFields.{MapEntry, entry_of}

-- the name of a message, oneof or enum, given as its bytes
abbrev pub name_in : Bytes → Bytes
name_in p = text (decode_oneof p)

-- ---- field k of a set
abbrev pub field_at : List ℕ → List FieldRow → ℕ → FieldDescriptor
field_at set t k = decode_field (place_bytes set (field_row t k).place)

-- the map entry at a place
unfoldable pub entry_at : List ℕ → std.Option Place → Option MapEntry
entry_at set None = none
entry_at set (Some place) = entry_of (map decode_field (parts 2 (entries (place_bytes set place))))

-- the map entry that field k names
abbrev pub map_entry_at : List ℕ → List FieldRow → ℕ → Option MapEntry
map_entry_at set t k = entry_at set (field_row t k).entry

-- should_box, of a field and its row: `at` is the message's full name, or the oneof's
abbrev pub is_boxed : List Setting → FieldRow → FieldDescriptor → Bytes → Bool
is_boxed rs row f at = choose (is_repeated f) false (choose row.looped true (has rs 4 (at ⊙ text f.name)))

-- of field k
unfoldable pub boxed_at : List Setting → List ℕ → List FieldRow → ℕ → Bytes → Bool
boxed_at rs set t k at = is_boxed rs (field_row t k) (field_at set t k) at

-- ---- the fields of a message
-- of n fields from k on, the numbers of those whose rows pass a test: `is_plain` for those of no oneof, `is_in index` for those of a oneof
unfoldable pub numbers_where : (FieldRow → Bool) → List FieldRow → ℕ → ℕ → List ℕ
numbers_where test t zero k = []
numbers_where test t (suc n) k = choose (test (field_row t k)) (k ∷ numbers_where test t n (suc k)) (numbers_where test t n (suc k))

-- those of a oneof
abbrev pub oneof_members : List FieldRow → OneofSeen → List ℕ
oneof_members t o = numbers_where (is_in o.index) t (o.last - o.first) o.first

-- of the fields of message i, whose part p is
abbrev pub members : (FieldRow → Bool) → List MessageRow → List FieldRow → ℕ → Bytes → List ℕ
members test messages t i p = numbers_where test t (length (parts 2 (entries p))) (message_row messages i).first

-- is one of n fields from k on in a oneof?
unfoldable pub in_oneofs : List FieldRow → ℕ → ℕ → Bool
in_oneofs t zero k = false
in_oneofs t (suc n) k = not (is_plain (field_row t k)) || in_oneofs t n (suc k)

-- can_oneof_derive_copy and can_oneof_derive_eq, of a oneof's fields
abbrev pub all_copy : List FieldRow → List ℕ → Bool
all_copy t ks = all (λ (k : ℕ). (field_row t k).copy) ks

abbrev pub all_eq : List FieldRow → List ℕ → Bool
all_eq t ks = all (λ (k : ℕ). (field_row t k).eq) ks

-- may a field derive the trait?
unfoldable pub may_derive : Derive → FieldRow → Bool
may_derive Copy row = row.copy
may_derive Eq row = row.eq

-- field k?
abbrev pub can_derive : Derive → List FieldRow → ℕ → Bool
can_derive derive t k = may_derive derive (field_row t k)

-- ---- has_type_name_conflict, with names cut where the buffers end
unfoldable pub cut_camel : Bytes → Bytes
cut_camel name = take max_path (to_upper_camel name)

unfoldable pub meets_part : Bytes → Bytes → Bool
meets_part name q = same (cut_camel (name_in q)) (cut_camel name)

-- deeper: are nested messages read?
unfoldable pub conflict : Bool → Bytes → Bytes → Bool
conflict deeper p name =
    (deeper && any (meets_part name) (parts 3 (entries p))) || any (meets_part name) (parts 4 (entries p))

-- ---- the oneofs of a message that are left with fields
-- p: the message's part, whose fields are numbered from first on, below last. Of the oneofs whose parts are qs, the first with the index x
unfoldable pub oneofs_from : List FieldRow → ℕ → ℕ → Bool → Bytes → ℕ → List Bytes → List OneofSeen
oneofs_from t first last deeper p x [] = []
oneofs_from t first last deeper p x (q ∷ qs) =
    choose (is_empty (numbers_where (is_in x) t (last - first) first)) (oneofs_from t first last deeper p (x + 1) qs)
    (record { name = name_in q; conflict = conflict deeper p (name_in q); index = x; first = first; last = last } ∷ oneofs_from t first last deeper p (x + 1) qs)

unfoldable pub oneofs_of : List MessageRow → List FieldRow → MessageSeen → List OneofSeen
oneofs_of messages t m =
    oneofs_from t (message_row messages m.number).first ((message_row messages m.number).first + length (parts 2 (entries m.part))) m.nested m.part 0 (parts 8 (entries m.part))

-- ---- the checksums of the camel names that a oneof's name can meet
unfoldable pub part_sums : ℕ → Bytes → List ℕ
part_sums number p = map (λ (q : Bytes). sum_of (cut_camel (name_in q))) (parts number (entries p))

unfoldable pub camel_sums : Bool → Bytes → List ℕ
camel_sums deeper p = choose deeper (part_sums 3 p) [] ++ part_sums 4 p
