-- Limits 8 and 9 keep every path within its buffer. Assumes nothing.
use Rattle.std.specs.Prelude.{◌≡◌, Bool, false, ◌||◌, ℕ, ◌+◌, ◌≤◌, ltb, length}
use mathlib.Core.List.{List, [], ◌∷◌, ◌++◌}
use Rattle.std.proofs.Common.{arith, ltb-false}
use Rattle.base.specs.Lists.{any, all_of, any_left, any_right}
use Rattle.base.specs.Tests.{or_false_left, or_false_right}
use Rattle.limit_facts.specs.Within.{within}
use Rattle.name_rules.proofs.LengthLaws.{path_length, scope_length}
use Rattle.descriptor.specs.Descriptor.{Bytes, Forest, done, node, preorder, FieldDescriptor, MessageDescriptor, FileDescriptor}
use Rattle.descriptor.specs.Decode.{decode_set}
use Rattle.descriptor.specs.Limits.{max_set, max_messages, max_fields, max_name, max_full_name, messages_in, fields_in, length_of, enums_in, long_name, long_package, long_in_message, long_in_enum, package_length, full_length, enum_lengths, full_lengths, file_lengths, passes_8, passes_9, limit_passed}
use Rattle.name_rules.specs.Accessors.{text}
use Rattle.name_rules.specs.FullNames.{◌·◌, package_scope, Entry, entries, set_entries}
use Rattle.table_laws.specs.SettingLaws.{NamesFit, Fit}

fit_append : (xs ys : List Entry) → Fit xs → Fit ys → Fit (xs ++ ys)
fit_append [] ys h k = k
fit_append (x ∷ xs) ys h k = (h.0, fit_append xs ys h.1 k)

names_fit : (full : Bytes) (fs : List FieldDescriptor) → length full ≤ max_full_name + 1 → any (λ (f : FieldDescriptor). long_name f.name) fs ≡ false → NamesFit full fs
unfolding any
names_fit full [] h k = tt
names_fit full (f ∷ fs) h k =
    let rest = any (λ (f : FieldDescriptor). long_name f.name) fs in
    let short = ltb-false max_name (length_of f.name) (or_false_left (long_name f.name) rest k) in
    let l = path_length full f.name in
    (omega arith, names_fit full fs h (or_false_right (long_name f.name) rest k))

abbrev too_long : ℕ → Bool
too_long n = ltb max_full_name n

-- a scope is at most one byte longer than limit 9 counts it: a package that is given and empty has its dot
forest_fits : (around : ℕ) (scope : Bytes) (F : Forest MessageDescriptor) → length scope ≤ around + 1 → any long_in_message (preorder F) ≡ false → any too_long (full_lengths around F) ≡ false
    → Fit (entries scope F)
unfolding any preorder full_lengths entries
forest_fits around scope done h names lengths = tt
forest_fits around scope (node m nested following) h names lengths =
    let inner = scope · text m.name in
    let own = full_length around m.name in
    let first = own ∷ enum_lengths own m.enums in
    let both = first ++ full_lengths own nested in
    let front = any_left too_long both (full_lengths around following) lengths in
    let short = ltb-false max_full_name own (or_false_left (too_long own) (any too_long (enum_lengths own m.enums)) (any_left too_long first (full_lengths own nested) front)) in
    let l = path_length scope m.name in
    let here = or_false_left (long_in_message m) (any long_in_message (preorder nested ++ preorder following)) names in
    let rest = or_false_right (long_in_message m) (any long_in_message (preorder nested ++ preorder following)) names in
    let in_fields = or_false_right (long_name m.name) (any (λ (f : FieldDescriptor). long_name f.name) m.fields) (or_false_left (long_name m.name || any (λ (f : FieldDescriptor). long_name f.name) m.fields) (any long_name m.oneofs) here) in (
      record { own = omega arith; fields = names_fit inner m.fields (omega arith) in_fields },
      fit_append (entries inner nested) (entries scope following)
          (forest_fits own inner nested (omega arith) (any_left long_in_message (preorder nested) (preorder following) rest) (any_right too_long first (full_lengths own nested) front))
          (forest_fits around scope following h (any_right long_in_message (preorder nested) (preorder following) rest) (any_right too_long both (full_lengths around following) lengths)),
    )

files_fit : (fs : List FileDescriptor) → any long_in_message (messages_in fs) ≡ false → any too_long (all_of file_lengths fs) ≡ false → Fit (set_entries fs)
unfolding messages_in all_of set_entries
files_fit [] names lengths = tt
files_fit (f ∷ fs) names lengths =
    let around = package_length f.package_name in
    let scope = package_scope f.package_name in
    fit_append (entries scope f.messages) (set_entries fs)
    (forest_fits around scope f.messages (scope_length f.package_name) (any_left long_in_message (preorder f.messages) (messages_in fs) names)
    (any_right too_long (enum_lengths around f.enums) (full_lengths around f.messages) (any_left too_long (file_lengths f) (all_of file_lengths fs) lengths)))
    (files_fit fs (any_right long_in_message (preorder f.messages) (messages_in fs) names) (any_right too_long (file_lengths f) (all_of file_lengths fs) lengths))

pub paths_fit : (fs : List FileDescriptor) → passes_8 fs ≡ false → passes_9 fs ≡ false → Fit (set_entries fs)
unfolding passes_8 passes_9
paths_fit fs eight nine =
    let in_package = any (λ (f : FileDescriptor). long_package f.package_name) fs in
    let messages = any long_in_message (messages_in fs) in
    files_fit fs (or_false_right in_package messages (or_false_left (in_package || messages) (any long_in_enum (enums_in fs)) eight)) nine

-- ---- what a set within the limits has

pub record Within (set : Bytes) : Type 0 where
  pub small : length set ≤ max_set
  pub messages : length (messages_in (decode_set set)) ≤ max_messages
  pub fields : length (fields_in (decode_set set)) ≤ max_fields
  pub fit : Fit (set_entries (decode_set set))

pub within_limits : (set : Bytes) → limit_passed set ≡ 0 → Within set
within_limits set e =
    let w = within set e in
    record { small = w.small; messages = w.messages; fields = w.fields; fit = paths_fit (decode_set set) w.names w.full_names }
