-- In a set that passes none of the limits every name has room. Assumes nothing.
use Rattle.std.specs.Prelude.{◌≡◌, Bool, false, ◌||◌, ◌⊎◌, ℕ, ◌+◌, ◌≤◌, ltb, length}
use Rattle.std.proofs.Math.Path.{refl}
use Rattle.std.proofs.Common.{inl, inr, arith, length-append, take_all, ltb-false, le-leb}
use mathlib.Core.List.{List, [], ◌∷◌, ◌++◌}
use Rattle.std.proofs.Math.Option.{Option}
use Rattle.base.specs.Lists.{any, all_of, Every, any_left, any_right}
use Rattle.base.specs.Tests.{or_false_left, or_false_right}
use Rattle.name_rules.proofs.LengthLaws.{name_length, path_length, scope_length}
use Rattle.limit_facts.specs.Within.{within}
use Rattle.ident.specs.Ident.{to_upper_camel}
use Rattle.descriptor.specs.Descriptor.{Bytes, Forest, done, node, preorder, FieldDescriptor, ValueDescriptor, EnumDescriptor, MessageDescriptor, FileDescriptor}
use Rattle.descriptor.specs.Decode.{decode_set}
use Rattle.descriptor.specs.Limits.{max_values, max_name, max_full_name, messages_in, length_of, enums_in, long_name, long_package, long_in_message, long_in_enum, package_length, full_length, enum_lengths, full_lengths, file_lengths, passes_8, passes_9, limit_passed}
use Rattle.name_rules.specs.Accessors.{text}
use Rattle.name_rules.specs.FullNames.{◌·◌, package_scope}
use Rattle.joined.specs.Joined.{max_path, fits, whole_path}
use Rattle.path_fits.specs.Sizes.{camel_room}
use Rattle.path_fits.specs.PathsFit.{max_short_name, max_scope, NameFits, OneofFits, EnumFits, MessageFits, PathsFit, FileFits}

-- ---- names

pub name_fits : (scope name : Bytes) → length scope ≤ 400 → length name ≤ max_short_name → NameFits scope name
unfolding fits
name_fits scope name h k =
    let l = length-append scope (46 ∷ name) in
    let c = camel_room name in
    record {
      short = k;
      room = le-leb (length (scope · name)) max_path (omega arith);
      whole = whole_path scope name (omega arith);
      camel = take_all max_path (to_upper_camel name) (omega arith);
    }

short : (n : Option Bytes) → long_name n ≡ false → length (text n) ≤ max_short_name
short n h = let l = name_length n in let k = ltb-false max_name (length_of n) h in omega arith

-- ---- lists in which a test finds nothing

module _ {A : Type 0} (p : A → Bool) where
  none_every : (P : A → Type 0) → ((x : A) → p x ≡ false → P x) → (xs : List A) → any p xs ≡ false → Every P xs
  unfolding any
  none_every P f [] h = tt
  none_every P f (x ∷ xs) h = (f x (or_false_left (p x) (any p xs) h), none_every P f xs (or_false_right (p x) (any p xs) h))

  any_either : (q : A → Bool) (xs : List A) → any p xs ≡ false → any q xs ≡ false → any (λ (x : A). p x || q x) xs ≡ false
  unfolding any
  any_either q [] h k = refl
  any_either q (x ∷ xs) h k =
      let rest = any_either q xs (or_false_right (p x) (any p xs) h) (or_false_right (q x) (any q xs) k) in
      rw (or_false_left (p x) (any p xs) h, or_false_left (q x) (any q xs) k, rest)

  any_in_each : {B : Type 0} (g : B → List A) (xs : List B) → any p (all_of g xs) ≡ false → any (λ (x : B). any p (g x)) xs ≡ false
  unfolding any all_of
  any_in_each g [] h = refl
  any_in_each g (x ∷ xs) h =
      let here = any_left p (g x) (all_of g xs) h in
      let rest = any_in_each g xs (any_right p (g x) (all_of g xs) h) in
      rw (here, rest)

-- ---- what the limits refuse of an enum and a message

abbrev many : EnumDescriptor → Bool
many e = ltb max_values (length e.values)

abbrev bad_enum : EnumDescriptor → Bool
bad_enum e = long_in_enum e || many e

abbrev bad_message : MessageDescriptor → Bool
bad_message m = long_in_message m || any bad_enum m.enums

abbrev too_long : ℕ → Bool
too_long n = ltb max_full_name n

-- in a scope as long as limit 9 leaves one
enum_names_fit : (scope : Bytes) → length scope ≤ max_scope → (e : EnumDescriptor) → bad_enum e ≡ false → EnumFits scope e
enum_names_fit scope h e k =
    let names = or_false_left (long_in_enum e) (many e) k in
    let values = any (λ (v : ValueDescriptor). long_name v.name) e.values in
    let own = short e.name (or_false_left (long_name e.name) values names) in
    let l = length-append scope (46 ∷ text e.name) in
    record {
      own = name_fits scope (text e.name) (omega arith) own;
      few = ltb-false max_values (length e.values) (or_false_right (long_in_enum e) (many e) k);
      values =
          none_every (λ (v : ValueDescriptor). long_name v.name) (λ (v : ValueDescriptor). NameFits (scope · text e.name) (text v.name))
          (λ v q. name_fits (scope · text e.name) (text v.name) (omega arith) (short v.name q)) e.values
          (or_false_right (long_name e.name) values names);
    }

-- at: the message's full name
module _ (at : Bytes) (h : length at ≤ max_scope) (m : MessageDescriptor) (fields : any (λ (f : FieldDescriptor). long_name f.name) m.fields ≡ false) where
  fields_fit : (scope : Bytes) → length scope ≤ 400 → Every (λ (f : FieldDescriptor). NameFits scope (text f.name)) m.fields
  fields_fit scope k =
      none_every (λ (f : FieldDescriptor). long_name f.name) (λ (f : FieldDescriptor). NameFits scope (text f.name)) (λ f q. name_fits scope (text f.name) k (short f.name q))
      m.fields
      fields

  oneof_fits : (o : Option Bytes) → long_name o ≡ false → OneofFits at m o
  oneof_fits o q =
      let l = length-append at (46 ∷ text o) in
      let s = short o q in
      record { own = name_fits at (text o) (omega arith) s; fields = fields_fit (at · text o) (omega arith) }

message_fits : (scope : Bytes) → length scope ≤ max_scope → (m : MessageDescriptor) → length (scope · text m.name) ≤ max_scope → bad_message m ≡ false → MessageFits scope m
message_fits scope h m full k =
    let at = scope · text m.name in
    let in_fields = any (λ (f : FieldDescriptor). long_name f.name) m.fields in
    let names = or_false_left (long_in_message m) (any bad_enum m.enums) k in
    let front = or_false_left (long_name m.name || in_fields) (any long_name m.oneofs) names in
    let fields = or_false_right (long_name m.name) in_fields front in
    let oneofs = or_false_right (long_name m.name || in_fields) (any long_name m.oneofs) names in
    record {
      own = name_fits scope (text m.name) (omega arith) (short m.name (or_false_left (long_name m.name) in_fields front));
      full = full;
      fields = fields_fit at full m fields at (omega arith);
      oneofs = none_every long_name (OneofFits at m) (oneof_fits at full m fields) m.oneofs oneofs;
      enums = none_every bad_enum (EnumFits at) (enum_names_fit at full) m.enums (or_false_right (long_in_message m) (any bad_enum m.enums) k);
    }

-- ---- forests and files

-- a scope is at most one byte longer than limit 9 counts it
forest_fits : (around : ℕ) (scope : Bytes) (F : Forest MessageDescriptor) → length scope ≤ around + 1 → any bad_message (preorder F) ≡ false → any too_long (full_lengths around F) ≡ false
    → PathsFit scope F
unfolding any preorder full_lengths
forest_fits around scope done h names lengths = tt
forest_fits around scope (node m nested following) h names lengths =
    let inner = scope · text m.name in
    let own = full_length around m.name in
    let first = own ∷ enum_lengths own m.enums in
    let both = first ++ full_lengths own nested in
    let front = any_left too_long both (full_lengths around following) lengths in
    let size = ltb-false max_full_name own (or_false_left (too_long own) (any too_long (enum_lengths own m.enums)) (any_left too_long first (full_lengths own nested) front)) in
    let l = path_length scope m.name in
    let here = or_false_left (bad_message m) (any bad_message (preorder nested ++ preorder following)) names in
    let rest = or_false_right (bad_message m) (any bad_message (preorder nested ++ preorder following)) names in (
      message_fits scope (omega arith) m (omega arith) here,
      (
        forest_fits own inner nested (omega arith) (any_left bad_message (preorder nested) (preorder following) rest) (any_right too_long first (full_lengths own nested) front),
        forest_fits around scope following h (any_right bad_message (preorder nested) (preorder following) rest) (any_right too_long both (full_lengths around following) lengths),
      ),
    )

enums_fit : (around : ℕ) (scope : Bytes) (es : List EnumDescriptor) → length scope ≤ around + 1 → any bad_enum es ≡ false → any too_long (enum_lengths around es) ≡ false → Every (EnumFits scope) es
unfolding any enum_lengths
enums_fit around scope [] h names lengths = tt
enums_fit around scope (e ∷ es) h names lengths =
    let own = full_length around e.name in
    let size = ltb-false max_full_name own (or_false_left (too_long own) (any too_long (enum_lengths around es)) lengths) in (
      enum_names_fit scope (omega arith) e (or_false_left (bad_enum e) (any bad_enum es) names),
      enums_fit around scope es h (or_false_right (bad_enum e) (any bad_enum es) names) (or_false_right (too_long own) (any too_long (enum_lengths around es)) lengths),
    )

scope_fits : (around : ℕ) (scope : Bytes) (es : List EnumDescriptor) (F : Forest MessageDescriptor) → length scope ≤ around + 1 → any too_long (enum_lengths around es) ≡ false → any too_long (full_lengths around F) ≡ false → ((F ≡ done) × (es ≡ [])) ⊎ (length scope ≤ max_scope)
unfolding any enum_lengths full_lengths
scope_fits around scope [] done h enums messages = inl (refl, refl)
scope_fits around scope (e ∷ es) F h enums messages =
    let own = full_length around e.name in
    let size = ltb-false max_full_name own (or_false_left (too_long own) (any too_long (enum_lengths around es)) enums) in
    inr (omega arith)
scope_fits around scope [] (node m nested following) h enums messages =
    let own = full_length around m.name in
    let first = own ∷ enum_lengths own m.enums in
    let front = any_left too_long (first ++ full_lengths own nested) (full_lengths around following) messages in
    let size = ltb-false max_full_name own (or_false_left (too_long own) (any too_long (enum_lengths own m.enums)) (any_left too_long first (full_lengths own nested) front)) in
    inr (omega arith)

files_fit : (fs : List FileDescriptor) → any bad_message (messages_in fs) ≡ false → any bad_enum (all_of (λ (f : FileDescriptor). f.enums) fs) ≡ false → any too_long (all_of file_lengths fs) ≡ false → Every FileFits fs
unfolding messages_in all_of
files_fit [] names enums lengths = tt
files_fit (f ∷ fs) names enums lengths =
    let around = package_length f.package_name in
    let scope = package_scope f.package_name in
    let later = all_of (λ (g : FileDescriptor). g.enums) fs in
    let own = any_left too_long (file_lengths f) (all_of file_lengths fs) lengths in
    let own_enums = any_left too_long (enum_lengths around f.enums) (full_lengths around f.messages) own in
    let own_messages = any_right too_long (enum_lengths around f.enums) (full_lengths around f.messages) own in
    let l = scope_length f.package_name in (
      record {
        scope = scope_fits around scope f.enums f.messages l own_enums own_messages;
        messages = forest_fits around scope f.messages l (any_left bad_message (preorder f.messages) (messages_in fs) names) own_messages;
        enums = enums_fit around scope f.enums l (any_left bad_enum f.enums later enums) own_enums;
      },
      files_fit fs (any_right bad_message (preorder f.messages) (messages_in fs) names) (any_right bad_enum f.enums later enums) (any_right too_long (file_lengths f) (all_of file_lengths fs) lengths),
    )

-- by limits 6, 8 and 9
names_fit : (fs : List FileDescriptor) → any many (enums_in fs) ≡ false → passes_8 fs ≡ false → passes_9 fs ≡ false → Every FileFits fs
unfolding passes_8 passes_9 enums_in
names_fit fs six eight nine =
    let of_files = all_of (λ (f : FileDescriptor). f.enums) fs in
    let of_messages = all_of (λ (m : MessageDescriptor). m.enums) (messages_in fs) in
    let in_package = any (λ (f : FileDescriptor). long_package f.package_name) fs in
    let messages = any long_in_message (messages_in fs) in
    let enums = any long_in_enum (enums_in fs) in
    let bad = any_either long_in_enum many (enums_in fs) (or_false_right (in_package || messages) enums eight) six in
    let inner = any_in_each bad_enum (λ (m : MessageDescriptor). m.enums) (messages_in fs) (any_right bad_enum of_files of_messages bad) in
    files_fit fs
    (any_either long_in_message (λ (m : MessageDescriptor). any bad_enum m.enums) (messages_in fs) (or_false_right in_package messages (or_false_left (in_package || messages) enums eight)) inner)
    (any_left bad_enum of_files of_messages bad)
    nine

pub set_fits : (set : Bytes) → limit_passed set ≡ 0 → Every FileFits (decode_set set)
set_fits set e = let w = within set e in names_fit (decode_set set) w.values w.names w.full_names
