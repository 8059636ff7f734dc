-- Without refusal 6, the type and label of each field are among descriptor.proto's numbers, so a table of bytes holds them. Assumes nothing.
use Rattle.std.specs.Prelude.{◌≡◌, true, ℕ, ◌≤◌, leb, length, Ok}
use Rattle.std.proofs.Common.{subst, ⊎_elim, leb-true, ltb-false}
use Rattle.std.proofs.lemmas.Bool.{false≢true}
use mathlib.Core.List.Memᴰ
use mathlib.Core.List.{List, [], ◌∷◌, Memᴰ}
use Rattle.std.proofs.Math.Option.{Option, some, none}
use Rattle.base.specs.Choose.{choose, counted}
use Rattle.base.specs.Lists.{all, first_failing}
use Rattle.base.specs.Tests.{and_left, and_right}
use Rattle.name_rules.proofs.AppendLaws.{fields_append}
use Rattle.descriptor.specs.Descriptor.{Bytes, Forest, done, node, FieldDescriptor, MessageDescriptor, FileDescriptor}
use Rattle.name_rules.specs.Accessors.{or_else, text, type, label}
use Rattle.name_rules.specs.Rules.{has_name, within, field_good, message_good, entry_good, messages_good, package_good, syntax_good, file_good}
use Rattle.name_rules.specs.MapEntries.{map_entries_named}
use Rattle.name_rules.specs.FullNames.{◌·◌, entries, set_entries, package_scope, fields_of_entries, set_fields}
use Rattle.name_rules.specs.Answer.{file_named, first_six, names}
use Rattle.context_laws.specs.SoundSets.{all_of_all, file_entries}
use Rattle.name_rules.proofs.NamesLaws.{no_refusals}

pub record Ranged (f : FieldDescriptor) : Type 0 where
  pub type_in : type f ≤ 18
  pub label_in : label f ≤ 3

most : (low high d : ℕ) (n : Option ℕ) → within low high n ≡ true → or_else d n ≤ high
most low high d none h = absurd (false≢true h)
most low high d (some n) h = leb-true n high (and_right (leb low n) (leb n high) h)

field_ranged : (oneofs : ℕ) (f : FieldDescriptor) → field_good oneofs f ≡ true → Ranged f
unfolding field_good
field_ranged oneofs f h =
    let after_name = and_right (has_name f.name) _ h in
    let after_number = and_right (within 1 536870911 f.number) _ after_name in
    let after_label = and_right (within 1 3 f.label) _ after_number in
    record { type_in = most 1 18 1 f.type (and_left (within 1 18 f.type) _ after_label); label_in = most 1 3 1 f.label (and_left (within 1 3 f.label) _ after_number) }

forest_ranged : (scope : Bytes) (ms : Forest MessageDescriptor) → messages_good ms ≡ true → (f : FieldDescriptor) → Memᴰ f (fields_of_entries (entries scope ms)) → Ranged f
unfolding entries fields_of_entries messages_good message_good
forest_ranged scope done h f m = absurd (Memᴰ.not-nil m)
forest_ranged scope (node m nested following) h f at =
    let inner = scope · text m.name in
    let fields_good = and_left (all (field_good (length m.oneofs)) m.fields) _ (and_right (has_name m.name) _ (and_left (message_good m) _ h)) in
    let below = and_right (choose m.map_entry (entry_good m nested) true) _ (and_right (message_good m) _ h) in
    ⊎_elim (λ w. field_ranged (length m.oneofs) f (all_of_all (field_good (length m.oneofs)) m.fields fields_good f w))
    (λ w.
    ⊎_elim (λ v. forest_ranged inner nested (and_left (messages_good nested) (messages_good following) below) f v)
    (λ v. forest_ranged scope following (and_right (messages_good nested) (messages_good following) below) f v)
    (Memᴰ.append_cases (fields_of_entries (entries inner nested)) (subst (λ (l : List FieldDescriptor). Memᴰ f l) (fields_append (entries inner nested) (entries scope following)) w)))
    (Memᴰ.append_cases m.fields at)

files_ranged : (all_fields : List FieldDescriptor) (fs : List FileDescriptor) → length fs ≤ first_failing (file_named all_fields) fs → (f : FieldDescriptor) → Memᴰ f (fields_of_entries (set_entries fs)) → Ranged f
unfolding first_failing set_entries fields_of_entries file_named file_good
files_ranged all_fields [] h f m = absurd (Memᴰ.not-nil m)
files_ranged all_fields (x ∷ fs) h f m =
    let ok = counted (file_named all_fields x) (first_failing (file_named all_fields) fs) (length fs) h in
    let good = and_right (syntax_good x.syntax) _ (and_right (package_good x.package_name) _ (and_left (file_good x) (map_entries_named all_fields x) ok.0)) in
    ⊎_elim (λ w. forest_ranged (package_scope x.package_name) x.messages (and_left (messages_good x.messages) _ good) f w)
    (λ w. files_ranged all_fields fs ok.1 f w)
    (Memᴰ.append_cases (fields_of_entries (file_entries x)) (subst (λ (l : List FieldDescriptor). Memᴰ f l) (fields_append (file_entries x) (set_entries fs)) m))

pub ranged_set : (set : List FileDescriptor) → names set ≡ Ok tt → (f : FieldDescriptor) → Memᴰ f (set_fields set) → Ranged f
unfolding first_six
ranged_set set good = files_ranged (set_fields set) set (ltb-false (first_six set) (length set) (no_refusals set good).0)
