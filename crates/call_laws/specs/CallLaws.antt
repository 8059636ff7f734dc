-- The file with an index, of an accepted set: its text and its faults by the tables are those that the text call speaks of. Assumes nothing.
use Rattle.std.specs.Prelude.{◌≡◌, length, Ok}
use Rattle.std.proofs.Math.Path.{refl, ap}
use Rattle.std.proofs.Common.{◌∙◌, not-suc-le-zero, le_of_suc-le-suc, length-append}
use mathlib.Core.List.{List, [], ◌∷◌, map}
use Prim.Native.Nat.{ℕ, zero, suc, ◌+◌, ◌^◌, ◌≤◌, ◌<◌}
use native.Mathlib.Omega.{arith}
use Rattle.base.specs.Lists.{Every, all_of}
use Rattle.wire.specs.Records.{scan, records}
use Rattle.descriptor.specs.Descriptor.{Bytes, Forest, done, node, preorder, MessageDescriptor, FileDescriptor}
use Rattle.descriptor.specs.Decode.{entries_of, entries, last_from, parts, decode_messages, decode_file, decode_set}
use Rattle.descriptor.specs.Limits.{messages_in, limit_passed}
use Rattle.options.specs.Settings.{Setting, settings}
use Rattle.options.specs.Layout.{layout}
use Rattle.name_rules.specs.FullNames.{package_scope}
use Rattle.name_rules.specs.Answer.{names}
use Rattle.text_tables.specs.declared.MessageRow.{MessageRow}
use Rattle.text_tables.specs.declared.FieldRow.{FieldRow}
use Rattle.index.specs.Tree.{size}
use Rattle.context_laws.specs.At.{At}
use Rattle.context_laws.specs.At.At.{first, next}
use Rattle.table_says.specs.Says.{Numbered, NumberedFiles, NodeSays, Says}
use Rattle.message_text.specs.MessageText.{text_of_file}
use Rattle.file_faults.specs.FileFaults.{faults_of_file}
use Rattle.file_faults.specs.declared.Faults.{Faults}
use Rattle.code_generator.specs.Generate.{file_text}
use Rattle.code_generator.specs.Refusals.{variants_overlap, defaults_fail}
use Rattle.text_laws.specs.FileTheorems.{first_from, first_message}
use Rattle.text_laws.proofs.FileTheorems.{file_text_is, file_faults_are}
use Rattle.limit_facts.specs.Within.{within}
use Rattle.text_length.specs.Bound.{text_bounded}
use Rattle.file_parts.specs.FileParts.{part_at, behind, first_number}
use Rattle.calls.specs.TextCall.{file_at}

part_there : (ps : List Bytes) (x : ℕ) → x < length ps → At (part_at ps x) ps x
unfolding part_at
part_there [] x h = absurd (not-suc-le-zero h)
part_there (p ∷ ps) zero h = first refl
part_there (p ∷ ps) (suc x) h = next (part_there ps x (le_of_suc-le-suc h))

-- the file with an index, by its bytes
pub file_is : (ps : List Bytes) (x : ℕ) → decode_file (part_at ps x) ≡ file_at (map decode_file ps) x
unfolding part_at decode_file decode_messages entries entries_of records scan last_from parts
file_is [] x = refl
file_is (p ∷ ps) zero = refl
file_is (p ∷ ps) (suc x) = file_is ps x

module _ (set : List ℕ) (messages : List MessageRow) (t : List FieldRow) where
  pub behind_is : (left : ℕ) (scope : Bytes) (i : ℕ) (ps : List Bytes) → Numbered (NodeSays set messages t) scope i (decode_messages (suc left) ps) → behind messages (length ps) i ≡ i + size (decode_messages (suc left) ps)
  unfolding decode_messages behind size
  behind_is left scope i [] h = omega arith
  behind_is left scope i (p ∷ ps) h =
      let nested = decode_messages left (parts 3 (entries p)) in
      let rest = behind_is left scope (i + 1 + size nested) ps h.1.1 in
      ap (behind messages (length ps)) h.0.after ∙ rest ∙ omega arith

  first_is : (i : ℕ) (ps : List Bytes) → NumberedFiles (NodeSays set messages t) i (map decode_file ps) → (x : ℕ) → first_number messages i ps x ≡ first_from i (map decode_file ps) x
  unfolding first_number first_from decode_file
  first_is i [] h zero = refl
  first_is i [] h (suc x) = refl
  first_is i (p ∷ ps) h zero = refl
  first_is i (p ∷ ps) h (suc x) =
      ap (λ (j : ℕ). first_number messages j ps x) (behind_is 15 (package_scope (decode_file p).package_name) i (parts 4 (entries p)) h.0)
      ∙ first_is (i + size (decode_messages 16 (parts 4 (entries p)))) ps h.1 x

-- ---- the numbers of messages are below their count
size_is : (F : Forest MessageDescriptor) → size F ≡ length (preorder F)
unfolding size preorder
size_is done = refl
size_is (node m nested following) =
    let a = size_is nested in
    let b = size_is following in
    let c = length-append (preorder nested) (preorder following) in
    omega arith

first_within : (i : ℕ) (fs : List FileDescriptor) (x : ℕ) → first_from i fs x ≤ i + length (messages_in fs)
unfolding first_from messages_in all_of
first_within i fs zero = omega arith
first_within i [] (suc x) = omega arith
first_within i (f ∷ fs) (suc x) =
    let a = size_is f.messages in
    let b = length-append (preorder f.messages) (messages_in fs) in
    let c = first_within (i + size f.messages) fs x in
    omega arith

abbrev faults_of : List Setting → FileDescriptor → Faults
faults_of rs f = record { overlap = variants_overlap rs f; default = defaults_fail rs f }

-- the file with the index, of a set within the limits, without refusals 6 and 7
module _ (rs : List Setting) (set : List ℕ) (messages : List MessageRow) (t : List FieldRow) (passed : limit_passed set ≡ 0) (good : names (decode_set set) ≡ Ok tt) (says : Says rs set messages t)
    (file : ℕ) (there : file < length (parts 1 (entries set))) where
  abbrev part_of : Bytes
  part_of = part_at (parts 1 (entries set)) file

  number_is : first_number messages 0 (parts 1 (entries set)) file ≡ first_message (decode_set set) file
  unfolding decode_set
  number_is = first_is set messages t 0 (parts 1 (entries set)) says.nodes file

  pub call_number_within : first_number messages 0 (parts 1 (entries set)) file ≤ 256
  call_number_within = let a = number_is in let b = first_within 0 (decode_set set) file in let c = (within set passed).messages in omega arith

  descriptor_is : decode_file part_of ≡ file_at (decode_set set) file
  unfolding decode_set
  descriptor_is = file_is (parts 1 (entries set)) file

  pub call_text_is : text_of_file rs set messages t (first_number messages 0 (parts 1 (entries set)) file) part_of ≡ file_text rs (decode_set set) (file_at (decode_set set) file)
  call_text_is =
      ap (λ (i : ℕ). text_of_file rs set messages t i part_of) number_is
      ∙ file_text_is rs set messages t passed good says part_of file (part_there (parts 1 (entries set)) file there)
      ∙ ap (file_text rs (decode_set set)) descriptor_is

  pub call_faults_are : faults_of_file rs set messages t (first_number messages 0 (parts 1 (entries set)) file) part_of
      ≡ record { overlap = variants_overlap rs (file_at (decode_set set) file); default = defaults_fail rs (file_at (decode_set set) file) }
  call_faults_are =
      ap (λ (i : ℕ). faults_of_file rs set messages t i part_of) number_is
      ∙ file_faults_are rs set messages t passed good says part_of file (part_there (parts 1 (entries set)) file there)
      ∙ ap (faults_of rs) descriptor_is

-- ---- the length
every_at : (P : FileDescriptor → Type 0) (fs : List FileDescriptor) (x : ℕ) → x < length fs → Every P fs → P (file_at fs x)
every_at P [] x h e = absurd (not-suc-le-zero h)
every_at P (f ∷ fs) zero h e = e.0
every_at P (f ∷ fs) (suc x) h e = every_at P fs x (le_of_suc-le-suc h) e.1

pub call_bounded : (o set : Bytes) → layout o ≡ Ok tt → limit_passed set ≡ 0 → (file : ℕ) → file < length (decode_set set) → length (file_text (settings o) (decode_set set) (file_at (decode_set set) file)) < 2 ^ 52
call_bounded o set good passed file there = every_at (λ (f : FileDescriptor). length (file_text (settings o) (decode_set set) f) < 2 ^ 52) (decode_set set) file there (text_bounded o set good passed)
