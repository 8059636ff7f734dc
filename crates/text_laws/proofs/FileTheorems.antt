-- Of an accepted set, the text and the faults of each file by the tables are code_generator's. Assumes nothing.
use Rattle.std.specs.Prelude.{ℕ, suc, ◌+◌, ◌≡◌, List, Ok}
use Rattle.std.proofs.Common.{sym, ap, subst}
use Rattle.base.specs.Lists.{Every}
use Rattle.descriptor.specs.Descriptor.{Bytes, MessageDescriptor, Forest, FileDescriptor}
use Rattle.descriptor.specs.Decode.{entries, parts, decode_file, decode_set}
use Rattle.descriptor.specs.Limits.{limit_passed}
use Rattle.options.specs.Settings.{Setting}
use Rattle.name_rules.specs.FullNames.{package_scope}
use Rattle.name_rules.specs.WellFormed.{WellFormed}
use Rattle.name_rules.specs.Answer.{names}
use Rattle.name_rules.proofs.WellFormedLaws.{every_file}
use Rattle.text_tables.specs.declared.MessageRow.{MessageRow}
use Rattle.text_tables.specs.declared.FieldRow.{FieldRow}
use Rattle.index.specs.Tree.{size}
use Rattle.context_laws.specs.At.{At, at_map}
use Rattle.context_laws.specs.At.At.{first, next}
use Rattle.path_fits.specs.PathsFit.{FileFits}
use Rattle.path_fits.proofs.FitLaws.{set_fits}
use Rattle.table_says.specs.Says.{Numbered, NumberedFiles, NodeSays, Says}
use Rattle.message_text.specs.MessageText.{text_of_file}
use Rattle.file_faults.specs.FileFaults.{faults_of_file}
use Rattle.code_generator.specs.Refusals.{variants_overlap, defaults_fail}
use Rattle.code_generator.specs.Generate.{file_text}
use Rattle.text_laws.specs.Described.{Described}
use Rattle.text_laws.proofs.SaysLaws.{described}
use Rattle.text_laws.proofs.FileLaws.{described_text, described_faults}
use Rattle.text_laws.specs.FileTheorems.{first_from, first_message}

-- that of the next file
first_from_next : {f : FileDescriptor} (i : ℕ) {fs : List FileDescriptor} {n : ℕ} → At f fs n → first_from i fs (suc n) ≡ first_from i fs n + size f.messages
unfolding first_from
first_from_next i (first e) = ap (λ (g : FileDescriptor). i + size g.messages) (sym e)
first_from_next i (next {y = g} p) = first_from_next (i + size g.messages) p

pub first_message_next : {f : FileDescriptor} {fs : List FileDescriptor} {n : ℕ} → At f fs n → first_message fs (suc n) ≡ first_message fs n + size f.messages
first_message_next p = first_from_next 0 p

every_at : {A : Type 0} (P : A → Type 0) {x : A} {xs : List A} {n : ℕ} → At x xs n → Every P xs → P x
every_at P (first e) h = subst P (sym e) h.0
every_at P (next p) h = every_at P p h.1

numbered_at : (P : Bytes → MessageDescriptor → Forest MessageDescriptor → ℕ → Type 0) {f : FileDescriptor} (i : ℕ) {fs : List FileDescriptor} {n : ℕ} → At f fs n → NumberedFiles P i fs
    → Numbered P (package_scope f.package_name) (first_from i fs n) f.messages
unfolding first_from
numbered_at P i (first e) h = subst (λ (g : FileDescriptor). Numbered P (package_scope g.package_name) i g.messages) (sym e) h.0
numbered_at P i (next {y = g} p) h = numbered_at P (i + size g.messages) p h.1

-- file n of a set within the limits, without refusals 6 and 7; p is its part
module _ (rs : List Setting) (set : List ℕ) (messages : List MessageRow) (t : List FieldRow) (passed : limit_passed set ≡ 0) (good : names (decode_set set) ≡ Ok tt) (says : Says rs set messages t)
    (p : Bytes) (n : ℕ) (at : At p (parts 1 (entries set)) n) where
  file_at : At (decode_file p) (decode_set set) n
  unfolding decode_set
  file_at = at_map decode_file at

  fits : FileFits (decode_file p)
  fits = every_at FileFits file_at (set_fits set passed)

  messages_described : Described rs set messages t (package_scope (decode_file p).package_name) (first_message (decode_set set) n) (decode_file p).messages
  messages_described =
      described rs set messages t says (package_scope (decode_file p).package_name) (first_message (decode_set set) n) (decode_file p).messages
      (numbered_at (NodeSays set messages t) 0 file_at says.nodes) fits.messages (every_at WellFormed file_at (every_file (decode_set set) good)).messages

  pub file_text_is : text_of_file rs set messages t (first_message (decode_set set) n) p ≡ file_text rs (decode_set set) (decode_file p)
  file_text_is = described_text rs set messages t (first_message (decode_set set) n) p fits messages_described

  pub file_faults_are : faults_of_file rs set messages t (first_message (decode_set set) n) p ≡ record { overlap = variants_overlap rs (decode_file p); default = defaults_fail rs (decode_file p) }
  file_faults_are = described_faults rs set messages t (first_message (decode_set set) n) p fits messages_described
