-- The text and the faults of a file, where its messages are as described. Assumes nothing.
use Rattle.std.specs.Prelude.{ℕ, suc, ◌≤◌, ◌≡◌, refl, List, [], ◌∷◌, map, length, take}
use Rattle.std.proofs.Common.{sym, ap, ⊎_elim, arith, take_all}
use Rattle.std.proofs.Math.Bool.{or-false}
use Rattle.base.specs.Lists.{any, is_empty, Every}
use Rattle.base.specs.Tests.{both_ways}
use Rattle.syntax.specs.Syntax.{syntax_of}
use Rattle.descriptor.specs.Descriptor.{Bytes, done, FileDescriptor}
use Rattle.descriptor.specs.Decode.{entries, parts, decode_enum, decode_messages, decode_file, decode_set}
use Rattle.options.specs.Settings.{Setting}
use Rattle.name_rules.specs.FullNames.{package_scope}
use Rattle.name_rules.specs.Rules.{none_nested}
use Rattle.walks.specs.Walked.{walked}
use Rattle.joined.specs.Joined.{max_path}
use Rattle.text_tables.specs.declared.MessageRow.{MessageRow}
use Rattle.text_tables.specs.declared.FieldRow.{FieldRow}
use Rattle.path_fits.specs.PathsFit.{max_scope, EnumFits, FileFits}
use Rattle.enum_text.specs.EnumText.{enum_texts}
use Rattle.message_text.specs.MessageText.{message_texts, text_of_file}
use Rattle.file_faults.specs.FileFaults.{faults_of, messages_faults, faults_of_file}
use Rattle.file_faults.specs.declared.Faults.{Faults}
use Rattle.code_generator.specs.Enums.{append_enums}
use Rattle.code_generator.specs.Refusals.{any_message, variants_overlap, defaults_fail}
use Rattle.code_generator.specs.Generate.{append_messages, generate, file_text, is_proto3}
use Rattle.text_laws.specs.Described.{Described}
use Rattle.text_laws.specs.EnumLaws.{enums_are, enums_meet_is}
use Rattle.text_laws.proofs.MessageLaws.{message_texts_are}
use Rattle.text_laws.proofs.FaultLaws.{messages_faults_are}

-- ---- a file that declares nothing

pub no_parts : (n : ℕ) (ps : List Bytes) → decode_messages (suc n) ps ≡ done → ps ≡ []
unfolding decode_messages
no_parts n [] e = refl
no_parts n (p ∷ ps) e = both_ways refl (sym (ap none_nested e))

pub none_mapped : {A B : Type 0} (g : A → B) (xs : List A) → map g xs ≡ [] → xs ≡ []
none_mapped g [] e = refl
none_mapped g (x ∷ xs) e = both_ways refl (sym (ap is_empty e))

module _ (rs : List Setting) (set : List ℕ) (messages : List MessageRow) (t : List FieldRow) (i : ℕ) (p : Bytes) where
  abbrev ds : List FileDescriptor
  ds = decode_set set

  abbrev f : FileDescriptor
  f = decode_file p

  abbrev scope : Bytes
  scope = package_scope f.package_name

  abbrev faults_of_descriptor : Faults
  faults_of_descriptor = record { overlap = variants_overlap rs f; default = defaults_fail rs f }

  module _ (no_messages : f.messages ≡ done) (no_enums : f.enums ≡ []) where
    message_parts : parts 4 (entries p) ≡ []
    unfolding decode_file
    message_parts = no_parts 15 (parts 4 (entries p)) no_messages

    enum_parts : parts 5 (entries p) ≡ []
    unfolding decode_file
    enum_parts = none_mapped decode_enum (parts 5 (entries p)) no_enums

    empty_text : text_of_file rs set messages t i p ≡ file_text rs ds f
    unfolding text_of_file message_texts walked enum_texts generate append_messages append_enums decode_file decode_messages
    empty_text = rw (message_parts, enum_parts)

    empty_faults : faults_of_file rs set messages t i p ≡ faults_of_descriptor
    unfolding faults_of_file messages_faults faults_of any variants_overlap defaults_fail any_message decode_file decode_messages
    empty_faults = rw (message_parts, enum_parts)

  -- ---- any other

  module _ (room : length scope ≤ max_scope) (enums : Every (EnumFits scope) f.enums) (described : Described rs set messages t scope i f.messages) where
    whole : take max_path scope ≡ scope
    whole = take_all max_path scope (omega arith)

    within_text : text_of_file rs set messages t i p ≡ file_text rs ds f
    unfolding text_of_file generate decode_file
    within_text = rw (whole, message_texts_are rs set messages t (is_proto3 (syntax_of f.syntax)) 16 0 scope i (parts 4 (entries p)) described, enums_are rs scope 0 f.enums enums)

    within_faults : faults_of_file rs set messages t i p ≡ faults_of_descriptor
    unfolding faults_of_file variants_overlap defaults_fail decode_file
    within_faults = rw (whole, messages_faults_are rs set messages t 16 scope i (parts 4 (entries p)) described, enums_meet_is rs scope (parts 5 (entries p)) enums, or-false)

  pub described_text : FileFits f → Described rs set messages t scope i f.messages → text_of_file rs set messages t i p ≡ file_text rs ds f
  described_text fit h = ⊎_elim (λ e. empty_text e.0 e.1) (λ room. within_text room fit.enums h) fit.scope

  pub described_faults : FileFits f → Described rs set messages t scope i f.messages → faults_of_file rs set messages t i p ≡ faults_of_descriptor
  described_faults fit h = ⊎_elim (λ e. empty_faults e.0 e.1) (λ room. within_faults room fit.enums h) fit.scope
