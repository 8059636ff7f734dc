-- Of an accepted set, with tables that say what they should and room for 2,048 rows: the names of members that meet are those of the name check.
-- Assumes nothing.
use Prim.Native.Nat.{ℕ, zero, suc, ◌+◌, ◌≤◌}
use Rattle.std.specs.Prelude.{◌≡◌, Bool, ◌&&◌, not, length, Ok}
use Rattle.std.proofs.Math.Path.{refl, ap₂}
use Rattle.std.proofs.Common.{ap, ◌∙◌, ⊎_elim, arith, length-append, take_all}
use Rattle.std.proofs.Math.Bool.{◌||◌}
use mathlib.Core.List.{List, [], ◌∷◌, map}
use Rattle.base.specs.Choose.{unless}
use Rattle.base.specs.Lists.{any, all_of, Every, every_left, every_right}
use Rattle.descriptor.specs.Descriptor.{Bytes, Forest, done, preorder, MessageDescriptor, FileDescriptor}
use Rattle.descriptor.specs.Decode.{entries, parts, decode_oneof, decode_message, decode_messages, decode_file, decode_set}
use Rattle.descriptor.specs.Limits.{messages_in, fields_in, limit_passed}
use Rattle.options.specs.Settings.{Setting}
use Rattle.extern_paths.specs.ExternPaths.{taken}
use Rattle.name_rules.specs.Accessors.{text}
use Rattle.name_rules.specs.FullNames.{◌·◌, package_scope}
use Rattle.name_rules.specs.WellFormed.{GoodMessage, WellFormed}
use Rattle.name_rules.specs.Answer.{names}
use Rattle.name_rules.proofs.WellFormedLaws.{every_file}
use Rattle.index.specs.Tree.{size}
use Rattle.joined.specs.Joined.{max_path}
use Rattle.path_fits.specs.PathsFit.{max_scope, MessageFits, FileFits}
use Rattle.path_fits.proofs.FitLaws.{set_fits}
use Rattle.table_says.specs.Says.{Numbered, NumberedFiles, NodeSays, Says}
use Rattle.text_tables.specs.Rows.{message_row}
use Rattle.text_tables.specs.declared.MessageRow.{MessageRow}
use Rattle.text_tables.specs.declared.FieldRow.{FieldRow}
use Rattle.code_generator.specs.Refusals.{any_message}
use Rattle.limit_facts.specs.Within.{within}
use Rattle.file_parts.specs.FileParts.{behind}
use Rattle.text_laws.specs.Described.{MessageIs, Described}
use Rattle.text_laws.proofs.SaysLaws.{described}
use Rattle.text_laws.proofs.FileLaws.{no_parts}
use Rattle.call_laws.specs.CallLaws.{behind_is}
use Rattle.name_check.specs.NameCheck.{members_meet, file_members_meet}
use Rattle.member_rows.specs.MemberRows.{Inner, message_meets, meet_of, messages_meet, file_meets, files_meet, set_meets}
use Rattle.member_laws.proofs.MemberNames.{own_is}

-- ---- a message of the set has no more fields than the set
abbrev Few : MessageDescriptor → Type 0
Few m = length m.fields ≤ 2048

few_of : (ms : List MessageDescriptor) → length (all_of (λ (m : MessageDescriptor). m.fields) ms) ≤ 2048 → Every Few ms
unfolding all_of
few_of [] h = tt
few_of (m ∷ ms) h =
    let sum = length-append m.fields (all_of (λ (x : MessageDescriptor). x.fields) ms) in
    (omega arith, few_of ms (omega arith))

few_files : (fs : List FileDescriptor) → Every Few (messages_in fs) → Every (λ (f : FileDescriptor). Every Few (preorder f.messages)) fs
unfolding messages_in all_of
few_files [] h = tt
few_files (f ∷ fs) h = (every_left Few (preorder f.messages) (messages_in fs) h, few_files fs (every_right Few (preorder f.messages) (messages_in fs) h))

module _ (rs : List Setting) (set : List ℕ) (messages : List MessageRow) (t : List FieldRow) (room : ℕ) (enough : 786432 ≤ room) where
  abbrev test : Bytes → MessageDescriptor → Forest MessageDescriptor → Bool
  test full m nested = members_meet m nested

  message_is : (scope : Bytes) (nested : Forest MessageDescriptor) (i : ℕ) (p : Bytes) → MessageFits scope (decode_message p) → MessageIs rs set messages t (scope · text (decode_message p).name) (decode_message p) nested i
      → GoodMessage (decode_message p) → Few (decode_message p)
      → (inner : Inner rs room set messages t) → inner (scope · text (decode_message p).name) (suc i) (parts 3 (entries p)) ≡ any_message rs test (scope · text (decode_message p).name) nested
      → message_meets rs room set messages t inner scope i p
      ≡ (not ((decode_message p).map_entry || taken rs (scope · text (decode_message p).name)) && (members_meet (decode_message p) nested || any_message rs test (scope · text (decode_message p).name) nested))
  unfolding message_meets decode_message decode_oneof
  message_is scope nested i p fit has good few inner inside =
      rw (fit.own.whole, own_is rs set messages t scope nested i p fit has good few room enough, inside)
      (unless ((decode_message p).map_entry || taken rs (scope · text (decode_message p).name)) _)

  messages_meet_are : (left : ℕ) (scope : Bytes) (i : ℕ) (ps : List Bytes) → Described rs set messages t scope i (decode_messages left ps) → Every GoodMessage (preorder (decode_messages left ps)) → Every Few (preorder (decode_messages left ps))
      → messages_meet rs room set messages t left scope i ps ≡ any_message rs test scope (decode_messages left ps)
  unfolding messages_meet meet_of any_message decode_messages preorder
  messages_meet_are zero scope i ps h good few = refl
  messages_meet_are (suc left) scope i [] h good few = refl
  messages_meet_are (suc left) scope i (p ∷ ps) h good few =
      let full = scope · text (decode_message p).name in
      let nested = decode_messages left (parts 3 (entries p)) in
      let following = decode_messages (suc left) ps in
      ap₂ ◌||◌
      (message_is scope nested i p h.0.0 h.0.1 good.0 few.0 (messages_meet rs room set messages t left)
      (messages_meet_are left full (suc i) (parts 3 (entries p)) h.1.0 (every_left GoodMessage (preorder nested) (preorder following) good.1) (every_left Few (preorder nested) (preorder following) few.1)))
      (messages_meet_are (suc left) scope (message_row messages i).after ps h.1.1 (every_right GoodMessage (preorder nested) (preorder following) good.1) (every_right Few (preorder nested) (preorder following) few.1))

  -- ---- a file
  module _ (i : ℕ) (p : Bytes) where
    abbrev f : FileDescriptor
    f = decode_file p

    abbrev scope : Bytes
    scope = package_scope f.package_name

    empty_file : f.messages ≡ done → file_meets rs room set messages t i p ≡ file_members_meet rs f
    unfolding file_meets messages_meet meet_of file_members_meet any_message decode_file decode_messages
    empty_file e = rw (no_parts 15 (parts 4 (entries p)) e) refl

    within_file : length scope ≤ max_scope → Described rs set messages t scope i f.messages → Every GoodMessage (preorder f.messages) → Every Few (preorder f.messages) → file_meets rs room set messages t i p ≡ file_members_meet rs f
    unfolding file_meets file_members_meet decode_file
    within_file l h good few = rw (take_all max_path scope (omega arith)) (messages_meet_are 16 scope i (parts 4 (entries p)) h good few)

    file_is : FileFits f → Described rs set messages t scope i f.messages → Every GoodMessage (preorder f.messages) → Every Few (preorder f.messages) → file_meets rs room set messages t i p ≡ file_members_meet rs f
    file_is fit h good few = ⊎_elim (λ e. empty_file e.0) (λ l. within_file l h good few) fit.scope

  behind_here : (i : ℕ) (p : Bytes) → Numbered (NodeSays set messages t) (package_scope (decode_file p).package_name) i (decode_file p).messages → behind messages (length (parts 4 (entries p))) i ≡ i + size (decode_file p).messages
  unfolding decode_file
  behind_here i p h = behind_is set messages t 15 (package_scope (decode_file p).package_name) i (parts 4 (entries p)) h

  -- ---- all files
  files_are : Says rs set messages t → (i : ℕ) (ps : List Bytes) → NumberedFiles (NodeSays set messages t) i (map decode_file ps) → Every FileFits (map decode_file ps) → Every WellFormed (map decode_file ps)
      → Every (λ (f : FileDescriptor). Every Few (preorder f.messages)) (map decode_file ps) → files_meet rs room set messages t i ps ≡ any (file_members_meet rs) (map decode_file ps)
  unfolding files_meet any
  files_are says i [] numbered fit good few = refl
  files_are says i (p ∷ ps) numbered fit good few =
      ap₂ ◌||◌
      (file_is i p fit.0
      (described rs set messages t says (package_scope (decode_file p).package_name) i (decode_file p).messages numbered.0 fit.0.messages good.0.messages) good.0.messages few.0)
      (ap (λ (k : ℕ). files_meet rs room set messages t k ps) (behind_here i p numbered.0) ∙ files_are says (i + size (decode_file p).messages) ps numbered.1 fit.1 good.1 few.1)

  -- the set: within the limits, without refusals 6 and 7
  pub set_meets_is : limit_passed set ≡ 0 → names (decode_set set) ≡ Ok tt → Says rs set messages t → set_meets rs room set messages t ≡ any (file_members_meet rs) (decode_set set)
  unfolding set_meets decode_set fields_in
  set_meets_is passed good says =
      files_are says 0 (parts 1 (entries set)) says.nodes (set_fits set passed) (every_file (decode_set set) good)
      (few_files (decode_set set) (few_of (messages_in (decode_set set)) (within set passed).fields))
