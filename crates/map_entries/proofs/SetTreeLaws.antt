-- The messages of a set's table are those of its files in turn. Assumes nothing.
use mathlib.Core.Path.{◌≡◌, refl, sym, ap, ◌∙◌}
use mathlib.Core.Bool.{Bool, true, false}
use Rattle.std.specs.Option.{is_some}
use mathlib.Core.List.{List, [], ◌∷◌, ◌++◌, map, append-nil, append_assoc}
use mathlib.Core.Option.{some, none}
use Prim.Native.Nat.{ℕ, ◌+◌, ◌≤◌}
use native.Mathlib.Numerals.{add-one}
use native.Mathlib.Omega.{arith}
use lib.ListN.{length}
use Rattle.base.specs.Choose.{choose, choose_case}
use Rattle.base.specs.Tests.{both_ways}
use Rattle.descriptor.specs.Descriptor.{Bytes, FileDescriptor}
use Rattle.descriptor.specs.Decode.{parts, decode_messages, decode_file, decode_set}
use Rattle.descriptor.specs.Decode as decode
use Rattle.declarations.specs.declared.places.Place.{Place}
use Rattle.name_rules.specs.FullNames.{◌·◌, package_scope}
use Rattle.descriptor.proofs.PartLaws.{whole_part}
use Rattle.declarations.specs.Rows.{lies, State, kind_number, bytes_at, room, push, places, package_of, package_row, declare_messages, declare_members, declare_file, declare_files, declared, no_rows}
use Rattle.declarations.specs.Listed.{name_of, full, file_entries}
use Rattle.declarations.specs.declared.Declaration.{Declaration as Row}
use Rattle.declarations.proofs.FullLaws.{full_none}
use Rattle.declarations.proofs.PartLaws.{places_are, package_is}
use Rattle.map_entries.proofs.KeptLaws.{Kept, kept_none, kept_push, room_before, enums_kept, messages_kept, kept_more}
use Rattle.map_entries.proofs.ShownLaws.{Shown, code_kind, shown, shown_messages, all_shown, new_full, new_kind, new_shown, none_shown}
use Rattle.map_entries.proofs.TreeLaws.{Grew, enums_shown, enums_messages, messages_shown}

unfoldable pub shown_files : ℕ → ℕ → List FileDescriptor → List Shown
shown_files file m [] = []
shown_files file m (f ∷ fs) = shown_messages file m 0 (package_scope f.package_name) f.messages ++ shown_files (file + 1) (m + length (file_entries f)) fs

module _ (bytes : Bytes) (file : ℕ) (p : Place) where
  abbrev f : FileDescriptor
  f = decode_file (bytes_at bytes p)

  abbrev scope : Bytes
  scope = package_scope f.package_name

  its_messages : decode_messages 16 (map (bytes_at bytes) (places bytes 4 p)) ≡ f.messages
  unfolding decode_file
  its_messages = ap (decode_messages 16) (places_are bytes 4 p)

  members_kept : (up : ℕ) (x : State) → Kept x (declare_members bytes file up p x)
  unfolding declare_members
  members_kept up x =
      let y : State = declare_messages bytes file 16 up (places bytes 4 p) x in
      kept_more x y _ (messages_kept bytes file 16 up (places bytes 4 p) x) (enums_kept bytes file up (places bytes 5 p) y)

  pub file_kept : (x : State) → Kept x (declare_file bytes file p x)
  unfolding declare_file
  file_kept x =
      choose_case (Kept x) (is_some (package_of bytes p))
      (λ _. choose_case (Kept x) (room x)
      (λ _. kept_more x (push (package_row bytes file p) x) _ (kept_push x (package_row bytes file p) x.messages) (members_kept (x.rows + 1) (push (package_row bytes file p) x)))
      (λ _. kept_none x))
      (λ _. members_kept 0 x)

  abbrev FileGrew : State → State → Type 0
  FileGrew x y = Grew bytes x y (shown_messages file x.messages 0 scope f.messages) (length (file_entries f))

  members_shown : (up : ℕ) (x : State) → full bytes x.table up ≡ scope → code_kind x.table up ≡ 0 → up ≤ x.rows → room (declare_members bytes file up p x) ≡ true → FileGrew x (declare_members bytes file up p x)
  unfolding declare_members
  members_shown up x e k h last =
      let y : State = declare_messages bytes file 16 up (places bytes 4 p) x in
      let rows = (messages_kept bytes file 16 up (places bytes 4 p) x).rows in
      let g : FileGrew x y = rw its_messages at (messages_shown bytes file 16 up (places bytes 4 p) scope 0 x e k h (room_before y _ (enums_kept bytes file up (places bytes 5 p) y) last)) in
      record { shows = enums_shown bytes file up (places bytes 5 p) y (omega arith) ∙ g.shows; count = enums_messages bytes file up (places bytes 5 p) y ∙ g.count }

  package_scoped : (b : Bool) → (is_some (package_of bytes p)) ≡ b → scope ≡ package_scope (choose b (some (bytes_at bytes (lies (package_of bytes p)))) none)
  package_scoped b e = ap package_scope (sym (package_is bytes p)) ∙ rw e

  no_package : (x : State) → (is_some (package_of bytes p)) ≡ false → room (declare_members bytes file 0 p x) ≡ true → FileGrew x (declare_members bytes file 0 p x)
  unfolding code_kind choose
  no_package x given last = members_shown 0 x (full_none bytes x.table ∙ sym (package_scoped false given)) refl (omega arith) last

  in_package : (x : State) → (is_some (package_of bytes p)) ≡ true → room x ≡ true → room (declare_members bytes file (x.rows + 1) p (push (package_row bytes file p) x)) ≡ true
      → FileGrew x (declare_members bytes file (x.rows + 1) p (push (package_row bytes file p) x))
  unfolding package_row kind_number choose
  in_package x given free last =
      let r : Row = package_row bytes file p in
      let x₁ : State = push r x in
      let full₁ : full bytes x₁.table (x.rows + 1) ≡ scope =
      rw add-one (new_full bytes x r (omega arith) free x.messages) ∙ ap (λ (q : Bytes). q · name_of bytes r) (full_none bytes x.table) ∙ sym (package_scoped true given) in
      let kind₁ : code_kind x₁.table (x.rows + 1) ≡ 0 = rw add-one (new_kind bytes x r (omega arith) free x.messages) in
      let g = members_shown (x.rows + 1) x₁ full₁ kind₁ (omega arith) last in
      let one : all_shown bytes x₁ ≡ all_shown bytes x =
      new_shown bytes x r (omega arith) free x.messages
      ∙ ap (λ (ss : List Shown). all_shown bytes x ++ ss) (none_shown bytes (full bytes x.table 0 · name_of bytes r) (code_kind x.table 0) r (omega arith)) ∙ append-nil (all_shown bytes x) in
      record { shows = g.shows ∙ ap (λ (ss : List Shown). ss ++ shown_messages file x.messages 0 scope f.messages) one; count = g.count }

  pub file_shown : (x : State) → room (declare_file bytes file p x) ≡ true → FileGrew x (declare_file bytes file p x)
  unfolding declare_file choose
  file_shown x last = by (is_some (package_of bytes p)) (room x) refl refl last
    where
      in_file : Bool → Bool → State
      in_file b c = choose b (choose c (declare_members bytes file (x.rows + 1) p (push (package_row bytes file p) x)) x) (declare_members bytes file 0 p x)

      by : (b c : Bool) → (is_some (package_of bytes p)) ≡ b → room x ≡ c → room (in_file b c) ≡ true → FileGrew x (in_file b c)
      by false c given e l = no_package x given l
      by true true given e l = in_package x given e l
      by true false given e l = both_ways l e

module _ (bytes : Bytes) where
  abbrev files_of : List Place → List FileDescriptor
  files_of ps = map decode_file (map (bytes_at bytes) ps)

  files_kept : (file : ℕ) (ps : List Place) (x : State) → Kept x (declare_files bytes file ps x)
  unfolding declare_files
  files_kept file [] x = kept_none x
  files_kept file (p ∷ ps) x = kept_more x (declare_file bytes file p x) _ (file_kept bytes file p x) (files_kept (file + 1) ps (declare_file bytes file p x))

  files_shown : (file : ℕ) (ps : List Place) (x : State) → room (declare_files bytes file ps x) ≡ true
      → all_shown bytes (declare_files bytes file ps x) ≡ all_shown bytes x ++ shown_files file x.messages (files_of ps)
  unfolding declare_files shown_files
  files_shown file [] x last = sym (append-nil (all_shown bytes x))
  files_shown file (p ∷ ps) x last =
      let y : State = declare_file bytes file p x in
      let g = file_shown bytes file p x (room_before y _ (files_kept (file + 1) ps y) last) in
      let d : FileDescriptor = decode_file (bytes_at bytes p) in
      let after : List Shown = shown_files (file + 1) (x.messages + length (file_entries d)) (files_of ps) in
      files_shown (file + 1) ps y last ∙ ap (λ (m : ℕ). all_shown bytes y ++ shown_files (file + 1) m (files_of ps)) g.count
      ∙ ap (λ (ss : List Shown). ss ++ after) g.shows
      ∙ append_assoc (all_shown bytes x) (shown_messages file x.messages 0 (package_scope d.package_name) d.messages) after

  set_files : files_of (places bytes 1 (record { start = 0; end = length bytes })) ≡ decode_set bytes
  unfolding decode_set
  set_files = ap (map decode_file) (places_are bytes 1 (record { start = 0; end = length bytes }) ∙ ap (λ (s : Bytes). parts 1 (decode.entries s)) (whole_part bytes))

  -- a table that is not full shows the messages of the set
  pub set_shown : (t : List Row) → room (declared bytes t) ≡ true → all_shown bytes (declared bytes t) ≡ shown_files 0 0 (decode_set bytes)
  unfolding declared shown
  set_shown t last = files_shown 0 (places bytes 1 (record { start = 0; end = length bytes })) (no_rows t) last ∙ ap (shown_files 0 0) set_files
