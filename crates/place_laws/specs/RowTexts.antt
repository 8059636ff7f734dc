-- The rows by the tables are those of the places that the name check compares. Assumes nothing.
use Prim.Native.Nat.{ℕ, zero, suc, ◌+◌, ◌≤◌}
use Rattle.std.specs.Prelude.{◌≡◌, Bool, true, false, ◌||◌, not, eqb, length, take}
use Rattle.std.proofs.Math.Path.{refl, sym, ap₂}
use Rattle.std.proofs.Common.{ap, ◌∙◌, ⊎_elim, arith, take_all}
use mathlib.Core.List.{List, [], ◌∷◌, ◌++◌, map, append_assoc, append-nil}
use Rattle.base.specs.Choose.{choose}
use Rattle.base.specs.Lists.{is_empty, all_of, Every, all_of_append}
use Rattle.writer.specs.Text.{pick}
use Rattle.ident.specs.Ident.{to_snake, to_upper_camel}
use Rattle.descriptor.specs.Descriptor.{Bytes, Forest, done, MessageDescriptor, FileDescriptor}
use Rattle.descriptor.specs.Decode.{entries, parts, decode_oneof, decode_enum, decode_message, decode_messages, decode_file}
use Rattle.index.specs.Tree.{size}
use Rattle.options.specs.Settings.{Setting}
use Rattle.extern_paths.specs.ExternPaths.{taken}
use Rattle.name_rules.specs.Accessors.{text}
use Rattle.name_rules.specs.FullNames.{◌·◌, package_scope}
use Rattle.name_rules.specs.WellFormed.{WellFormed}
use Rattle.walks.specs.Walked.{walked}
use Rattle.joined.specs.Joined.{max_path}
use Rattle.path_fits.specs.PathsFit.{max_scope, EnumFits, OneofFits, MessageFits, FileFits}
use Rattle.text_tables.specs.Rows.{message_row, is_in}
use Rattle.text_tables.specs.declared.MessageRow.{MessageRow}
use Rattle.text_tables.specs.declared.FieldRow.{FieldRow}
use Rattle.members.specs.Members.{name_in, members, cut_camel}
use Rattle.table_says.specs.Says.{Numbered, NumberedFiles, NodeSays, Says}
use Rattle.code_generator.specs.Piece.{spelt}
use Rattle.code_generator.specs.Oneofs.{fields_at, OneofField, oneof_fields, type_name}
use Rattle.code_generator.specs.Generate.{has_module}
use Rattle.text_laws.specs.Pairwise.{pairwise_empty}
use Rattle.text_laws.specs.Described.{MessageIs, Described}
use Rattle.text_laws.proofs.MemberLaws.{oneof_members}
use Rattle.text_laws.proofs.NestedLaws.{Siblings, siblings_fit, conflict_is, module_is}
use Rattle.text_laws.proofs.OneofLaws.{oneof_at, walked_is}
use Rattle.text_laws.proofs.FileLaws.{no_parts, none_mapped}
use Rattle.text_laws.proofs.SaysLaws.{described}
use Rattle.call_laws.specs.CallLaws.{behind_is}
use Rattle.name_check.specs.NameCheck.{Place, oneof_places, enum_places, message_places, file_places}
use Rattle.name_rows.specs.Rows.{place_row, rows_of}
use Rattle.place_rows.specs.PlaceRows.{enum_row, enum_rows, oneof_row, oneof_rows, Inner, module_rows, message_rows, messages_rows, file_rows, behind_file}

-- ---- lists of places
rows_append : (ps qs : List Place) → rows_of (ps ++ qs) ≡ rows_of ps ++ rows_of qs
rows_append ps qs = all_of_append place_row ps qs

one_place : (out : Bool) (p : Place) → pick out [] (place_row p) ≡ rows_of (choose out [] (p ∷ []))
unfolding choose all_of
one_place true p = refl
one_place false p = sym (append-nil (place_row p))

-- what is written of a message: its struct, and its module with all in it
whole_message : (out module_too : Bool) (p q : Place) (xs ys zs : List Place)
    → pick out [] (place_row p ++ pick module_too (place_row q ++ rows_of xs ++ rows_of ys ++ rows_of zs) []) ≡ rows_of (choose out [] (p ∷ choose module_too (q ∷ (xs ++ (ys ++ zs))) []))
unfolding choose all_of
whole_message true module_too p q xs ys zs = refl
whole_message false false p q xs ys zs = refl
whole_message false true p q xs ys zs =
    ap (λ (l : Bytes). place_row p ++ l)
    (append_assoc (place_row q ++ rows_of xs) (rows_of ys) (rows_of zs)
    ∙ append_assoc (place_row q) (rows_of xs) (rows_of ys ++ rows_of zs)
    ∙ ap (λ (l : Bytes). place_row q ++ l)
    (sym (rows_append xs (ys ++ zs) ∙ ap (λ (l : Bytes). rows_of xs ++ l) (rows_append ys zs))))

-- ---- enums
module _ (rs : List Setting) (home : Bytes) where
  -- at most one
  abbrev one_enum : Bytes → List Place
  one_enum q = choose (taken rs (home · name_in q)) [] (record { home = home; name = to_upper_camel (name_in q) } ∷ [])

  enum_is : (q : Bytes) → EnumFits home (decode_enum q) → enum_row rs home 0 q ≡ rows_of (one_enum q)
  unfolding enum_row decode_enum decode_oneof
  enum_is q h = rw h.own.whole (one_place (taken rs (home · name_in q)) (record { home = home; name = to_upper_camel (name_in q) }))

  pub enum_rows_are : (qs : List Bytes) → Every (EnumFits home) (map decode_enum qs) → enum_rows rs home qs ≡ rows_of (enum_places rs home (map decode_enum qs))
  unfolding enum_rows walked enum_places all_of decode_enum decode_oneof
  enum_rows_are [] h = refl
  enum_rows_are (q ∷ qs) h = ap₂ ◌++◌ (enum_is q h.0) (enum_rows_are qs h.1) ∙ sym (rows_append (one_enum q) (enum_places rs home (map decode_enum qs)))

-- the places of a message, and of all inside it
abbrev one_message : List Setting → Bytes → MessageDescriptor → Forest MessageDescriptor → List Place
one_message rs scope m nested =
    choose (m.map_entry || taken rs (scope · text m.name)) []
    (record { home = scope; name = to_upper_camel (text m.name) }
    ∷ choose (has_module m nested)
    (record { home = scope; name = to_snake (text m.name) }
    ∷ (message_places rs (scope · text m.name) nested
    ++ (enum_places rs (scope · text m.name) m.enums ++ oneof_places (scope · text m.name) (oneof_fields m nested)))) [])

-- ---- message i, whose part p is, with so many levels below it
module _ (rs : List Setting) (set : List ℕ) (messages : List MessageRow) (t : List FieldRow) (scope : Bytes) (left i : ℕ) (p : Bytes) (fit : MessageFits scope (decode_message p))
    (s : Siblings (MessageFits (scope · text (decode_message p).name)) (decode_messages left (parts 3 (entries p))))
    (has : MessageIs rs set messages t (scope · text (decode_message p).name) (decode_message p) (decode_messages left (parts 3 (entries p))) i) where
  abbrev full : Bytes
  full = scope · text (decode_message p).name

  abbrev m : MessageDescriptor
  m = decode_message p

  abbrev nested : Forest MessageDescriptor
  nested = decode_messages left (parts 3 (entries p))

  abbrev deeper : Bool
  deeper = not (eqb left 0)

  -- its oneofs
  members_empty : (x : ℕ) → is_empty (members (is_in x) messages t i p) ≡ is_empty (fields_at x m.fields)
  members_empty x = pairwise_empty (oneof_members t (λ k f v. v.oneof) messages i p has.fields x)

  abbrev oneof_place : OneofField → Place
  oneof_place x = record { home = full; name = spelt (type_name x) }

  oneof_is : (x : ℕ) (q : Bytes) → OneofFits full m (decode_oneof q)
      → oneof_row messages t full deeper i p x q ≡ pick (is_empty (fields_at x m.fields)) [] (place_row (oneof_place (oneof_at m nested x (decode_oneof q))))
  unfolding oneof_row cut_camel
  oneof_is x q h = rw (conflict_is (name_in q) h.own.camel scope left p fit s, members_empty x)

  oneof_rows_are : oneof_rows messages t full deeper i p ≡ rows_of (oneof_places full (oneof_fields m nested))
  unfolding oneof_rows all_of decode_message
  oneof_rows_are =
      walked_is m nested (λ l. rows_of (oneof_places full l)) (λ r. place_row (oneof_place r)) refl (λ r rest. refl) (oneof_row messages t full deeper i p)
      (OneofFits full m) oneof_is 0 (parts 8 (entries p)) fit.oneofs

  -- all of it
  message_is : (inner : Inner rs messages t) → inner full (suc i) (parts 3 (entries p)) ≡ rows_of (message_places rs full nested)
      → message_rows rs messages t inner scope deeper i p ≡ rows_of (one_message rs scope m nested)
  unfolding message_rows module_rows decode_message decode_oneof
  message_is inner inside =
      rw (fit.own.whole, module_is rs set messages t full left i p s has, inside, enum_rows_are rs full (parts 4 (entries p)) fit.enums, oneof_rows_are)
      (whole_message (m.map_entry || taken rs full) (has_module m nested) _ _ (message_places rs full nested) (enum_places rs full m.enums) (oneof_places full (oneof_fields m nested)))

module _ (rs : List Setting) (set : List ℕ) (messages : List MessageRow) (t : List FieldRow) where
  messages_rows_are : (left : ℕ) (scope : Bytes) (i : ℕ) (ps : List Bytes) → Described rs set messages t scope i (decode_messages left ps)
      → messages_rows rs messages t left scope i ps ≡ rows_of (message_places rs scope (decode_messages left ps))
  unfolding messages_rows walked message_places all_of decode_messages
  messages_rows_are zero scope i ps h = refl
  messages_rows_are (suc left) scope i [] h = refl
  messages_rows_are (suc left) scope i (p ∷ ps) h =
      let full = scope · text (decode_message p).name in
      let nested = decode_messages left (parts 3 (entries p)) in
      ap₂ ◌++◌
      (message_is rs set messages t scope left i p h.0.0 (siblings_fit rs set messages t full (suc i) nested h.1.0) h.0.1 (messages_rows rs messages t left)
      (messages_rows_are left full (suc i) (parts 3 (entries p)) h.1.0))
      (messages_rows_are (suc left) scope (message_row messages i).after ps h.1.1)
      ∙ sym (rows_append (one_message rs scope (decode_message p) nested) (message_places rs scope (decode_messages (suc left) ps)))

  -- ---- a file
  module _ (i : ℕ) (p : Bytes) where
    abbrev f : FileDescriptor
    f = decode_file p

    abbrev home : Bytes
    home = package_scope f.package_name

    -- that declares nothing
    module _ (no_messages : f.messages ≡ done) (no_enums : f.enums ≡ []) where
      message_parts : parts 4 (entries p) ≡ []
      unfolding decode_file
      message_parts = no_parts 15 (parts 4 (entries p)) no_messages

      enum_parts : parts 5 (entries p) ≡ []
      unfolding decode_file
      enum_parts = none_mapped decode_enum (parts 5 (entries p)) no_enums

      empty_rows : file_rows rs messages t i p ≡ rows_of (file_places rs f)
      unfolding file_rows messages_rows walked enum_rows file_places message_places enum_places all_of decode_file decode_messages
      empty_rows = rw (message_parts, enum_parts)

    -- any other
    module _ (room : length home ≤ max_scope) (enums : Every (EnumFits home) f.enums) (said : Described rs set messages t home i f.messages) where
      whole : take max_path home ≡ home
      whole = take_all max_path home (omega arith)

      within_rows : file_rows rs messages t i p ≡ rows_of (file_places rs f)
      unfolding file_rows file_places decode_file
      within_rows =
          rw (whole, messages_rows_are 16 home i (parts 4 (entries p)) said, enum_rows_are rs home (parts 5 (entries p)) enums)
          (sym (rows_append (message_places rs home f.messages) (enum_places rs home f.enums)))

    file_rows_are : FileFits f → Described rs set messages t home i f.messages → file_rows rs messages t i p ≡ rows_of (file_places rs f)
    file_rows_are fit h = ⊎_elim (λ e. empty_rows e.0 e.1) (λ room. within_rows room fit.enums h) fit.scope

  behind_here : (i : ℕ) (p : Bytes) → Numbered (NodeSays set messages t) (package_scope (decode_file p).package_name) i (decode_file p).messages
      → behind_file rs messages t i p ≡ i + size (decode_file p).messages
  unfolding decode_file
  behind_here i p h = behind_is set messages t 15 (package_scope (decode_file p).package_name) i (parts 4 (entries p)) h

  -- ---- all files, the first message of the first with the number i
  pub files_rows_are : Says rs set messages t → (i : ℕ) (ps : List Bytes) → NumberedFiles (NodeSays set messages t) i (map decode_file ps) → Every FileFits (map decode_file ps)
      → Every WellFormed (map decode_file ps)
      → walked (file_rows rs messages t) (behind_file rs messages t) i ps ≡ rows_of (all_of (file_places rs) (map decode_file ps))
  unfolding walked all_of
  files_rows_are says i [] numbered fit good = refl
  files_rows_are says i (p ∷ ps) numbered fit good =
      ap₂ ◌++◌
      (file_rows_are i p fit.0
      (described rs set messages t says (package_scope (decode_file p).package_name) i (decode_file p).messages numbered.0 fit.0.messages good.0.messages))
      (ap (λ (k : ℕ). walked (file_rows rs messages t) (behind_file rs messages t) k ps) (behind_here i p numbered.0)
      ∙ files_rows_are says (i + size (decode_file p).messages) ps numbered.1 fit.1 good.1)
      ∙ sym (rows_append (file_places rs (decode_file p)) (all_of (file_places rs) (map decode_file ps)))
