-- Messages whose names meet, one message on. Assumes nothing.
use Rattle.std.specs.Prelude.{◌≡◌, refl, ℕ, zero, suc, ◌+◌, ◌-◌, Bool, true, false, List, [], ◌∷◌, length, take}
use Rattle.std.proofs.Common.{sym, ap, ◌∙◌, add-one}
use native.Mathlib.Numerals.{sub-one}
use Rattle.base.specs.Choose.{choose}
use Rattle.descriptor.specs.Descriptor.{Bytes}
use Rattle.descriptor.specs.Decode.{entries, parts, decode_message, decode_file}
use Rattle.options.specs.Settings.{Setting}
use Rattle.extern_paths.specs.ExternPaths.{taken}
use Rattle.name_rules.specs.FullNames.{package_scope}
use Rattle.joined.specs.Joined.{max_path, ◌⊙◌}
use Rattle.text_tables.specs.Rows.{message_row}
use Rattle.text_tables.specs.declared.MessageRow.{MessageRow}
use Rattle.text_tables.specs.declared.FieldRow.{FieldRow}
use Rattle.members.specs.Members.{name_in}
use Rattle.file_parts.specs.FileParts.{behind}
use Rattle.member_rows.specs.MemberRows.{own_meet, message_meets, meet_of, messages_meet, file_meets, files_meet}

module _ (rs : List Setting) (room : ℕ) (set : List ℕ) (messages : List MessageRow) (t : List FieldRow) where
  -- ---- with those nested in it
  module _ (left : ℕ) (scope : Bytes) (i : ℕ) (p : Bytes) (u : Bool) (eu : u ≡ (decode_message p).map_entry) where
    abbrev whole : Bool
    whole = message_meets rs room set messages t (messages_meet rs room set messages t left) scope i p

    pub meets_entry : u ≡ true → false ≡ whole
    unfolding message_meets choose
    meets_entry h = rw (← eu, h)

    module _ (h : u ≡ false) (name : Bytes) (en : name ≡ name_in p) (v : Bool) (ev : v ≡ taken rs (scope ⊙ name)) where
      pub meets_taken : v ≡ true → false ≡ whole
      unfolding message_meets choose
      meets_taken k = rw (← eu, h, ← en, ← ev, k)

      module _ (k : v ≡ false) (own : Bool) (eo : own ≡ own_meet room set messages t i p) where
        pub meets_own : own ≡ true → own ≡ whole
        unfolding message_meets choose
        meets_own q = rw (← eu, h, ← en, ← ev, k, ← eo, q)

        pub meets_nested : own ≡ false → (now : ℕ) → now ≡ room → (z : Bool) → z ≡ messages_meet rs now set messages t left (scope ⊙ name) (i + 1) (parts 3 (entries p)) → z ≡ whole
        unfolding message_meets choose
        meets_nested q now er z ez = rw (← eu, h, ← en, ← ev, k, ← eo, q, ← er, ← add-one) ez

  -- one level of messages
  level : (left : ℕ) (scope : Bytes) (i : ℕ) (ps : List Bytes) → (left ≡ 0 → ⊥)
      → meet_of rs room set messages t (messages_meet rs room set messages t (left - 1)) scope i ps ≡ messages_meet rs room set messages t left scope i ps
  unfolding messages_meet
  level zero scope i ps ne = absurd (ne refl)
  level (suc k) scope i ps ne = rw sub-one

  -- ---- messages, of which none did so far
  module _ (left : ℕ) (scope : Bytes) where
    -- do those in a scope, of which each may nest one level less?
    abbrev pub ahead : ℕ → List Bytes → Bool
    ahead i ps = meet_of rs room set messages t (messages_meet rs room set messages t (left - 1)) scope i ps

    pub ahead_all : (i : ℕ) (ps : List Bytes) → (left ≡ 0 → ⊥) → ahead i ps ≡ messages_meet rs room set messages t left scope i ps
    ahead_all i ps ne = level left scope i ps ne

    pub ahead_none : (i : ℕ) → false ≡ ahead i []
    unfolding meet_of
    ahead_none i = refl

    module _ (i : ℕ) (p : Bytes) (ps : List Bytes) (now : ℕ) (en : now ≡ room) (own : Bool)
        (eo : own ≡ message_meets rs now set messages t (messages_meet rs now set messages t (left - 1)) scope i p) where
      here : message_meets rs room set messages t (messages_meet rs room set messages t (left - 1)) scope i p ≡ own
      here = sym (eo ∙ ap (λ (k : ℕ). message_meets rs k set messages t (messages_meet rs k set messages t (left - 1)) scope i p) en)

      pub ahead_hit : own ≡ true → true ≡ ahead i (p ∷ ps)
      unfolding meet_of
      ahead_hit h = rw (here, h)

      pub ahead_miss : own ≡ false → ahead (message_row messages i).after ps ≡ ahead i (p ∷ ps)
      unfolding meet_of
      ahead_miss h = rw (here, h)

  -- ---- a file
  pub file_here : (i : ℕ) (p scope : Bytes) → scope ≡ take max_path (package_scope (decode_file p).package_name) → (z : Bool) → z ≡ messages_meet rs room set messages t 16 scope i (parts 4 (entries p)) → z ≡ file_meets rs room set messages t i p
  unfolding file_meets
  file_here i p scope es z ez = rw (← es) ez

  -- ---- files, of which none did so far: the first message of the next has the number i
  pub files_none : (i : ℕ) → false ≡ files_meet rs room set messages t i []
  unfolding files_meet
  files_none i = refl

  module _ (i : ℕ) (p : Bytes) (ps : List Bytes) (now : ℕ) (en : now ≡ room) (own : Bool) (eo : own ≡ file_meets rs now set messages t i p) where
    file_own : file_meets rs room set messages t i p ≡ own
    file_own = sym (eo ∙ ap (λ (k : ℕ). file_meets rs k set messages t i p) en)

    pub files_hit : own ≡ true → true ≡ files_meet rs room set messages t i (p ∷ ps)
    unfolding files_meet
    files_hit h = rw (file_own, h)

    pub files_miss : own ≡ false → files_meet rs room set messages t (behind messages (length (parts 4 (entries p))) i) ps ≡ files_meet rs room set messages t i (p ∷ ps)
    unfolding files_meet
    files_miss h = rw (file_own, h)
