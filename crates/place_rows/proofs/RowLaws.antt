-- The rows of a message, where it is left out and where it has a module; and one level of messages. Assumes nothing.
use Rattle.std.specs.Prelude.{◌≡◌, refl, ℕ, zero, suc, ◌+◌, ◌-◌, Bool, true, false, not, List, eqb}
use Rattle.std.proofs.Common.{sym, ap, ◌∙◌, add-one, append-nil}
use native.Mathlib.Numerals.{sub-one}
use Rattle.writer.specs.declared.text.Text.{Text}
use Rattle.writer.specs.Writing.{◌▻◌}
use Rattle.writer.proofs.TextLaws.{put-nothing, appended}
use Rattle.ident.specs.Ident.{to_snake, to_upper_camel}
use Rattle.descriptor.specs.Descriptor.{Bytes}
use Rattle.descriptor.specs.Decode.{entries, parts}
use Rattle.options.specs.Settings.{Setting}
use Rattle.extern_paths.specs.ExternPaths.{taken}
use Rattle.walks.specs.Walked.{walked}
use Rattle.joined.specs.Joined.{◌⊙◌}
use Rattle.text_tables.specs.declared.MessageRow.{MessageRow}
use Rattle.text_tables.specs.declared.FieldRow.{FieldRow}
use Rattle.members.specs.Members.{name_in}
use Rattle.message_text.specs.MessageText.{is_entry, module_for}
use Rattle.name_rows.specs.Rows.{row}
use Rattle.place_rows.specs.PlaceRows.{enum_rows, oneof_rows, module_rows, message_rows, number_after, messages_rows}

module _ (rs : List Setting) (messages : List MessageRow) (t : List FieldRow) where
  -- one level of messages
  pub level : (left : ℕ) (scope : Bytes) (i : ℕ) (ps : List Bytes) → (left ≡ 0 → ⊥)
      → walked (message_rows rs messages t (messages_rows rs messages t (left - 1)) scope (not (eqb (left - 1) 0))) (number_after rs messages t) i ps
      ≡ messages_rows rs messages t left scope i ps
  unfolding messages_rows
  level zero scope i ps ne = absurd (ne refl)
  level (suc k) scope i ps ne = rw sub-one

  module _ (text : Text) (left : ℕ) (scope full : Bytes) (deeper : Bool) (i : ℕ) (p name : Bytes) (own : name ≡ name_in p) where
    -- the module, piece by piece
    pub rows_of_module : (t₁ t₂ t₃ t₄ : Text) → t₁ ≡ text ▻ row scope (to_snake name) → t₂ ≡ t₁ ▻ messages_rows rs messages t left full (i + 1) (parts 3 (entries p))
        → t₃ ≡ t₂ ▻ enum_rows rs full (parts 4 (entries p)) → t₄ ≡ t₃ ▻ oneof_rows messages t full deeper i p
        → t₄ ≡ text ▻ module_rows rs messages t (messages_rows rs messages t left) scope full deeper i p
    unfolding module_rows
    rows_of_module t₁ t₂ t₃ t₄ opened nested enums oneofs =
        appended text t₃ t₄ _ _
        (appended text t₂ t₃ _ _
        (appended text t₁ t₂ _ _ (opened ∙ ap (λ (x : Bytes). text ▻ row scope (to_snake x)) own) (nested ∙ ap (λ (k : ℕ). t₁ ▻ messages_rows rs messages t left full k (parts 3 (entries p))) (add-one i)))
        enums)
        oneofs

  -- the message: u, is it a map entry; v, is it taken; m, has it a module?
  module _ (text : Text) (left : ℕ) (scope : Bytes) (deeper : Bool) (i : ℕ) (p : Bytes) (u : Bool) (eu : u ≡ is_entry p) where
    pub rows_of_entry : u ≡ true → text ≡ text ▻ message_rows rs messages t (messages_rows rs messages t left) scope deeper i p
    unfolding message_rows
    rows_of_entry h = rw (← eu, h) (sym (put-nothing text))

    module _ (h : u ≡ false) (name : Bytes) (own : name ≡ name_in p) (v : Bool) (ev : v ≡ taken rs (scope ⊙ name)) where
      pub rows_of_taken : v ≡ true → text ≡ text ▻ message_rows rs messages t (messages_rows rs messages t left) scope deeper i p
      unfolding message_rows
      rows_of_taken k = rw (← eu, h, ← own, ← ev, k) (sym (put-nothing text))

      module _ (k : v ≡ false) (t₁ : Text) (w : t₁ ≡ text ▻ row scope (to_upper_camel name)) (m : Bool) (em : m ≡ module_for messages t deeper i p) where
        pub rows_of_struct : m ≡ false → t₁ ≡ text ▻ message_rows rs messages t (messages_rows rs messages t left) scope deeper i p
        unfolding message_rows
        rows_of_struct none = rw (← eu, h, ← own, ← ev, k, ← em, none) (w ∙ ap (λ (l : Bytes). text ▻ l) (sym (append-nil _)))

        pub rows_with_module : m ≡ true → (t₂ : Text) → t₂ ≡ t₁ ▻ module_rows rs messages t (messages_rows rs messages t left) scope (scope ⊙ name) deeper i p
            → t₂ ≡ text ▻ message_rows rs messages t (messages_rows rs messages t left) scope deeper i p
        unfolding message_rows
        rows_with_module there t₂ x = rw (← eu, h, ← own, ← ev, k, ← em, there) (appended text t₁ t₂ _ _ w x)
