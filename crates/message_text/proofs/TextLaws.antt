-- The text of a message and of its module, piece by piece, and one level of messages. Assumes nothing.
use Rattle.std.proofs.Common.{◌≡◌, refl, sym, ap, ap₂, ◌∙◌, ℕ, zero, suc, ◌+◌, ◌-◌, ◌≤◌, min, Bool, true, false, not, eqb, List, [], ◌∷◌, ◌++◌, append-nil, length, take, arith, add-one, sub-one}
use Rattle.std.proofs.lemmas.List.{get_or_past}
use Rattle.std.proofs.Math.Decide.{dec_le}
use Rattle.writer.specs.declared.text.Text.{Text}
use Rattle.writer.specs.Text.{pick}
use Rattle.writer.specs.Draft.{draft, extended, Filled}
use Rattle.writer.specs.Writing.{◌▻◌}
use Rattle.writer.proofs.TextLaws.{extended-nil, appended, put-nothing}
use Rattle.descriptor.specs.Descriptor.{Bytes}
use Rattle.descriptor.specs.Decode.{entries, parts, decode_file}
use Rattle.syntax.specs.Syntax.{syntax_of}
use Rattle.name_rules.specs.FullNames.{package_scope}
use Rattle.options.specs.Settings.{Setting}
use Rattle.context.specs.Given.{Given}
use Rattle.text_tables.specs.Rows.{message_row, no_message}
use Rattle.text_tables.specs.declared.MessageRow.{MessageRow}
use Rattle.text_tables.specs.declared.FieldRow.{FieldRow}
use Rattle.extern_paths.specs.ExternPaths.{taken}
use Rattle.walks.specs.Walked.{walked}
use Rattle.joined.specs.Joined.{max_path, ◌⊙◌}
use Rattle.members.specs.Members.{name_in}
use Rattle.members.specs.Seen.{MessageSeen}
use Rattle.oneof_fields.specs.OneofFields.{oneof_field_part, oneof_field_texts}
use Rattle.struct_text.specs.StructText.{struct_head, struct_text}
use Rattle.enum_text.specs.EnumText.{enums_in, enum_texts}
use Rattle.oneof_text.specs.OneofText.{oneof_part, oneof_texts}
use Rattle.code_generator.specs.Attributes.{end}
use Rattle.code_generator.specs.Generate.{push_mod, is_proto3}
use Rattle.code_generator.specs.Writing.{◌⊳◌}
use Rattle.code_generator.proofs.WritingLaws.{written-flat}
use Rattle.message_text.specs.MessageText.{is_entry, module_for, module_text, message_text, number_after, message_texts, text_of_file}

-- nothing in a lent buffer
pub nothing_filled : {p : Bytes} (old : List ℕ) → [] ≡ p → Filled old p old 0
nothing_filled old e = record { is = extended-nil (draft old 0) ∙ ap (extended (draft old 0)) e }

-- ---- what is written where a test holds, behind what is written in any case
pub written_too : (t t₁ t₂ : Text) (p q : Bytes) {test : Bool} → test ≡ true → t₁ ≡ t ▻ p → t₂ ≡ t₁ ▻ q → t₂ ≡ t ▻ (p ++ pick test q [])
written_too t t₁ t₂ p q h e f = rw h (appended t t₁ t₂ p q e f)

pub written_alone : (t t₁ : Text) (p q : Bytes) {test : Bool} → test ≡ false → t₁ ≡ t ▻ p → t₁ ≡ t ▻ (p ++ pick test q [])
written_alone t t₁ p q h e = rw (h, append-nil) e

module _ (g : Given) (proto3 : Bool) where
  -- ---- levels of messages
  pub no_level : (u : Text) (left d : ℕ) (scope : Bytes) (i : ℕ) (ps : List Bytes) → left ≡ 0 → u ≡ u ▻ message_texts g.options g.set g.messages g.fields proto3 left d scope i ps
  unfolding message_texts
  no_level u left d scope i ps e = rw e (sym (put-nothing u))

  -- those with 15 levels in them stand at the depth 0
  pub one_level : (left : ℕ) (scope : Bytes) (i : ℕ) (ps : List Bytes) → (left ≡ 0 → ⊥)
      → walked (message_text g.options g.set g.messages g.fields proto3 (message_texts g.options g.set g.messages g.fields proto3 (left - 1)) (15 - (left - 1)) scope (not (eqb (left - 1) 0))) (number_after g.options g.set g.messages g.fields proto3) i ps
      ≡ message_texts g.options g.set g.messages g.fields proto3 left (16 - left) scope i ps
  unfolding message_texts
  one_level zero scope i ps ne = absurd (ne refl)
  one_level (suc k) scope i ps ne = let e : 16 - suc k ≡ 15 - k = omega arith in rw (sub-one, e)

  module _ (left : ℕ) where
    abbrev inner : ℕ → Bytes → ℕ → List Bytes → Bytes
    inner = message_texts g.options g.set g.messages g.fields proto3 left

    -- ---- the module of a message. g₁, m₁: the context and the message as the code has them
    pub module_written : (m : MessageSeen) (u u₁ u₂ u₃ u₄ u₅ : Text) {g₁ : Given} {m₁ : MessageSeen} {name : Bytes} {ps : List Bytes} → left ≤ 15 → g₁ ≡ g → m₁ ≡ m → name ≡ name_in m.part → ps ≡ parts 3 (entries m₁.part)
        → u₁ ≡ u ⊳ push_mod (15 - left) name
        → u₂ ≡ u₁ ▻ inner (16 - left) m₁.full (m₁.number + 1) ps
        → u₃ ≡ u₂ ▻ enum_texts g₁.options (16 - left) m₁.full (enums_in 4 m₁.part)
        → u₄ ≡ u₃ ▻ oneof_texts g.options g.set g.messages g.fields (16 - left) m.full m.nested m.number m.part
        → u₅ ≡ u₄ ⊳ end (15 - left)
        → u₅ ≡ u ▻ module_text g.options g.set g.messages g.fields proto3 inner (15 - left) m.full m.nested m.number m.part
    unfolding module_text
    module_written m u u₁ u₂ u₃ u₄ u₅ {g₁} {m₁} {name} {ps} h ge me ne pe opened nested enums oneofs closed =
        let deeper : 16 - left ≡ suc (15 - left) = omega arith in
        let opened₁ = opened ∙ ap (λ (x : Bytes). u ⊳ push_mod (15 - left) x) ne ∙ written-flat u (push_mod (15 - left) (name_in m.part)) in
        let nested₁ = nested ∙ ap (λ (l : List Bytes). u₁ ▻ inner (16 - left) m₁.full (m₁.number + 1) l) pe
        ∙ ap (λ (y : MessageSeen). u₁ ▻ inner (16 - left) y.full (y.number + 1) (parts 3 (entries y.part))) me
        ∙ ap (λ (k : ℕ). u₁ ▻ inner (16 - left) m.full k (parts 3 (entries m.part))) (add-one m.number)
        ∙ ap (λ (d : ℕ). u₁ ▻ inner d m.full (suc m.number) (parts 3 (entries m.part))) deeper in
        let enums₁ = enums ∙ ap (λ (y : Given). u₂ ▻ enum_texts y.options (16 - left) m₁.full (enums_in 4 m₁.part)) ge
        ∙ ap (λ (y : MessageSeen). u₂ ▻ enum_texts g.options (16 - left) y.full (enums_in 4 y.part)) me
        ∙ ap (λ (d : ℕ). u₂ ▻ enum_texts g.options d m.full (enums_in 4 m.part)) deeper in
        let oneofs₁ = oneofs ∙ ap (λ (d : ℕ). u₃ ▻ oneof_texts g.options g.set g.messages g.fields d m.full m.nested m.number m.part) deeper in
        appended u u₄ u₅ _ _ (appended u u₃ u₄ _ _ (appended u u₂ u₃ _ _ (appended u u₁ u₂ _ _ opened₁ nested₁) enums₁) oneofs₁) (closed ∙ written-flat u₄ (end (15 - left)))

    -- ---- a message
    module _ (d : ℕ) (scope : Bytes) (deeper : Bool) (i : ℕ) (p : Bytes) {entry : Bool} (is : entry ≡ is_entry p) where
      pub text_of_entry : entry ≡ true → [] ≡ message_text g.options g.set g.messages g.fields proto3 inner d scope deeper i p
      unfolding message_text
      text_of_entry h = rw (← is, h)

      module _ (h : entry ≡ false) {full : Bytes} (fe : full ≡ scope ⊙ name_in p) {other : Bool} (te : other ≡ taken g.options full) where
        pub text_of_taken : other ≡ true → [] ≡ message_text g.options g.set g.messages g.fields proto3 inner d scope deeper i p
        unfolding message_text
        text_of_taken k = rw (← is, h, ← fe, ← te, k)

        pub text_written : other ≡ false → {there : Bool} → there ≡ module_for g.messages g.fields deeper i p
            → struct_text g.options g.set g.messages g.fields proto3 d scope full deeper i p ++ pick there (module_text g.options g.set g.messages g.fields proto3 inner d full deeper i p) []
            ≡ message_text g.options g.set g.messages g.fields proto3 inner d scope deeper i p
        unfolding message_text
        text_written k e = rw (← is, h, ← fe, ← te, k, ← e)

-- ---- a message's text by its row alone
walked_same : (g h : ℕ → Bytes → Bytes) (next : ℕ → Bytes → ℕ) → ((x : ℕ) (q : Bytes) → g x q ≡ h x q) → (x : ℕ) (ps : List Bytes) → walked g next x ps ≡ walked h next x ps
unfolding walked
walked_same g h next e x [] = refl
walked_same g h next e x (p ∷ ps) = ap₂ ◌++◌ (e x p) (walked_same g h next e (next x p) ps)

module _ (rs : List Setting) (set : List ℕ) (messages : List MessageRow) (t : List FieldRow) (proto3 : Bool) where
  module _ (i j : ℕ) (e : message_row messages i ≡ message_row messages j) (deeper : Bool) (p : Bytes) where
    field_same : (d : ℕ) (full : Bytes) (x : ℕ) (q : Bytes) → oneof_field_part rs set messages t d full deeper i p x q ≡ oneof_field_part rs set messages t d full deeper j p x q
    unfolding oneof_field_part
    field_same d full x q = rw e

    struct_same : (d : ℕ) (scope full : Bytes) → struct_text rs set messages t proto3 d scope full deeper i p ≡ struct_text rs set messages t proto3 d scope full deeper j p
    unfolding struct_text struct_head oneof_field_texts
    struct_same d scope full = rw (walked_same _ _ _ (field_same (suc d) full) 0 (parts 8 (entries p)), e)

    enum_same : (d : ℕ) (full : Bytes) (x : ℕ) (q : Bytes) → oneof_part rs set messages t d full deeper i p x q ≡ oneof_part rs set messages t d full deeper j p x q
    unfolding oneof_part
    enum_same d full x q = rw e

    there_same : module_for messages t deeper i p ≡ module_for messages t deeper j p
    unfolding module_for
    there_same = rw e

    module _ (left : ℕ) (nested : (d : ℕ) (scope : Bytes) (ps : List Bytes) → message_texts rs set messages t proto3 left d scope (suc i) ps ≡ message_texts rs set messages t proto3 left d scope (suc j) ps) where
      module_same : (d : ℕ) (full : Bytes) → module_text rs set messages t proto3 (message_texts rs set messages t proto3 left) d full deeper i p ≡ module_text rs set messages t proto3 (message_texts rs set messages t proto3 left) d full deeper j p
      unfolding module_text oneof_texts
      module_same d full = rw (nested (suc d) full (parts 3 (entries p)), walked_same _ _ _ (enum_same (suc d) full) 0 (parts 8 (entries p)))

      message_same : (d : ℕ) (scope : Bytes) → message_text rs set messages t proto3 (message_texts rs set messages t proto3 left) d scope deeper i p ≡ message_text rs set messages t proto3 (message_texts rs set messages t proto3 left) d scope deeper j p
      unfolding message_text
      message_same d scope = rw (struct_same d scope (scope ⊙ name_in p), there_same, module_same d (scope ⊙ name_in p))

  -- past the table's end all numbers have one row
  past_end : (left d : ℕ) (scope : Bytes) (i j : ℕ) (ps : List Bytes) → length messages ≤ i → length messages ≤ j → message_texts rs set messages t proto3 left d scope i ps ≡ message_texts rs set messages t proto3 left d scope j ps
  unfolding message_texts walked
  past_end zero d scope i j ps a b = refl
  past_end (suc left) d scope i j [] a b = refl
  past_end (suc left) d scope i j (p ∷ ps) a b =
      let e : message_row messages i ≡ message_row messages j = get_or_past messages i no_message a ∙ sym (get_or_past messages j no_message b) in
      ap₂ (λ (x : Bytes) (k : ℕ). x ++ walked (message_text rs set messages t proto3 (message_texts rs set messages t proto3 left) d scope (not (eqb left 0))) (number_after rs set messages t proto3) k ps)
      (message_same i j e (not (eqb left 0)) p left (λ d' s qs. past_end left d' s (suc i) (suc j) qs (omega arith) (omega arith)) d scope)
      (ap (λ (r : MessageRow). r.after) e)

  first_within : (left d : ℕ) (scope : Bytes) (first n : ℕ) (ps : List Bytes) → n ≡ min first (length messages) → message_texts rs set messages t proto3 left d scope n ps ≡ message_texts rs set messages t proto3 left d scope first ps
  first_within left d scope first n ps is = on (dec_le first (length messages))
    where
      on : Dec (first ≤ length messages) → message_texts rs set messages t proto3 left d scope n ps ≡ message_texts rs set messages t proto3 left d scope first ps
      on (yes h) = let e : n ≡ first = omega arith in ap (λ (k : ℕ). message_texts rs set messages t proto3 left d scope k ps) e
      on (no h) = past_end left d scope n first ps (omega arith) (omega arith)

-- ---- a file. g₁: the context as the code has it; n: the number as far as the table goes
pub file_written : (g : Given) (first : ℕ) (p : Bytes) (u u₁ u₂ : Text) {g₁ : Given} {n : ℕ} {proto3 : Bool} {scope : Bytes} {ps : List Bytes} → g₁ ≡ g → n ≡ min first (length g₁.messages) → proto3 ≡ is_proto3 (syntax_of (decode_file p).syntax) → scope ≡ take max_path (package_scope (decode_file p).package_name) → ps ≡ parts 4 (entries p)
    → u₁ ≡ u ▻ message_texts g.options g.set g.messages g.fields proto3 16 0 scope n ps
    → u₂ ≡ u₁ ▻ enum_texts g₁.options 0 scope (enums_in 5 p)
    → u₂ ≡ u ▻ text_of_file g.options g.set g.messages g.fields first p
unfolding text_of_file
file_written g first p u u₁ u₂ {g₁} {n} {proto3} {scope} {ps} ge within pe se le messages enums =
    let messages₁ = messages ∙ ap (λ (l : Bytes). u ▻ l) (first_within g.options g.set g.messages g.fields proto3 16 0 scope first n ps (within ∙ ap (λ (y : Given). min first (length y.messages)) ge)) in
    rw (← pe, ← se, ← le) (appended u u₁ u₂ _ _ messages₁ (enums ∙ ap (λ (y : Given). u₁ ▻ enum_texts y.options 0 scope (enums_in 5 p)) ge))
