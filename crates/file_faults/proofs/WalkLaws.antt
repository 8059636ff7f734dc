-- The faults of messages, one message on; and those of a file. Assumes nothing.
use Rattle.std.proofs.Common.{◌≡◌, ℕ, zero, suc, ◌+◌, ◌-◌, ◌≤◌, min, Bool, false, List, [], ◌∷◌, length, take, refl, sym, ap, ap₂, ◌∙◌, arith, add-one, sub-one}
use Rattle.std.proofs.lemmas.List.{get_or_past}
use Rattle.std.proofs.Math.Decide.{dec_le}
use Rattle.std.proofs.Math.Bool.{or-false, or_assoc}
use Rattle.descriptor.specs.Descriptor.{Bytes}
use Rattle.descriptor.specs.Decode.{entries, parts, decode_file}
use Rattle.options.specs.Settings.{Setting}
use Rattle.name_rules.specs.FullNames.{package_scope}
use Rattle.context.specs.Given.{Given}
use Rattle.joined.specs.Joined.{max_path, ◌⊙◌}
use Rattle.text_tables.specs.Rows.{message_row, no_message}
use Rattle.text_tables.specs.declared.MessageRow.{MessageRow}
use Rattle.text_tables.specs.declared.FieldRow.{FieldRow}
use Rattle.members.specs.Members.{name_in}
use Rattle.file_faults.specs.declared.Faults.{Faults}
use Rattle.file_faults.specs.FileFaults.{no_faults, ◌or◌, enums_meet, own_faults, message_faults, faults_of, messages_faults, faults_of_file}

-- ---- faults of one or the other
faults_assoc : (x y z : Faults) → ((x or y) or z) ≡ (x or (y or z))
faults_assoc x y z = ap₂ (λ (a b : Bool). record { overlap = a; default = b }) (or_assoc x.overlap y.overlap z.overlap) (or_assoc x.default y.default z.default)

faults_none : (x : Faults) → (x or no_faults) ≡ x
faults_none x = ap₂ (λ (a b : Bool). record { overlap = a; default = b }) (or-false x.overlap) (or-false x.default)

module _ (rs : List Setting) (set : List ℕ) (messages : List MessageRow) (t : List FieldRow) where
  pub first_nested : (left : ℕ) (scope : Bytes) (i : ℕ) (ps : List Bytes) → messages_faults rs set messages t left scope (i + 1) ps ≡ messages_faults rs set messages t left scope (suc i) ps
  first_nested left scope i ps = rw add-one

  -- no level of messages, and one
  pub no_level : (left : ℕ) (scope : Bytes) (i : ℕ) (ps : List Bytes) → left ≡ 0 → no_faults ≡ messages_faults rs set messages t left scope i ps
  unfolding messages_faults
  no_level left scope i ps e = rw e

  pub one_level : (left : ℕ) (scope : Bytes) (i : ℕ) (ps : List Bytes) → (left ≡ 0 → ⊥)
      → faults_of rs set messages t (messages_faults rs set messages t (left - 1)) scope i ps ≡ messages_faults rs set messages t left scope i ps
  unfolding messages_faults
  one_level zero scope i ps ne = absurd (ne refl)
  one_level (suc k) scope i ps ne = rw sub-one

  -- messages with those before them
  module _ (inner : Bytes → ℕ → List Bytes → Faults) (scope : Bytes) (found : Faults) (i : ℕ) where
    pub none_more : found ≡ (found or faults_of rs set messages t inner scope i [])
    unfolding faults_of
    none_more = sym (faults_none found)

    pub one_more : (own with_own : Faults) (p : Bytes) (ps : List Bytes) → own ≡ message_faults rs set messages t inner scope i p → with_own ≡ (found or own)
        → (with_own or faults_of rs set messages t inner scope (message_row messages i).after ps) ≡ (found or faults_of rs set messages t inner scope i (p ∷ ps))
    unfolding faults_of
    one_more own with_own p ps o w = rw (w, o) (faults_assoc found (message_faults rs set messages t inner scope i p) _)

  -- ---- past the table's end all numbers have one row
  message_same : (left : ℕ) (scope : Bytes) (i j : ℕ) (p : Bytes) → message_row messages i ≡ message_row messages j
      → ((inner : Bytes) (ps : List Bytes) → messages_faults rs set messages t left inner (suc i) ps ≡ messages_faults rs set messages t left inner (suc j) ps)
      → message_faults rs set messages t (messages_faults rs set messages t left) scope i p ≡ message_faults rs set messages t (messages_faults rs set messages t left) scope j p
  unfolding message_faults own_faults
  message_same left scope i j p e nested = rw (nested (scope ⊙ name_in p) (parts 3 (entries p)), e)

  past_end : (left : ℕ) (scope : Bytes) (i j : ℕ) (ps : List Bytes) → length messages ≤ i → length messages ≤ j → messages_faults rs set messages t left scope i ps ≡ messages_faults rs set messages t left scope j ps
  unfolding messages_faults faults_of
  past_end zero scope i j ps a b = refl
  past_end (suc left) scope i j [] a b = refl
  past_end (suc left) scope i j (p ∷ ps) a b =
      let e : message_row messages i ≡ message_row messages j = get_or_past messages i no_message a ∙ sym (get_or_past messages j no_message b) in
      ap₂ (λ (x : Faults) (k : ℕ). x or faults_of rs set messages t (messages_faults rs set messages t left) scope k ps)
      (message_same left scope i j p e (λ inner qs. past_end left inner (suc i) (suc j) qs (omega arith) (omega arith)))
      (ap (λ (r : MessageRow). r.after) e)

  first_within : (left : ℕ) (scope : Bytes) (first n : ℕ) (ps : List Bytes) → n ≡ min first (length messages) → messages_faults rs set messages t left scope n ps ≡ messages_faults rs set messages t left scope first ps
  first_within left scope first n ps is = on (dec_le first (length messages))
    where
      on : Dec (first ≤ length messages) → messages_faults rs set messages t left scope n ps ≡ messages_faults rs set messages t left scope first ps
      on (yes h) = let e : n ≡ first = omega arith in ap (λ (k : ℕ). messages_faults rs set messages t left scope k ps) e
      on (no h) = past_end left scope n first ps (omega arith) (omega arith)

-- a file. g₁: the context as the code has it; n: the number as far as the table goes
pub file_found : (g : Given) (first : ℕ) (p : Bytes) {g₁ : Given} {n : ℕ} {scope : Bytes} {ps : List Bytes} {found r : Faults} {overlap : Bool} → g₁ ≡ g → n ≡ min first (length g₁.messages) → scope ≡ take max_path (package_scope (decode_file p).package_name) → ps ≡ parts 4 (entries p)
    → found ≡ messages_faults g.options g.set g.messages g.fields 16 scope n ps
    → overlap ≡ enums_meet g₁.options scope (parts 5 (entries p))
    → r ≡ (found or record { overlap = overlap; default = false })
    → r ≡ faults_of_file g.options g.set g.messages g.fields first p
unfolding faults_of_file
file_found g first p {g₁} {n} {scope} {ps} {found} {r} {overlap} ge within se pe fe oe re =
    let within₁ = within ∙ ap (λ (y : Given). min first (length y.messages)) ge in
    let found₁ = fe ∙ first_within g.options g.set g.messages g.fields 16 scope first n ps within₁
    ∙ ap₂ (λ (s : Bytes) (l : List Bytes). messages_faults g.options g.set g.messages g.fields 16 s first l) se pe in
    let overlap₁ = oe ∙ ap₂ (λ (y : Given) (s : Bytes). enums_meet y.options s (parts 5 (entries p))) ge se in
    re ∙ ap₂ (λ (f : Faults) (o : Bool). f or record { overlap = o; default = false }) found₁ overlap₁
