-- The rows of names, and what is found in them. Assumes nothing.
use Rattle.std.specs.Prelude.{◌≡◌, refl, ℕ, suc, ◌+◌, ◌-◌, ◌≤◌, ◌<◌, ◌^◌, min, Bool, true, false, ◌||◌, not, List, [], length, take}
use Rattle.std.specs.Borrow.{MutBor}
use Rattle.std.proofs.Common.{sym, ap, ◌∙◌, arith, add-one}
use Rattle.std.proofs.Math.Seq.{length-sets}
use borrow.Author.Tests.{not-true, not-false}
use Rattle.base.specs.Choose.{choose}
use Rattle.base.specs.Lists.{is_empty, all_of}
use Rattle.writer.specs.declared.text.Text.{Text}
use Rattle.writer.specs.Draft.{most, extended}
use Rattle.writer.specs.Writing.{◌▻◌, start}
use Rattle.writer.proofs.TextLaws.{put-append, put-nothing, placed}
use Rattle.descriptor.specs.Descriptor.{Bytes}
use Rattle.descriptor.specs.Decode.{entries, parts}
use Rattle.joined.specs.Joined.{used}
use Rattle.name_rows.specs.declared.Spelling.{Spelling}
use Rattle.name_rows.specs.declared.Spelling.TheVariants.{Snake}
use Rattle.name_rows.specs.Spelt.{spelt_by}
use Rattle.name_rows.specs.Rows.{row}
use Rattle.text_tables.specs.Rows.{message_row, field_row, is_in}
use Rattle.text_tables.specs.declared.MessageRow.{MessageRow}
use Rattle.text_tables.specs.declared.FieldRow.{FieldRow}
use Rattle.members.specs.Members.{name_in, numbers_where, members}
use Rattle.members.proofs.MemberLaws.{members_are, numbers_end, numbers_found, numbers_skip}
use Rattle.member_rows.specs.MemberRows.{name_row, field_name, rows_by, field_rows, oneof_row, rows_overlap, oneofs_meet}

-- ---- what a buffer has of a text that was begun in it
pub laid : (rows : MutBor (List ℕ)) (p : List ℕ) (t : Text) → length t.buffer.now < 2 ^ 63 → t ≡ start rows ▻ p → take (min t.length (length t.buffer.now)) t.buffer.now ≡ take (length rows.now) p
unfolding extended
laid rows p t room e =
    let kept : length t.buffer.now ≡ length rows.now = ap (λ (u : Text). length u.buffer.now) e ∙ length-sets rows.now 0 (take (most - 0) p) in
    (used (placed {t = start rows} t (omega arith) refl e refl) (omega arith)).1

-- ---- the rows of fields, one field on
module _ (spelling : Spelling) (set : List ℕ) (t : List FieldRow) (test : FieldRow → Bool) (last k : ℕ) (u goal : Text) where
  abbrev from : ℕ → List ℕ
  from i = numbers_where test t (last - i) i

  abbrev rows : List ℕ → Bytes
  rows = rows_by spelling set t

  module _ (h : u ▻ rows (from k) ≡ goal) where
    pub fields_on : k < last → test (field_row t k) ≡ true → (u₁ : Text) → u₁ ≡ u ▻ row [] (spelt_by spelling (field_name set t k)) → u₁ ▻ rows (from (k + 1)) ≡ goal
    unfolding all_of
    fields_on l e u₁ w =
        ap (λ (v : Text). v ▻ rows (from (k + 1))) w ∙ put-append u _ (rows (from (k + 1)))
        ∙ ap (λ (ks : List ℕ). u ▻ rows ks) (sym (numbers_found t last k l (field_row t k) refl test e))
        ∙ h

    pub fields_past : k < last → test (field_row t k) ≡ false → (u₁ : Text) → u₁ ≡ u → u₁ ▻ rows (from (k + 1)) ≡ goal
    fields_past l ne u₁ w =
        ap (λ (v : Text). v ▻ rows (from (k + 1))) w
        ∙ ap (λ (ks : List ℕ). u ▻ rows ks) (sym (numbers_skip t last k l (field_row t k) refl test ne))
        ∙ h

    pub fields_done : last ≤ k → u ≡ goal
    unfolding all_of
    fields_done l = sym (put-nothing u) ∙ ap (λ (ks : List ℕ). u ▻ rows ks) (sym (numbers_end t last k test l)) ∙ h

-- ---- of a message, by the range of its fields
module _ (messages : List MessageRow) (t : List FieldRow) (i : ℕ) (p : Bytes) {messages₁ : List MessageRow} {first last : ℕ} (is : messages₁ ≡ messages) (e : first ≡ (message_row messages₁ i).first) (f : last ≡ first + length (parts 2 (entries p))) where
  pub members_in : (test : FieldRow → Bool) → numbers_where test t (last - first) first ≡ members test messages t i p
  members_in test = members_are messages t p test i (e ∙ ap (λ (m : List MessageRow). (message_row m i).first) is) f

  -- the row of a oneof, if it has fields
  module _ (x : ℕ) (q name : Bytes) (own : name ≡ name_in q) {t₁ : List FieldRow} (same : t₁ ≡ t) (r : Bool) (asked : r ≡ not (is_empty (numbers_where (is_in x) t₁ (last - first) first))) where
    empty_is : r ≡ not (is_empty (members (is_in x) messages t i p))
    empty_is = asked ∙ ap (λ (l : List FieldRow). not (is_empty (numbers_where (is_in x) l (last - first) first))) same ∙ ap (λ (ks : List ℕ). not (is_empty ks)) (members_in (is_in x))

    pub oneof_there : r ≡ true → row [] (spelt_by Snake name) ≡ oneof_row messages t i p x q
    unfolding oneof_row name_row choose
    oneof_there h = rw (not-true _ (sym empty_is ∙ h), own) refl

    pub oneof_missing : r ≡ false → [] ≡ oneof_row messages t i p x q
    unfolding oneof_row choose
    oneof_missing h = rw (not-false _ (sym empty_is ∙ h)) refl

-- ---- the oneofs of a message, one on
module _ (room : ℕ) (set : List ℕ) (messages : List MessageRow) (t : List FieldRow) (i : ℕ) (p : Bytes) (n x : ℕ) where
  abbrev pub oneofs_ahead : Bool
  oneofs_ahead = oneofs_meet room set messages t i p (n - x) x

  pub oneofs_end : n ≤ x → false ≡ oneofs_ahead
  unfolding oneofs_meet
  oneofs_end h = let e : n - x ≡ 0 = omega arith in rw e refl

  module _ (h : x < n) (m : Bool) (is : m ≡ rows_overlap room (field_rows set t true (members (is_in x) messages t i p))) where
    oneofs_at : oneofs_ahead ≡ (m || oneofs_meet room set messages t i p (n - (x + 1)) (x + 1))
    unfolding oneofs_meet
    oneofs_at = let e : n - x ≡ suc (n - (x + 1)) = omega arith in rw (e, ← is, add-one x) refl

    pub oneofs_hit : m ≡ true → true ≡ oneofs_ahead
    oneofs_hit k = sym (oneofs_at ∙ rw k)

    pub oneofs_on : m ≡ false → oneofs_meet room set messages t i p (n - (x + 1)) (x + 1) ≡ oneofs_ahead
    oneofs_on k = sym (oneofs_at ∙ rw k)

pub oneofs_all : (room : ℕ) (set : List ℕ) (messages : List MessageRow) (t : List FieldRow) (i : ℕ) (p : Bytes) (n m : ℕ) → n ≡ m → oneofs_ahead room set messages t i p n 0 ≡ oneofs_meet room set messages t i p m 0
oneofs_all room set messages t i p n m e = ap (λ (k : ℕ). oneofs_meet room set messages t i p k 0) (omega arith)
