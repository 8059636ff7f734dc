-- What is written for the oneofs of a message, by its range of fields, and one oneof on. Assumes nothing.
use Rattle.std.proofs.Common.{◌≡◌, refl, sym, ap, ◌∙◌, ℕ, ◌+◌, ◌-◌, Bool, true, false, not, List, [], ◌∷◌, ◌++◌, length}
use Rattle.base.specs.Choose.{choose}
use Rattle.base.specs.Lists.{is_empty, all_of}
use Rattle.base.specs.Tests.{both_ways}
use Rattle.writer.specs.declared.text.Text.{Text}
use Rattle.writer.specs.Text.{pick}
use Rattle.writer.specs.Writing.{◌▻◌}
use Rattle.writer.proofs.TextLaws.{put-append, put-nothing}
use Rattle.descriptor.specs.Descriptor.{Bytes}
use Rattle.descriptor.specs.Decode.{entries, parts}
use Rattle.text_tables.specs.Rows.{message_row, is_in}
use Rattle.text_tables.specs.declared.MessageRow.{MessageRow}
use Rattle.text_tables.specs.declared.FieldRow.{FieldRow}
use Rattle.walks.specs.Walked.{walked}
use Rattle.code_generator.specs.Piece.{flat}
use Rattle.code_generator.specs.Piece as tree
use Rattle.code_generator.specs.Writing.{◌⊳◌}
use Rattle.code_generator.proofs.WritingLaws.{written-flat}
use Rattle.members.specs.Members.{name_in, numbers_where, members, oneof_members, oneofs_from, oneofs_of, conflict}
use Rattle.members.specs.Seen.{MessageSeen, OneofSeen}
use Rattle.members.proofs.MemberLaws.{members_are}

-- w: what is written for a oneof, by its name, whether that meets a type's, and the numbers of its fields
module _ (w : Bytes → Bool → List ℕ → tree.Text) (messages : List MessageRow) (t : List FieldRow) where
  abbrev pub one : OneofSeen → tree.Text
  one o = w o.name o.conflict (oneof_members t o)

  abbrev written : OneofSeen → Bytes
  written o = flat (one o)

  module _ (m : MessageSeen) where
    -- for the one with the index x, whose part q is: one left without fields is left out
    abbrev one_part : ℕ → Bytes → Bytes
    one_part x q = pick (is_empty (members (is_in x) messages t m.number m.part)) [] (flat (w (name_in q) (conflict m.nested m.part (name_in q)) (members (is_in x) messages t m.number m.part)))

    module _ (part : ℕ → Bytes → Bytes) (next : ℕ → Bytes → ℕ) (part_is : (x : ℕ) (q : Bytes) → part x q ≡ one_part x q) (next_is : (x : ℕ) (q : Bytes) → next x q ≡ x + 1) where
      module _ (first last : ℕ) (from : first ≡ (message_row messages m.number).first) (to : last ≡ first + length (parts 2 (entries m.part))) where
        walked_from : (x : ℕ) (qs : List Bytes) → all_of written (oneofs_from t first last m.nested m.part x qs) ≡ walked part next x qs
        unfolding oneofs_from all_of walked choose
        walked_from x [] = refl
        walked_from x (q ∷ qs) =
            by (is_empty (numbers_where (is_in x) t (last - first) first))
            ∙ ap (λ (ks : List ℕ). pick (is_empty ks) [] (flat (w (name_in q) (conflict m.nested m.part (name_in q)) ks)) ++ all_of written (oneofs_from t first last m.nested m.part (x + 1) qs)) (members_are messages t m.part (is_in x) m.number from to)
            ∙ ap (λ (p : Bytes). p ++ all_of written (oneofs_from t first last m.nested m.part (x + 1) qs)) (sym (part_is x q))
            ∙ ap (λ (p : Bytes). part x q ++ p) (walked_from (x + 1) qs)
            ∙ ap (λ (y : ℕ). part x q ++ walked part next y qs) (sym (next_is x q))
          where
            by : (empty : Bool) → all_of written (choose empty (oneofs_from t first last m.nested m.part (x + 1) qs) (record { name = name_in q; conflict = conflict m.nested m.part (name_in q); index = x; first = first; last = last } ∷ oneofs_from t first last m.nested m.part (x + 1) qs))
                ≡ pick empty [] (flat (w (name_in q) (conflict m.nested m.part (name_in q)) (numbers_where (is_in x) t (last - first) first))) ++ all_of written (oneofs_from t first last m.nested m.part (x + 1) qs)
            by true = refl
            by false = refl

      pub oneofs_walked : all_of written (oneofs_of messages t m) ≡ walked part next 0 (parts 8 (entries m.part))
      unfolding oneofs_of
      oneofs_walked = walked_from _ _ refl refl 0 (parts 8 (entries m.part))

-- ---- a text with a piece for each that is left
module _ {A : Type 0} (f : A → tree.Text) (text goal : Text) (xs : List A) (h : text ▻ all_of (λ (x : A). flat (f x)) xs ≡ goal) where
  pub pieces_on : (x : A) (rest : List A) (text₁ : Text) → xs ≡ x ∷ rest → text₁ ≡ text ⊳ f x → text₁ ▻ all_of (λ (y : A). flat (f y)) rest ≡ goal
  unfolding all_of
  pieces_on x rest text₁ first w =
      ap (λ (u : Text). u ▻ all_of (λ (y : A). flat (f y)) rest) (w ∙ written-flat text (f x)) ∙ put-append text (flat (f x)) (all_of (λ (y : A). flat (f y)) rest)
      ∙ ap (λ (l : List A). text ▻ all_of (λ (y : A). flat (f y)) l) (sym first)
      ∙ h

  pub pieces_done : xs ≡ [] → text ≡ goal
  unfolding all_of
  pieces_done ends = sym (put-nothing text) ∙ ap (λ (l : List A). text ▻ all_of (λ (y : A). flat (f y)) l) (sym ends) ∙ h

-- of a message without oneofs nothing is written
pub unwritten : (t : Text) (g : ℕ → Bytes → Bytes) (next : ℕ → Bytes → ℕ) (x : ℕ) (qs : List Bytes) (there : Bool) → there ≡ not (is_empty qs) → there ≡ false → t ≡ t ▻ walked g next x qs
unfolding walked
unwritten t g next x [] there e none = sym (put-nothing t)
unwritten t g next x (q ∷ qs) there e none = both_ways e none
