-- The row of an enum, where it is left out and where not; and the rows of the types of a message's oneofs. Assumes nothing.
use Rattle.std.proofs.Common.{◌≡◌, refl, sym, ◌∙◌, ℕ, Bool, true, false, List, add-one}
use Rattle.base.specs.Lists.{all_of}
use Rattle.writer.specs.declared.text.Text.{Text}
use Rattle.writer.specs.Writing.{◌▻◌}
use Rattle.writer.proofs.TextLaws.{put-nothing}
use Rattle.ident.specs.Ident.{to_upper_camel}
use Rattle.descriptor.specs.Descriptor.{Bytes}
use Rattle.options.specs.Settings.{Setting}
use Rattle.extern_paths.specs.ExternPaths.{taken}
use Rattle.context.specs.Given.{Given}
use Rattle.joined.specs.Joined.{◌⊙◌}
use Rattle.members.specs.Seen.{MessageSeen, OneofSeen}
use Rattle.members.specs.Members.{name_in, oneofs_of}
use Rattle.members.proofs.OneofLaws.{one, oneofs_walked}
use Rattle.code_generator.specs.Piece.{piece, raw, spelt, oneof_type, flat}
use Rattle.code_generator.specs.Piece as tree
use Rattle.name_rows.specs.Rows.{row}
use Rattle.place_rows.specs.PlaceRows.{enum_row, oneof_row, oneof_rows, next_index}

-- ---- an enum
module _ (t : Text) (rs : List Setting) (home q name : Bytes) (own : name ≡ name_in q) (v : Bool) (asked : v ≡ taken rs (home ⊙ name)) where
  pub enum_left_out : v ≡ true → t ≡ t ▻ enum_row rs home 0 q
  unfolding enum_row
  enum_left_out h = rw (← own, ← asked, h) (sym (put-nothing t))

  pub enum_written : v ≡ false → (t₁ : Text) → t₁ ≡ t ▻ row home (to_upper_camel name) → t₁ ≡ t ▻ enum_row rs home 0 q
  unfolding enum_row
  enum_written h t₁ w = w ∙ rw (← own, ← asked, h) refl

-- ---- the rows of the types of a message's oneofs
module _ (g : Given) (m : MessageSeen) where
  abbrev by_name : Bytes → Bool → List ℕ → tree.Text
  by_name name meets ks = piece (raw (row m.full (spelt (oneof_type meets name))))

  abbrev pub type_row : OneofSeen → tree.Text
  type_row = one by_name g.messages g.fields

  pub all_types : all_of (λ (o : OneofSeen). flat (type_row o)) (oneofs_of g.messages g.fields m) ≡ oneof_rows g.messages g.fields m.full m.nested m.number m.part
  unfolding oneof_rows oneof_row
  all_types = oneofs_walked by_name g.messages g.fields m (oneof_row g.messages g.fields m.full m.nested m.number m.part) (next_index g.messages g.fields) (λ x q. refl) (λ x q. sym (add-one x))
