-- The enum of a oneof, and the enums of the oneofs of a message, one by one. Assumes nothing.
use Rattle.std.proofs.Common.{◌≡◌, refl, ℕ, ◌+◌, ◌-◌, ◌^◌, ◌≤◌, min, Bool, List, length, ap, add-one, sym, arith, length-append}
use Rattle.base.specs.Lists.{all_of}
use Rattle.writer.specs.declared.text.Text.{Text as Buffered}
use Rattle.descriptor.specs.Descriptor.{Bytes}
use Rattle.context.specs.Given.{Given}
use Rattle.members.specs.Members.{oneofs_of}
use Rattle.members.specs.Seen.{MessageSeen, OneofSeen}
use Rattle.members.proofs.OneofLaws.{one, oneofs_walked}
use Rattle.members.proofs.DeepLaws.{indent_deep, tree_below}
use Rattle.options.specs.Settings.{Setting}
use Rattle.joined.specs.Joined.{◌⊙◌}
use Rattle.text_tables.specs.declared.MessageRow.{MessageRow}
use Rattle.text_tables.specs.declared.FieldRow.{FieldRow}
use Rattle.variants.specs.Variants.{variant_texts}
use Rattle.code_generator.specs.Piece.{Text, ◌⟫◌, flat}
use Rattle.code_generator.specs.Writing.{◌⊳◌}
use Rattle.code_generator.specs.Attributes.{end}
use Rattle.oneof_text.specs.OneofText.{oneof_front, oneof_text, oneof_part, oneof_texts, next_index}

module _ (rs : List Setting) (set : List ℕ) (messages : List MessageRow) (t : List FieldRow) (d : ℕ) (full name : Bytes) (has_conflict : Bool) (ks : List ℕ) where
  abbrev head : Text
  head = oneof_front rs set messages t d full name has_conflict ks

  head_deep : d ≤ length (flat head)
  head_deep = simp length-append (let e = indent_deep d in omega arith)

  -- n: the depth of the variants
  pub enum_written : (u : Buffered) (n : ℕ) → n ≡ min (d + 1) (2 ^ 64 - 1) → u ⊳ (head ⟫ variant_texts rs set t n full (full ⊙ name) ks ⟫ end d) ≡ u ⊳ oneof_text rs set messages t d full name has_conflict ks
  unfolding oneof_text
  enum_written u n below = ap (λ (v : Buffered). v ⊳ end d) (tree_below u d n below head (λ (k : ℕ). variant_texts rs set t k full (full ⊙ name) ks) head_deep)

module _ (g : Given) (d : ℕ) (m : MessageSeen) where
  abbrev by_name : Bytes → Bool → List ℕ → Text
  by_name name meets ks = oneof_text g.options g.set g.messages g.fields d m.full name meets ks

  -- for a oneof
  abbrev pub enum_of : OneofSeen → Text
  enum_of = one by_name g.messages g.fields

  pub all_enums : all_of (λ (o : OneofSeen). flat (enum_of o)) (oneofs_of g.messages g.fields m) ≡ oneof_texts g.options g.set g.messages g.fields d m.full m.nested m.number m.part
  unfolding oneof_texts oneof_part
  all_enums = oneofs_walked by_name g.messages g.fields m (oneof_part g.options g.set g.messages g.fields d m.full m.nested m.number m.part) (next_index g.options g.set g.messages g.fields) (λ x q. refl) (λ x q. sym (add-one x))
