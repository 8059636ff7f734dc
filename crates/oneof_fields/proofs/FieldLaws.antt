-- The fields for the oneofs of a message, one by one. Assumes nothing.
use Rattle.std.proofs.Common.{◌≡◌, refl, ap, ◌∙◌, ℕ, Bool, List, add-one, sym}
use Rattle.base.specs.Lists.{all_of}
use Rattle.writer.specs.declared.text.Text.{Text as Written}
use Rattle.descriptor.specs.Descriptor.{Bytes}
use Rattle.context.specs.Given.{Given}
use Rattle.members.specs.Members.{name_in, oneof_members, oneofs_of}
use Rattle.members.specs.Seen.{MessageSeen, OneofSeen}
use Rattle.members.proofs.OneofLaws.{one, oneofs_walked}
use Rattle.code_generator.specs.Piece.{Text, flat}
use Rattle.code_generator.specs.Writing.{◌⊳◌}
use Rattle.oneof_fields.specs.OneofFields.{oneof_field_text, oneof_field_part, oneof_field_texts, next_index}

module _ (g : Given) (d : ℕ) (m : MessageSeen) where
  abbrev by_name : Bytes → Bool → List ℕ → Text
  by_name name meets ks = oneof_field_text g.options g.set g.messages g.fields d m.full (name_in m.part) name meets ks

  -- for a oneof
  abbrev pub field_of : OneofSeen → Text
  field_of = one by_name g.messages g.fields

  pub all_fields : all_of (λ (o : OneofSeen). flat (field_of o)) (oneofs_of g.messages g.fields m) ≡ oneof_field_texts g.options g.set g.messages g.fields d m.full m.nested m.number m.part
  unfolding oneof_field_texts oneof_field_part
  all_fields = oneofs_walked by_name g.messages g.fields m (oneof_field_part g.options g.set g.messages g.fields d m.full m.nested m.number m.part) (next_index g.options g.set g.messages g.fields) (λ x q. refl) (λ x q. sym (add-one x))

  -- a oneof's, of a message with this name
  abbrev field_with : Bytes → OneofSeen → Text
  field_with name o = oneof_field_text g.options g.set g.messages g.fields d m.full name o.name o.conflict (oneof_members g.fields o)

  pub field_named : (t t' : Written) (name : Bytes) (o : OneofSeen) → name ≡ name_in m.part → t' ≡ t ⊳ field_with name o → t' ≡ t ⊳ field_of o
  field_named t t' name o is written = written ∙ ap (λ (n : Bytes). t ⊳ field_with n o) is
