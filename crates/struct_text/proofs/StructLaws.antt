-- What is written of a struct, one piece behind the other. Assumes nothing.
use Rattle.std.proofs.Common.{◌≡◌, sym, List, ℕ, suc, ◌+◌, ◌-◌, ◌^◌, ◌≤◌, min, Bool, ◌++◌, length, ap, ◌∙◌, arith, append_assoc, length-append}
use Rattle.writer.specs.declared.text.Text.{Text}
use Rattle.writer.specs.Writing.{◌▻◌}
use Rattle.writer.proofs.TextLaws.{appended}
use Rattle.descriptor.specs.Descriptor.{Bytes}
use Rattle.descriptor.specs.Decode.{entries, parts}
use Rattle.options.specs.Settings.{Setting}
use Rattle.context.specs.Given.{Given}
use Rattle.text_tables.specs.Rows.{message_row, is_plain}
use Rattle.text_tables.specs.declared.MessageRow.{MessageRow}
use Rattle.members.specs.Members.{numbers_where, members}
use Rattle.members.specs.Seen.{MessageSeen}
use Rattle.members.proofs.MemberLaws.{members_are}
use Rattle.members.proofs.DeepLaws.{indent_deep, bytes_below}
use Rattle.code_generator.specs.Piece.{flat}
use Rattle.code_generator.specs.Writing.{◌⊳◌}
use Rattle.code_generator.specs.Attributes.{end}
use Rattle.code_generator.proofs.WritingLaws.{written-flat}
use Rattle.struct_fields.specs.StructFields.{field_texts}
use Rattle.oneof_fields.specs.OneofFields.{oneof_field_texts}
use Rattle.struct_text.specs.StructText.{struct_head, struct_text}

-- the head is longer than the depth
head_deep : (rs : List Setting) (messages : List MessageRow) (d : ℕ) (full : Bytes) (i : ℕ) (p : Bytes) → d ≤ length (flat (struct_head rs messages d full i p))
unfolding struct_head
head_deep rs messages d full i p = simp length-append (let e = indent_deep d in omega arith)

-- g₁, m₁: the context and the message as the code has them; n: the depth of the fields
pub struct_written : (g : Given) (m : MessageSeen) (proto3 : Bool) (d : ℕ) (scope : Bytes) (t t₁ t₂ t₃ t₄ : Text) {g₁ : Given} {m₁ : MessageSeen} {n first last : ℕ} → g₁ ≡ g → m₁ ≡ m → n ≡ min (d + 1) (2 ^ 64 - 1) → first ≡ (message_row g₁.messages m.number).first → last ≡ first + length (parts 2 (entries m.part))
    → t₁ ≡ t ⊳ struct_head g.options g.messages d m.full m.number m.part
    → t₂ ≡ t₁ ⊳ field_texts g.options g.set g.fields proto3 n scope m₁.full (numbers_where is_plain g.fields (last - first) first)
    → t₃ ≡ t₂ ▻ oneof_field_texts g.options g.set g.messages g.fields n m.full m.nested m.number m.part
    → t₄ ≡ t₃ ⊳ end d
    → t₄ ≡ t ▻ struct_text g.options g.set g.messages g.fields proto3 d scope m.full m.nested m.number m.part
unfolding struct_text
struct_written g m proto3 d scope t t₁ t₂ t₃ t₄ {g₁} {m₁} {n} {first} {last} ge me below from to head fields oneofs close =
    let from₁ : first ≡ (message_row g.messages m.number).first = from ∙ ap (λ (y : Given). (message_row y.messages m.number).first) ge in
    let header = struct_head g.options g.messages d m.full m.number m.part in
    let inside = λ (k : ℕ). field_texts g.options g.set g.fields proto3 k scope m.full (members is_plain g.messages g.fields m.number m.part) in
    let choices = λ (k : ℕ). oneof_field_texts g.options g.set g.messages g.fields k m.full m.nested m.number m.part in
    let fields₁ : t₂ ≡ t₁ ⊳ inside n =
    fields ∙ ap (λ (y : MessageSeen). t₁ ⊳ field_texts g.options g.set g.fields proto3 n scope y.full (numbers_where is_plain g.fields (last - first) first)) me
    ∙ ap (λ (ks : List ℕ). t₁ ⊳ field_texts g.options g.set g.fields proto3 n scope m.full ks) (members_are g.messages g.fields m.part is_plain m.number from₁ to) in
    appended t t₁ t₄ _ _ (head ∙ written-flat t header) (appended t₁ t₃ t₄ _ _ (appended t₁ t₂ t₃ _ _ (fields₁ ∙ written-flat t₁ (inside n)) oneofs) (close ∙ written-flat t₃ (end d)))
    ∙ bytes_below t d n below (flat header) (λ (k : ℕ). (flat (inside k) ++ choices k) ++ flat (end d)) (head_deep g.options g.messages d m.full m.number m.part)
    ∙ ap (λ (l : Bytes). t ▻ l) (sym (append_assoc (flat header) (flat (inside (suc d)) ++ choices (suc d)) (flat (end d))) ∙ ap (λ (l : Bytes). l ++ flat (end d)) (sym (append_assoc (flat header) (flat (inside (suc d))) (choices (suc d)))))
