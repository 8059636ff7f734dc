-- What the parts of the text call say of their answers. Assumes nothing.
use Rattle.std.specs.Prelude.{ℕ, ◌≤◌, ◌<◌, ◌≡◌, List, length, replicate, Result, Ok, MatchResult}
use Rattle.base.specs.declared.refusal.Refusal.{Refusal}
use Rattle.descriptor.specs.Descriptor.{Bytes}
use Rattle.descriptor.specs.Decode.{decode_set}
use Rattle.descriptor.specs.Limits.{messages_in, limit_passed}
use Rattle.options.specs.Layout.{layout}
use Rattle.name_rules.specs.Answer.{names}
use Rattle.text_tables.specs.Rows.{no_field}
use Rattle.text_tables.specs.declared.MessageRow.{MessageRow}
use Rattle.text_tables.specs.declared.FieldRow.{FieldRow}
use Rattle.set_tables.specs.Filled.{field_count}
use Rattle.calls.specs.TextCall.{by_room, left_by}

-- a call for the text p gives x: r is its answer, and t' is left in the buffer t
pub record Answers (x : Result ℕ Refusal) (p t t' : List ℕ) (r : Result ℕ Refusal) : Type 0 where
  pub answer : r ≡ x
  pub left : t' ≡ left_by x p t

-- the text p, which is not refused but perhaps for its length
abbrev pub Whole : List ℕ → List ℕ → List ℕ → Result ℕ Refusal → Type 0
Whole p t t' r = Answers (by_room (length t) (length p)) p t t' r

-- the same by way of an array of so many bytes: where it has no room for the text, its length, and no byte changes
abbrev pub Within : ℕ → List ℕ → List ℕ → List ℕ → Result (Result ℕ Refusal) ℕ → Type 0
Within size p t t' r = MatchResult r (λ answer. Whole p t t' answer) (λ n. (n ≡ length p) × (size < n) × (t' ≡ t))

-- options, and a set and a file index with them, without refusals 1 to 7
pub record Accepted (set o : Bytes) (file : ℕ) : Type 0 where
  pub options : layout o ≡ Ok tt
  pub limits : limit_passed set ≡ 0
  pub named : names (decode_set set) ≡ Ok tt
  pub there : file < length (decode_set set)

-- tables with room for the messages and the fields of a set; that of the fields holds nothing yet
pub record Roomy (set : Bytes) (messages : List MessageRow) (fields : List FieldRow) : Type 0 where
  pub messages_room : length (messages_in (decode_set set)) ≤ length messages
  pub fields_room : field_count set ≤ length fields
  pub clear : fields ≡ replicate (length fields) no_field
