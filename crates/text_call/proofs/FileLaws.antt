-- A file of an accepted set by the tables: refusals 8, 9 and 10. Assumes nothing.
use mathlib.Core.Path.{◌≡◌, refl, sym, ap, ◌∙◌, subst}
use mathlib.Core.Bool.{true, false}
use mathlib.Core.List.{List, [], ◌∷◌, map}
use Prim.Native.Nat.{ℕ, ◌-◌, ◌/◌, ◌^◌, ◌≤◌, ◌<◌, min}
use native.Mathlib.Omega.{arith}
use borrow.Author.Tests.{le-leb}
use lib.ListN.{length, length-replicate, replicate, take, drop}
use Rattle.base.specs.Choose.{choose}
use Rattle.base.specs.Lists.{map_length, any}
use Rattle.descriptor.specs.Descriptor.{Bytes, done, FileDescriptor}
use Rattle.descriptor.specs.Decode.{entries, parts, decode_messages, decode_enum, decode_file, decode_set}
use Rattle.limits.specs.Short.{short}
use Rattle.options.specs.Settings.{settings}
use Rattle.table_says.specs.Says.{Says}
use Rattle.text_tables.specs.Rows.{no_message, no_field}
use Rattle.text_tables.specs.declared.MessageRow.{MessageRow}
use Rattle.text_tables.specs.declared.FieldRow.{FieldRow}
use Rattle.set_tables.specs.Filled.{field_count, message_rows, field_rows_in}
use Rattle.set_tables.proofs.ZeroLaws.{fresh_zeros, held_zeros}
use Rattle.set_tables.proofs.TablesSay.{tables_say, all_messages, all_fields, short_fields}
use Rattle.set_tables.proofs.FillLaws.{front_length}
use Rattle.message_text.specs.MessageText.{text_of_file}
use Rattle.file_faults.specs.FileFaults.{faults_of_file}
use Rattle.file_faults.specs.declared.Faults.{Faults}
use Rattle.file_parts.specs.FileParts.{part_at, first_number}
use Rattle.code_generator.specs.Enums.{append_enums}
use Rattle.code_generator.specs.Generate.{append_messages, generate, file_text}
use Rattle.code_generator.specs.Refusals.{any_message, variants_overlap, defaults_fail}
use Rattle.std.specs.Prelude.{Result, Ok, Err}
use Rattle.base.specs.declared.refusal.Refusal.{Refusal}
use Rattle.base.specs.declared.refusal.Refusal.TheVariants.{Variants, BytesDefault}
use Rattle.calls.specs.TextCall.{by_room, by_text, file_at, call_text}
use Rattle.call_laws.specs.CallLaws.{file_is as file_by_bytes, call_text_is, call_faults_are, call_bounded}
use Rattle.text_call.specs.Answer.{Accepted, Roomy, Answers, Whole}
use Rattle.text_call.proofs.RoomLaws.{refuses}

pub files_counted : (set : Bytes) → length (parts 1 (entries set)) ≡ length (decode_set set)
unfolding decode_set
files_counted set = sym (map_length decode_file (parts 1 (entries set)))

-- ---- a file without messages and enums
pub none_counted : {A : Type 0} (xs : List A) (n : ℕ) → n ≡ length xs → n ≡ 0 → xs ≡ []
none_counted [] n counted none = refl
none_counted (x ∷ xs) n counted none = absurd (omega arith)

module _ (set o : Bytes) (file : ℕ) (t : List ℕ) where
  blank : (f : FileDescriptor) → f.messages ≡ done → f.enums ≡ [] → Answers (by_text (settings o) (decode_set set) (length t) f) (file_text (settings o) (decode_set set) f) t t (Ok 0)
  unfolding by_text by_room choose any variants_overlap defaults_fail any_message generate append_messages append_enums
  blank f no_messages no_enums = rw (no_messages, no_enums, le-leb 0 (length t) (omega arith)) (record { answer = refl; left = refl })

  pub empty_file : (p : Bytes) → p ≡ part_at (parts 1 (entries set)) file → (parts 4 (entries p) ≡ []) × (parts 5 (entries p) ≡ [])
      → Answers (by_text (settings o) (decode_set set) (length t) (file_at (decode_set set) file)) (call_text set o file) t t (Ok 0)
  unfolding decode_set decode_file decode_messages
  empty_file p part_is none =
      subst (λ (f : FileDescriptor). Answers (by_text (settings o) (decode_set set) (length t) f) (file_text (settings o) (decode_set set) f) t t (Ok 0))
      (ap decode_file part_is ∙ file_by_bytes (parts 1 (entries set)) file)
      (blank (decode_file p) (ap (decode_messages 16) none.0) (ap (map decode_enum) none.1))

-- ---- fresh tables, as long as the set needs
pub fresh : (set o : Bytes) (file k n : ℕ) → Accepted set o file → k ≡ min (length set / 2) 256 → field_count set ≤ n
    → Roomy set (take (k - 0) (drop 0 (replicate 256 no_message))) (replicate n no_field)
fresh set o file k n accepted k_is h =
    let all = length-replicate {A = MessageRow} 256 no_message in
    let rows : List MessageRow = replicate 256 no_message in
    let wide = front_length k rows (omega arith) in
    let long = length-replicate {A = FieldRow} n no_field in
    let few = all_messages set accepted.limits in
    record { messages_room = omega arith; fields_room = omega arith; clear = fresh_zeros n }

module _ (set o : Bytes) (file : ℕ) (accepted : Accepted set o file) where
  pub few_fields : length set ≤ short → field_count set ≤ 150
  few_fields h = short_fields set accepted.limits accepted.named h

  pub most_fields : field_count set ≤ 2048
  most_fields = all_fields set accepted.limits accepted.named

module _ (set o : Bytes) (file : ℕ) (accepted : Accepted set o file) (messages old : List MessageRow) (fields held : List FieldRow) (roomy : Roomy set old held)
    (messages_are : messages ≡ message_rows (length old) set (settings o)) (fields_are : fields ≡ field_rows_in held set (settings o)) where
  says : Says (settings o) set messages fields
  says =
      rw (messages_are, fields_are, held_zeros (length held) held set (settings o) roomy.clear)
      (tables_say set (settings o) accepted.limits accepted.named (length old) (length held) roomy.messages_room roomy.fields_room)

  there : file < length (parts 1 (entries set))
  there = let a = files_counted set in let h = accepted.there in omega arith

  module _ (i : ℕ) (p : Bytes) (numbered : i ≡ first_number messages 0 (parts 1 (entries set)) file) (part_is : p ≡ part_at (parts 1 (entries set)) file) where
    text_is : text_of_file (settings o) set messages fields i p ≡ call_text set o file
    text_is = rw (numbered, part_is) (call_text_is (settings o) set messages fields accepted.limits accepted.named says file there)

    pub text_short : length (text_of_file (settings o) set messages fields i p) < 2 ^ 63
    text_short =
        let e = ap length text_is in
        let h = call_bounded o set accepted.options accepted.limits file accepted.there in
        omega arith

    abbrev file_is : FileDescriptor
    file_is = file_at (decode_set set) file

    module _ (faults : Faults) (found : faults ≡ faults_of_file (settings o) set messages fields i p) where
      faults_are : faults ≡ record { overlap = variants_overlap (settings o) file_is; default = defaults_fail (settings o) file_is }
      faults_are = found ∙ rw (numbered, part_is) (call_faults_are (settings o) set messages fields accepted.limits accepted.named says file there)

      overlap_is : variants_overlap (settings o) file_is ≡ faults.overlap
      overlap_is = sym (ap (λ (x : Faults). x.overlap) faults_are)

      default_is : defaults_fail (settings o) file_is ≡ faults.default
      default_is = sym (ap (λ (x : Faults). x.default) faults_are)

      module _ (t : List ℕ) where
        abbrev Answered : List ℕ → Result ℕ Refusal → Type 0
        Answered t' r = Answers (by_text (settings o) (decode_set set) (length t) file_is) (call_text set o file) t t' r

        pub overlaps : faults.overlap ≡ true → Answered t (Err Variants)
        unfolding by_text choose
        overlaps h = refuses Variants _ (call_text set o file) t (rw (overlap_is, h) refl)

        module _ (apart : faults.overlap ≡ false) where
          pub default_fails : faults.default ≡ true → Answered t (Err BytesDefault)
          unfolding by_text choose
          default_fails h = refuses BytesDefault _ (call_text set o file) t (rw (overlap_is, apart, default_is, h) refl)

          good_is : faults.default ≡ false → by_room (length t) (length (call_text set o file)) ≡ by_text (settings o) (decode_set set) (length t) file_is
          unfolding by_text choose
          good_is h = rw (overlap_is, apart, default_is, h) refl

          pub fault_free : faults.default ≡ false → (t' : List ℕ) (r : Result ℕ Refusal) → Whole (text_of_file (settings o) set messages fields i p) t t' r → Answered t' r
          fault_free h t' r w =
              subst (λ (x : Result ℕ Refusal). Answers x (call_text set o file) t t' r) (good_is h)
              (subst (λ (q : List ℕ). Whole q t t' r) text_is w)
