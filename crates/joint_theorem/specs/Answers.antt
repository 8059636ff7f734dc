-- What the calls' answers say: where they refuse nothing, no rule of document 01's table applies. Assumes nothing.
use Rattle.std.specs.Prelude.{ℕ, ◌≡◌, refl, Bool, true, false, ◌&&◌, List, leb, length, take, drop, Result, Ok, Err}
use Rattle.std.proofs.Common.{ap, ◌∙◌, arith}
use Rattle.std.proofs.Math.Seq.{take-append_seam}
use Rattle.base.specs.Choose.{choose}
use Rattle.base.specs.Refusal.{given, returned, after}
use Rattle.base.specs.declared.refusal.Returned.{Returned}
use Rattle.base.specs.declared.refusal.Refusal.{Refusal}
use Rattle.base.specs.declared.refusal.Refusal.TheVariants.{Layout, ExternPath, Unreadable, Limit, FileIndex, Declaration, TypeName, Variants, BytesDefault, TextLength}
use Rattle.descriptor.specs.Descriptor.{Bytes, FileDescriptor}
use Rattle.descriptor.specs.Decode.{decode_set}
use Rattle.limits.specs.Answer.{read_set}
use Rattle.options.specs.Settings.{Setting, settings}
use Rattle.options.specs.Layout.{layout}
use Rattle.extern_checks.specs.Doubles.{externs}
use Rattle.name_rules.specs.Answer.{names}
use Rattle.code_generator.specs.Generate.{file_text}
use Rattle.code_generator.specs.Refusals.{variants_overlap, defaults_fail}
use Rattle.name_check.specs.NameCheck.{name_check}
use Rattle.calls.specs.TextCall.{by_index, by_room, by_text, max_text, file_at, text_answer, text_call, call_text, text_left}
use Rattle.calls.specs.NameCall.{yes_or_no, name_answer, as_number, name_call}

-- ---- an answer that is no refusal is what comes behind each rule
number_past : (x : Refusal) {A : Type 0} → (returned (Err x)).number ≡ 0 → A
number_past (Layout row) h = absurd (omega arith)
number_past (ExternPath row) h = absurd (omega arith)
number_past (Unreadable offset) h = absurd (omega arith)
number_past (Limit limit) h = absurd (omega arith)
number_past (FileIndex count) h = absurd (omega arith)
number_past (Declaration file) h = absurd (omega arith)
number_past (TypeName file) h = absurd (omega arith)
number_past Variants h = absurd (omega arith)
number_past BytesDefault h = absurd (omega arith)
number_past (TextLength needed) h = absurd (omega arith)

past : (r : Result Unit Refusal) (x : Result ℕ Refusal) → (returned (after r x)).number ≡ 0 → (r ≡ Ok tt) × ((returned x).number ≡ 0) × (after r x ≡ x)
past (Ok done) x h = (refl, h, refl)
past (Err refusal) x h = number_past refusal h

past_room : (room n : ℕ) → (returned (by_room room n)).number ≡ 0 → by_room room n ≡ Ok n
unfolding by_room choose
past_room room n = go (leb n room && leb n max_text)
  where
    go : (t : Bool) → (returned (choose t (Ok n) (Err (TextLength n)))).number ≡ 0 → choose t (Ok n) (Err (TextLength n)) ≡ Ok n
    go true h = refl
    go false h = absurd (omega arith)

past_text : (rs : List Setting) (set : List FileDescriptor) (room : ℕ) (f : FileDescriptor) → (returned (by_text rs set room f)).number ≡ 0 → by_text rs set room f ≡ Ok (length (file_text rs set f))
unfolding by_text choose
past_text rs set room f = go (variants_overlap rs f) (defaults_fail rs f)
  where
    n : ℕ
    n = length (file_text rs set f)

    go : (t s : Bool) → (returned (choose t (Err Variants) (choose s (Err BytesDefault) (by_room room n)))).number ≡ 0 → choose t (Err Variants) (choose s (Err BytesDefault) (by_room room n)) ≡ Ok n
    go true s h = absurd (omega arith)
    go false true h = absurd (omega arith)
    go false false h = past_room room n h

yes_is : (t : Bool) → yes_or_no t ≡ 1 → t ≡ true
unfolding yes_or_no choose
yes_is true h = refl
yes_is false h = absurd (omega arith)

-- ---- the name check
-- the set has neither refusal 6 nor 7, and the names differ
pub record NamesDiffer (set options : Bytes) : Type 0 where
  pub good : names (decode_set set) ≡ Ok tt
  pub differ : name_check (settings options) (decode_set set) ≡ true

yes_behind : (a b c d : Result Unit Refusal) (t : Bool) → returned (as_number (after a (after b (after c (after d (Ok t)))))) ≡ given 1 → (d ≡ Ok tt) × (t ≡ true)
yes_behind (Err x) b c d t e = number_past x (ap (λ (z : Returned). z.number) e)
yes_behind (Ok u) (Err x) c d t e = number_past x (ap (λ (z : Returned). z.number) e)
yes_behind (Ok u) (Ok v) (Err x) d t e = number_past x (ap (λ (z : Returned). z.number) e)
yes_behind (Ok u) (Ok v) (Ok w) (Err x) t e = number_past x (ap (λ (z : Returned). z.number) e)
yes_behind (Ok u) (Ok v) (Ok w) (Ok x) t e = (refl, yes_is t (ap (λ (z : Returned). z.place) e))

pub yes_means : (set options : Bytes) → name_call set options ≡ given 1 → NamesDiffer set options
unfolding name_call name_answer
yes_means set options e =
    let h = yes_behind (layout options) (externs (settings options)) (read_set set) (names (decode_set set)) (name_check (settings options) (decode_set set)) e in
    record { good = h.0; differ = h.1 }

-- ---- the text call
module _ (set options : Bytes) (file : ℕ) (buffer : List ℕ) (h : (text_call set options file (length buffer)).number ≡ 0) where
  -- it gives the text's length
  gives_length : text_answer set options file (length buffer) ≡ Ok (length (call_text set options file))
  unfolding text_call text_answer
  gives_length =
      let files = decode_set set in
      let rs = settings options in
      let l = past (layout options) _ h in
      let x = past (externs rs) _ l.1 in
      let r = past (read_set set) _ x.1 in
      let i = past (by_index file (length files)) _ r.1 in
      let n = past (names files) _ i.1 in
      l.2 ∙ x.2 ∙ r.2 ∙ i.2 ∙ n.2 ∙ past_text rs files (length buffer) (file_at files file) n.1

  -- and that many bytes of the buffer are the text
  pub text_written : take (text_call set options file (length buffer)).place (text_left set options file buffer) ≡ call_text set options file
  unfolding text_left text_call
  text_written =
      rw gives_length (take-append_seam (call_text set options file) (drop (length (call_text set options file)) buffer))
