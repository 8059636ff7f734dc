-- The order of the refusals: what a judgement of the set comes to, with 5, of the file index, between 4 and 6. Assumes nothing.
use Rattle.std.proofs.Common.{◌≡◌, refl, sym, ap, ◌∙◌, subst, arith}
use mathlib.Core.Logic.{◌⊎◌, inl, inr}
use Rattle.std.specs.Prelude.{ℕ, ◌<◌, Bool, true, false, List, eqb, ltb, length, Result, Ok, Err}
use Rattle.base.specs.Choose.{choose}
use Rattle.base.specs.Refusal.{refusal_number, returned, after}
use Rattle.base.specs.declared.refusal.Refusal.{Refusal}
use Rattle.base.specs.declared.refusal.Refusal.TheVariants.{Layout, ExternPath, Unreadable, Limit, FileIndex, Declaration, TypeName, Variants, BytesDefault, TextLength}
use Rattle.base.proofs.RefusalLaws.{not_refused}
use Rattle.wire.specs.declared.records.record.Fault.{Fault}
use Rattle.descriptor.specs.Descriptor.{Bytes, FileDescriptor}
use Rattle.descriptor.specs.Decode.{entries, parts, decode_set}
use Rattle.descriptor.specs.Limits.{passes_1, limit_passed}
use Rattle.limits.specs.Answer.{readable, read_set}
use Rattle.limits.proofs.AnswerLaws.{none_passed}
use Rattle.options.specs.Settings.{settings}
use Rattle.options.specs.Layout.{layout}
use Rattle.extern_checks.specs.Doubles.{externs}
use Rattle.name_rules.specs.Answer.{first_six, first_seven, names}
use Rattle.set_rules.specs.Judge.{judge_set}
use Rattle.calls.specs.TextCall.{by_index, by_text, file_at, text_answer}
use Rattle.text_call.specs.Answer.{Accepted, Answers}
use Rattle.text_call.proofs.FileLaws.{files_counted}

-- refusals 3 to 7, and what comes where they don't apply
unfoldable pub by_set : {A : Type 0} → Bytes → ℕ → Result A Refusal → Result A Refusal
by_set set file x =
    after (read_set set)
    (after (by_index file (length (decode_set set)))
    (after (names (decode_set set)) x))

-- what a judgement of the set comes to, where x comes after it
abbrev pub by_judged : {A : Type 0} → ℕ → ℕ → Result A Refusal → Result Unit Refusal → Result A Refusal
by_judged file count x (Ok done) = after (by_index file count) x
by_judged file count x (Err (Unreadable offset)) = Err (Unreadable offset)
by_judged file count x (Err (Limit limit)) = Err (Limit limit)
by_judged file count x (Err (Declaration bad)) = after (by_index file count) (Err (Declaration bad))
by_judged file count x (Err (TypeName bad)) = after (by_index file count) (Err (TypeName bad))
-- no judgement: `judged_only`
by_judged file count x (Err other) = Err other

-- ---- what a reading may refuse, and what the names may
abbrev pub Reading : Result Unit Refusal → Type 0
Reading (Ok done) = Unit
Reading (Err (Unreadable offset)) = Unit
Reading (Err (Limit limit)) = Unit
Reading (Err other) = ⊥

abbrev pub Naming : Result Unit Refusal → Type 0
Naming (Ok done) = Unit
Naming (Err (Declaration bad)) = Unit
Naming (Err (TypeName bad)) = Unit
Naming (Err other) = ⊥

reading : (a b : Bool) (k : Result Unit Fault) (n : ℕ) → Reading (choose a (Err (Limit 1)) (readable k (choose b (Ok tt) (Err (Limit n)))))
unfolding choose
reading true b k n = tt
reading false b (Err fault) n = tt
reading false true (Ok done) n = tt
reading false false (Ok done) n = tt

naming : (a b : Bool) (six seven : ℕ) → Naming (choose a (Err (Declaration six)) (choose b (Err (TypeName seven)) (Ok tt)))
unfolding choose
naming true b six seven = tt
naming false true six seven = tt
naming false false six seven = tt

pub read_only : (set : Bytes) → Reading (read_set set)
unfolding read_set
read_only set = reading (passes_1 set) (eqb (limit_passed set) 0) _ (limit_passed set)

pub named_only : (fs : List FileDescriptor) → Naming (names fs)
unfolding names
named_only fs = naming (ltb (first_six fs) (length fs)) (ltb (first_seven fs) (length fs)) (first_six fs) (first_seven fs)

either : (r n : Result Unit Refusal) → Reading r → Naming n → Reading (after r n) ⊎ Naming (after r n)
either (Ok done) n h k = inr k
either (Err refusal) n h k = inl h

-- a judgement of the set is 3 or 4, or 6 or 7, or none of them
pub judged_only : (set : Bytes) → Reading (judge_set set) ⊎ Naming (judge_set set)
unfolding judge_set
judged_only set = either (read_set set) (names (decode_set set)) (read_only set) (named_only (decode_set set))

-- ---- the order
in_order : {A : Type 0} (file count : ℕ) (x : Result A Refusal) (r n : Result Unit Refusal) → Reading r → Naming n → by_judged file count x (after r n) ≡ after r (after (by_index file count) (after n x))
in_order file count x (Ok done) (Ok also) h k = refl
in_order file count x (Ok done) (Err (Declaration bad)) h k = refl
in_order file count x (Ok done) (Err (TypeName bad)) h k = refl
in_order file count x (Ok done) (Err other) h k = absurd k
in_order file count x (Err (Unreadable offset)) n h k = refl
in_order file count x (Err (Limit limit)) n h k = refl
in_order file count x (Err other) n h k = absurd h

both_good : (r n : Result Unit Refusal) → after r n ≡ Ok tt → (r ≡ Ok tt) × (n ≡ Ok tt)
both_good (Ok done) n e = (refl, e)
both_good (Err refusal) n e = not_refused e

module _ (set : Bytes) (file count : ℕ) (counted : count ≡ length (parts 1 (entries set))) (j : Result Unit Refusal) (is : j ≡ judge_set set) where
  pub judged_as : {A : Type 0} (x : Result A Refusal) (k : Result Unit Refusal) → j ≡ k → by_judged file count x k ≡ by_set set file x
  unfolding judge_set by_set
  judged_as x k e =
      ap (by_judged file count x) (sym e ∙ is) ∙ in_order file count x (read_set set) (names (decode_set set)) (read_only set) (named_only (decode_set set))
      ∙ ap (λ (n : ℕ). after (read_set set) (after (by_index file n) (after (names (decode_set set)) x))) (counted ∙ files_counted set)

  pub accepts : (o : Bytes) → layout o ≡ Ok tt → j ≡ Ok tt → file < count → Accepted set o file
  unfolding judge_set
  accepts o good e h =
      let both = both_good (read_set set) (names (decode_set set)) (sym is ∙ e) in
      let n = counted ∙ files_counted set in
      record { options = good; limits = none_passed set both.0; named = both.1; there = omega arith }

-- ---- 5 in place of another refusal is a refusal too
numbered : (r : Refusal) → eqb (refusal_number r) 0 ≡ false
numbered (Layout row) = refl
numbered (ExternPath row) = refl
numbered (Unreadable offset) = refl
numbered (Limit limit) = refl
numbered (FileIndex count) = refl
numbered (Declaration file) = refl
numbered (TypeName file) = refl
numbered Variants = refl
numbered BytesDefault = refl
numbered (TextLength needed) = refl

refuses_either : (t : Bool) (count : ℕ) (r : Refusal) → eqb (returned (after (choose t (Ok tt) (Err (FileIndex count))) (Err r))).number 0 ≡ false
unfolding choose
refuses_either true count r = numbered r
refuses_either false count r = refl

pub still_refused : (file count : ℕ) (r : Refusal) (x : Result ℕ Refusal) → x ≡ after (by_index file count) (Err r) → eqb (returned x).number 0 ≡ false
unfolding by_index
still_refused file count r x e = rw e (refuses_either (ltb file count) count r)

-- the same answer by another name
pub renamed : {x y : Result ℕ Refusal} {p t t' : List ℕ} {r : Result ℕ Refusal} → x ≡ y → Answers x p t t' r → Answers y p t t' r
renamed {p = p} {t} {t'} {r} e a = subst (λ (z : Result ℕ Refusal). Answers z p t t' r) e a

-- with good options the text call comes to 3 to 7, and then 8, 9 and 10 of the file
pub options_good : (set o : Bytes) (file room : ℕ) → layout o ≡ Ok tt → externs (settings o) ≡ Ok tt
    → by_set set file (by_text (settings o) (decode_set set) room (file_at (decode_set set) file)) ≡ text_answer set o file room
unfolding text_answer by_set
options_good set o file room good externs_good = rw (good, externs_good) refl
