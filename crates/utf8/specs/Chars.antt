-- A whole text: its characters one after the other, and that well-formed texts are the encodings of characters. Assumes nothing.
use Rattle.std.specs.Prelude.{◌≡◌, true, List, ◌++◌, ℕ, ◌≤◌, ◌<◌, length, drop}
use Rattle.std.proofs.Common.{sym, ap, ◌∙◌, arith, drop_of_length-le}
use Rattle.base.specs.Each.{each, All}
use Rattle.base.specs.Steps.{item, ended, broken, ◌then◌, whole, items, Forward, run_end, run_fault, run_item, run_ind}
use Rattle.base.specs.Encoded.{run_of, whole_run, items_run, written_back}
use Rattle.utf8.specs.Utf8.{char_at, step_of, chars_from, chars, is_utf8}
use Rattle.utf8.specs.Encode.{scalar, encode}
use Rattle.utf8.specs.Decoding.{only_encodings, decodes}
use Rattle.utf8.specs.declared.Decoded.{Decoded}
use Rattle.utf8.specs.declared.Decoded.TheVariants.{Character, Fault}

-- ---- laws of the pass over the characters
step_char : (s : List ℕ) (at c next : ℕ) → step_of (char_at s at) ≡ item c next → char_at s at ≡ Character c next
step_char s at c next = go (char_at s at)
  where
    go : (d : Decoded) → step_of d ≡ item c next → d ≡ Character c next
    go Fault e = let z : ◌≡◌ {A = ℕ} 0 1 = cc in absurd (omega arith)
    go (Character x n) e = let p : x ≡ c = cc in let q : n ≡ next = cc in cc

forward : (s : List ℕ) → Forward (λ k. step_of (char_at s k))
forward s at c next e = (only_encodings s at c next (step_char s at c next e)).forward

module _ (s : List ℕ) (i : ℕ) where
  pub chars_end : length s ≤ i → chars_from s i ≡ ended
  chars_end h = run_end (λ k. step_of (char_at s k)) (length s) i h

  module _ (h : i < length s) (r : Decoded) (e : r ≡ char_at s i) where
    pub chars_fault : r ≡ Fault → chars_from s i ≡ broken
    chars_fault is = run_fault (λ k. step_of (char_at s k)) (length s) i h (ap step_of (sym e ∙ is))

    pub chars_next : (c next : ℕ) → r ≡ Character c next → chars_from s i ≡ c then chars_from s next
    chars_next c next is = run_item (λ k. step_of (char_at s k)) (length s) (forward s) i c next h (ap step_of (sym e ∙ is))

    pub char_forward : (c next : ℕ) → r ≡ Character c next → i < next
    char_forward c next is = (only_encodings s i c next (sym e ∙ is)).forward

-- ---- each character of a text is a scalar value
pub chars_scalar : (s : List ℕ) → All (λ c. scalar c ≡ true) (chars s)
chars_scalar s =
    run_ind (λ k. step_of (char_at s k)) (length s) (forward s) (λ at r. All (λ c. scalar c ≡ true) (items r))
    (λ at h. tt) (λ at h e. tt)
    (λ at c next r h e rest. ((only_encodings s at c next (step_char s at c next e)).is_scalar, rest))
    0

-- ---- a well-formed text is the encoding of its characters
pub encoded_again : (s : List ℕ) → is_utf8 s ≡ true → each encode (chars s) ≡ s
encoded_again s =
    run_ind (λ k. step_of (char_at s k)) (length s) (forward s) (λ at r. whole r ≡ true → each encode (items r) ≡ drop at s)
    (λ at h _. sym (drop_of_length-le s {i = at} h))
    (λ at h e w. let z : ◌≡◌ {A = ℕ} 0 1 = cc in absurd (omega arith))
    (λ at c next r h e rest w. ap (λ (l : List ℕ). encode c ++ l) (rest w) ∙ sym (only_encodings s at c next (step_char s at c next e)).bytes)
    0

-- ---- the encoding of characters is well-formed, and has those characters
module _ (cs : List ℕ) (h : All (λ c. scalar c ≡ true) cs) where
  encoded_run : chars_from (each encode cs) 0 ≡ run_of cs
  encoded_run =
      written_back (λ s k. step_of (char_at s k)) encode (λ c. scalar c ≡ true) forward
      (λ s at c q is here. ap step_of (decodes s at c q is here)) cs h

  pub encoded_is_utf8 : is_utf8 (each encode cs) ≡ true
  encoded_is_utf8 = ap whole encoded_run ∙ whole_run cs

  pub encoded_chars : chars (each encode cs) ≡ cs
  encoded_chars = ap items encoded_run ∙ items_run cs
