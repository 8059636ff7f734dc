-- How long a written name is at most, whatever its bytes. Assumes nothing.
use Rattle.std.specs.Prelude.{ℕ, suc, ◌+◌, ◌≤◌, true, List, [], ◌∷◌, eqb, length, get_or}
use Rattle.std.proofs.Common.{arith}
use Rattle.std.proofs.Math.Option.{Option, some, none}
use Rattle.base.specs.Choose.{choose_case}
use Rattle.heck.specs.Case.{is_upper}
use Rattle.heck.specs.Pass.{cased}
use Rattle.heck.specs.declared.State.TheVariants.{Start}
use Rattle.heck.proofs.Spelling.{camel_cased}
use Rattle.heck.proofs.Lengths.{camel_length}
use Rattle.ident.specs.Ident.{sanitize_identifier, to_upper_camel, strip_prefix, true_prefix, strip_enum_prefix}
use Rattle.ident.proofs.Sizes.{sanitized_length}

sanitized_room : (s : List ℕ) → length (sanitize_identifier s) ≤ length s + 10
sanitized_room s = sanitized_length s (length s + 10) (omega arith) (omega arith) (λ d. omega arith)

pub camel_room : (s : List ℕ) → length (to_upper_camel s) ≤ length s + 10
unfolding to_upper_camel
camel_room s = let h = camel_length Start s in let k = sanitized_room (cased true Start s) in rw (← camel_cased s) (omega arith)

-- ---- what stands behind a prefix is no longer than the name
abbrev Within : Option (List ℕ) → ℕ → Type 0
Within none n = Unit {0}
Within (some r) n = length r ≤ n

one_more : (o : Option (List ℕ)) (n : ℕ) → Within o n → Within o (suc n)
one_more none n h = tt
one_more (some r) n h = omega arith

strip_within : (p s : List ℕ) → Within (strip_prefix p s) (length s)
unfolding strip_prefix
strip_within [] s = omega arith
strip_within (p ∷ ps) [] = tt
strip_within (p ∷ ps) (c ∷ s) = choose_case (λ (o : Option (List ℕ)). Within o (suc (length s))) (eqb p c) (λ _. one_more (strip_prefix ps s) (length s) (strip_within ps s)) (λ _. tt)

true_within : (o : Option (List ℕ)) (s : List ℕ) → Within o (length s) → length (true_prefix o s) ≤ length s
unfolding true_prefix
true_within none s h = omega arith
true_within (some r) s h = choose_case (λ (x : List ℕ). length x ≤ length s) (is_upper (get_or r 0 0)) (λ _. h) (λ _. omega arith)

pub stripped_room : (p s : List ℕ) → length (strip_enum_prefix p s) ≤ length s + 10
unfolding strip_enum_prefix
stripped_room p s =
    let h = true_within (strip_prefix p s) s (strip_within p s) in
    let k = sanitized_room (true_prefix (strip_prefix p s) s) in
    omega arith
