-- Texts written one after the other.
use Rattle.std.proofs.Common.{◌≡◌, ℕ, ◌+◌, ◌<◌, List, [], ◌∷◌, ◌++◌, length, get_or, take, sym, ap, ◌∙◌, add-one, take-suc}
use Rattle.base.specs.Each.{each, each_one, each_append}
use Rattle.writer.specs.declared.text.Text.{Text}
use Rattle.writer.specs.Writing.{◌▻◌}
use Rattle.writer.proofs.TextLaws.{put-append, put-nothing}
use Rattle.literal.specs.Escape.{escape_char, escape_byte, escape_bytes}

pub renamed : (t u : Text) (p q : List ℕ) → u ≡ t ▻ p → p ≡ q → u ≡ t ▻ q
renamed t u p q e f = e ∙ ap (λ (r : List ℕ). t ▻ r) f

-- what is written for an item, and what the rest gives
pub each-more : (f : ℕ → List ℕ) (t u : Text) (x : ℕ) (xs : List ℕ) → u ≡ t ▻ f x → u ▻ each f xs ≡ t ▻ each f (x ∷ xs)
each-more f t u x xs e = ap (λ (v : Text). v ▻ each f xs) e ∙ put-append t (f x) (each f xs)

pub each-none : (f : ℕ → List ℕ) (t : Text) → t ▻ each f [] ≡ t
each-none f t = put-nothing t

-- one item more of a list that is gone through by index
pub each-take : (f : ℕ → List ℕ) (t₀ t u : Text) (s : List ℕ) (i : ℕ) → i < length s → t ≡ t₀ ▻ each f (take i s) → u ≡ t ▻ f (get_or s i 0) → u ≡ t₀ ▻ each f (take (i + 1) s)
each-take f t₀ t u s i h e g =
    let x : ℕ = get_or s i 0 in
    let more : each f (take i s) ++ f x ≡ each f (take (i + 1) s) =
    ap (λ (l : List ℕ). each f (take i s) ++ l) (sym (each_one f x)) ∙ sym (each_append f (take i s) (x ∷ []))
    ∙ ap (each f) (sym (take-suc s i 0 h) ∙ ap (λ (k : ℕ). take k s) (sym (add-one i))) in
    g ∙ ap (λ (v : Text). v ▻ f x) e ∙ put-append t₀ (each f (take i s)) (f x) ∙ ap (λ (p : List ℕ). t₀ ▻ p) more

-- the bytes of a byte string's literal that stands in a literal, and none
pub escape_bytes-more : (t u : Text) (x : ℕ) (xs : List ℕ) → u ≡ t ▻ each escape_char (escape_byte x) → u ▻ escape_bytes xs ≡ t ▻ escape_bytes (x ∷ xs)
unfolding escape_bytes
escape_bytes-more t u x xs e =
    ap (λ (v : Text). v ▻ each escape_char (each escape_byte xs)) e
    ∙ put-append t (each escape_char (escape_byte x)) (each escape_char (each escape_byte xs))
    ∙ ap (λ (p : List ℕ). t ▻ p) (sym (each_append escape_char (escape_byte x) (each escape_byte xs)))

pub escape_bytes-none : (t : Text) → t ▻ escape_bytes [] ≡ t
unfolding escape_bytes
escape_bytes-none t = put-nothing t
