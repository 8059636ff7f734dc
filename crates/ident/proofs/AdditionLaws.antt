-- What sanitising adds is seen from the first nine bytes of a name, since no listed word is as long. Assumes nothing.
use mathlib.Core.Path.{◌≡◌, refl, sym, ap, ◌∙◌}
use mathlib.Core.Bool.{Bool, true, ◌&&◌, ◌||◌}
use mathlib.Core.List.{List, [], ◌∷◌, ◌++◌}
use Prim.Native.Nat.{ℕ, zero, suc, ◌+◌, ◌^◌, ◌<◌, ◌≤◌, min}
use native.Mathlib.Omega.{arith}
use lib.Dec.{ltb, eqb}
use lib.ListN.{length, take, drop, length-take}
use lib.Seq.{sets-eq, take_all, take_at, get_or-take}
use borrow.Author.Tests.{ltb-true}
use Rattle.base.specs.Tests.{and_left, and_right}
use Rattle.base.specs.Bytes.{same}
use Rattle.writer.specs.Draft.{Draft, most, extended, Filled}
use Rattle.writer.specs.Writing.{◌▻◌}
use Rattle.writer.specs.declared.text.Text.{Text}
use Rattle.writer.proofs.Laying.{sets-take}
use Rattle.writer.proofs.TextLaws.{appended, put-nothing, measured}
use Rattle.ident.specs.Ident.{among, raw_words, kept_words, addition, sanitize_identifier}
use Rattle.ident.specs.Added.{before, behind, sanitized_around}
use Rattle.ident.specs.declared.keywords.Addition.{Addition}

short : ℕ → List (List ℕ) → Bool
short n [] = true
short n (w ∷ ws) = ltb (length w) n && short n ws

-- ---- the first bytes
same_front : (n : ℕ) (x w : List ℕ) → length w < n → same (take n x) w ≡ same x w
unfolding same
same_front zero x w h = absurd (omega arith)
same_front (suc n) [] w h = refl
same_front (suc n) (c ∷ x) [] h = refl
same_front (suc n) (c ∷ x) (d ∷ w) h = ap (λ (t : Bool). eqb c d && t) (same_front n x w (omega arith))

among_front : (n : ℕ) (x : List ℕ) (ws : List (List ℕ)) → short n ws ≡ true → among (take n x) ws ≡ among x ws
unfolding among short
among_front n x [] h = refl
among_front n x (w ∷ ws) h =
    rw (same_front n x w (ltb-true (length w) n (and_left (ltb (length w) n) (short n ws) h)))
    (ap (λ (t : Bool). same x w || t) (among_front n x ws (and_right (ltb (length w) n) (short n ws) h)))

addition_front : (x : List ℕ) → addition (take 9 x) ≡ addition x
unfolding addition short raw_words kept_words
addition_front x =
    rw (among_front 9 x raw_words refl, among_front 9 x kept_words refl, get_or-take 9 x 0 0 (omega arith))

-- ---- a name in a buffer
-- as many bytes as there is room for
front_of : {old p new : List ℕ} {n : ℕ} → Filled old p new n → length old < 2 ^ 63 → take (min n (length old)) new ≡ take (length old) p
unfolding extended
front_of {old} {p} {new} {n} w h =
    let m : n ≡ min (length p) most = measured w in
    let l : length (take (length old) p) ≡ min (length old) (length p) = length-take (length old) p in
    ap (take (min n (length old))) (ap (λ (d : Draft). d.buffer) w.is ∙ sets-take old p 0 most (omega arith) ∙ sym (sets-take old p 0 (length old) (omega arith)) ∙ sets-eq (take (length old) p) old 0 (omega arith))
    ∙ take_at (take (length old) p) (drop (0 + length (take (length old) p)) old) (min n (length old)) (omega arith)

pub head_addition : (old p new : List ℕ) (n : ℕ) → Filled old p new n → length old ≡ 9 → addition (take (min n 9) new) ≡ addition p
head_addition old p new n w h =
    let f : take (min n 9) new ≡ take 9 p = rw h at (front_of w (omega arith)) in
    ap addition f ∙ addition_front p

pub whole_name : (old p new : List ℕ) (n : ℕ) → Filled old p new n → n ≤ length old → length old < 2 ^ 63 → take n new ≡ p
whole_name old p new n w h k =
    let m : n ≡ min (length p) most = measured w in
    let e : min n (length old) ≡ n = omega arith in
    let f : take n new ≡ take (length old) p = rw e at (front_of w k) in
    f ∙ take_all (length old) p (omega arith)

-- ---- a name with what sanitising adds
pub sanitized : (t t₁ t₂ t₃ : Text) (added : Addition) (x : List ℕ) → added ≡ addition x → t₁ ≡ t ▻ before added → t₂ ≡ t₁ ▻ x → t₃ ≡ t₂ ▻ behind added → t₃ ≡ t ▻ sanitize_identifier x
sanitized t t₁ t₂ t₃ added x e f g h =
    appended t t₂ t₃ (before added ++ x) (behind added) (appended t t₁ t₂ (before added) x f g) h
    ∙ ap (λ (l : List ℕ). t ▻ l) (sanitized_around added x e)

pub nothing_put : (t : Text) → t ≡ t ▻ []
nothing_put t = sym (put-nothing t)
