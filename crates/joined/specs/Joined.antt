-- A full name with a name behind it, in a buffer. Assumes nothing.
use Rattle.std.specs.Prelude.{◌≡◌, Bool, true, false, List, ℕ, ◌+◌, ◌-◌, ◌≤◌, ◌<◌, ◌^◌, min, leb, drop}
use Rattle.std.proofs.Common.{refl, sym, ◌∙◌, take-append-drop, take_all, length-take-le, le-leb}
use Rattle.std.proofs.Math.Path.{ap}
use native.Mathlib.Omega.{arith}
use Rattle.std.proofs.Math.Decide.{dec_le}
use Rattle.std.proofs.Math.ListN.{length, take}
use Rattle.std.proofs.Math.Seq.{sets-eq, take-append_seam}
use Rattle.std.proofs.lemmas.Bool.{lt-leb}
use Rattle.std.proofs.lemmas.List.{take_min}
use Rattle.writer.specs.Wrote.{Wrote, over, after, kept, over_cut, over_length}
use Rattle.writer.specs.Draft.{Draft, most, extended, Filled}
use Rattle.writer.proofs.Laying.{sets-take}
use Rattle.base.specs.Choose.{choose}
use Rattle.descriptor.specs.Descriptor.{Bytes}
use Rattle.name_rules.specs.FullNames.{◌·◌}

-- the buffer's length
abbrev pub max_path : ℕ
max_path = 512

-- is there room for it?
unfoldable pub fits : Bytes → Bytes → Bool
fits scope name = leb (length (scope · name)) max_path

-- the path as far as the buffer goes
infixl 65 ◌⊙◌
unfoldable pub ◌⊙◌ : Bytes → Bytes → Bytes
scope ⊙ name = take max_path (scope · name)

pub whole_path : (scope name : Bytes) → length (scope · name) ≤ max_path → scope ⊙ name ≡ scope · name
unfolding ◌⊙◌
whole_path scope name h = take_all max_path (scope · name) h

-- what is known of a text in a buffer of that length by the place r behind it
module _ {t t' p : List ℕ} {r : ℕ} (w : Wrote t 0 p t' r) (size : length t ≡ max_path) where
  ends : r ≡ min (length p) (2 ^ 63)
  unfolding after
  ends = w.next ∙ omega arith

  pub has_room : r ≤ max_path → leb (length p) max_path ≡ true
  has_room h = let e = ends in le-leb (length p) max_path (omega arith)

  pub no_room : max_path < r → leb (length p) max_path ≡ false
  no_room h = let e = ends in lt-leb (length p) max_path (omega arith)

  pub held : r ≤ max_path → take (r - 0) (drop 0 t') ≡ p
  unfolding over
  held h =
      let e = ends in
      let n : r - 0 ≡ length p = omega arith in
      ap (λ (k : ℕ). take k t') n
      ∙ ap (take (length p)) (w.text ∙ sets-eq p t 0 (omega arith))
      ∙ take-append_seam p (drop (0 + length p) t)

-- a text laid over a buffer from its start: what the buffer has of it
over_short : (t p : List ℕ) → length p ≤ length t → take (length p) (over t 0 p) ≡ p
unfolding over
over_short t p h = ap (take (length p)) (sets-eq p t 0 (omega arith)) ∙ take-append_seam p (drop (0 + length p) t)

over_long : (t p : List ℕ) → length t < length p → take (length t) (over t 0 p) ≡ take (length t) p
over_long t p h =
    let m : length (take (length t) p) ≡ length t = length-take-le (length t) p (omega arith) in
    ap (take (length t)) (ap (over t 0) (sym (take-append-drop (length t) p)) ∙ over_cut t 0 (take (length t) p) (drop (length t) p) (omega arith))
    ∙ ap (λ (k : ℕ). take k (over t 0 (take (length t) p))) (sym m)
    ∙ over_short t (take (length t) p) (omega arith)

by_room : (t p : List ℕ) (n : ℕ) → n ≡ min (length p) (length t) → Dec (length p ≤ length t) → take n (over t 0 p) ≡ take (length t) p
by_room t p n e (yes h) =
    let m : n ≡ length p = omega arith in ap (λ (k : ℕ). take k (over t 0 p)) m ∙ over_short t p h ∙ sym (take_all (length t) p h)
by_room t p n e (no h) = let m : n ≡ length t = omega arith in ap (λ (k : ℕ). take k (over t 0 p)) m ∙ over_long t p (omega arith)

-- a text in a buffer of that length
module _ {t p t' : List ℕ} {n : ℕ} (w : Filled t p t' n) (size : length t ≡ max_path) where
  long : n ≡ min (length p) most
  unfolding extended
  long = ap (λ (d : Draft). d.length) w.is ∙ omega arith

  laid : t' ≡ over t 0 p
  unfolding extended over
  laid = ap (λ (d : Draft). d.buffer) w.is ∙ sets-take t p 0 most (omega arith)

  -- so many bytes of it are used
  pub text_used : {k : ℕ} → k ≡ min n max_path → take k t' ≡ take max_path p
  text_used {k} e =
      let l = long in
      let m : k ≡ min (length p) (length t) = omega arith in
      ap (take k) laid ∙ by_room t p k m (dec_le (length p) (length t)) ∙ ap (λ (k : ℕ). take k p) size

  -- it is there as a whole, or is too long
  pub text_whole : {A : Type 0} (f : Bytes → A) (z : A) → n ≤ max_path → f (take n t') ≡ choose (leb (length p) max_path) (f p) z
  unfolding choose
  text_whole f z h =
      let l = long in
      rw (le-leb (length p) max_path (omega arith)) (ap f (text_used (omega arith) ∙ take_all max_path p (omega arith)))

  pub text_long : {A : Type 0} (f : Bytes → A) (z : A) → max_path < n → z ≡ choose (leb (length p) max_path) (f p) z
  unfolding choose
  text_long f z h =
      let l = long in
      rw (lt-leb (length p) max_path (omega arith)) refl

  -- its bytes in the buffer are those that fit
  pub text_cut : take n t' ≡ take max_path p
  text_cut =
      let l : length t' ≡ max_path = ap length laid ∙ over_length t 0 p ∙ size in
      sym (take_min n t') ∙ text_used (ap (min n) l)

  -- it is there as a whole where its length fits
  pub text_fitting : {A : Type 0} (f : Bytes → A) (z : A) → choose (leb n max_path) (f (take n t')) z ≡ choose (leb (length p) max_path) (f p) z
  unfolding choose
  text_fitting f z = by (dec_le n max_path)
    where
      by : Dec (n ≤ max_path) → choose (leb n max_path) (f (take n t')) z ≡ choose (leb (length p) max_path) (f p) z
      by (yes h) = rw (le-leb n max_path h) (text_whole f z h)
      by (no h) = rw (lt-leb n max_path (omega arith)) (text_long f z (omega arith))

-- n bytes of a buffer are used
pub used : {t t' p : List ℕ} {r n : ℕ} → Wrote t 0 p t' r → n ≡ min r (length t') → (n ≤ length t') × (take n t' ≡ take (length t) p)
unfolding after
used {t} {t'} {p} {r} {n} w e =
    let l : length t' ≡ length t = kept w in
    let room : length t < 2 ^ 63 = w.room in
    let end : r ≡ 0 + min (length p) (2 ^ 63 - 0) = w.next in
    let m : n ≡ min (length p) (length t) = omega arith in
    (omega arith, ap (take n) w.text ∙ by_room t p n m (dec_le (length p) (length t)))

-- the first n bytes of a buffer, as a slice of it
pub sliced : (t p : List ℕ) (n : ℕ) → take n t ≡ p → take (n - 0) (drop 0 t) ≡ p
sliced t p n e = let m : n - 0 ≡ n = omega arith in ap (λ (k : ℕ). take k t) m ∙ e

pub path_held : (t scope : List ℕ) {name full : List ℕ} (n : ℕ) → take n t ≡ take max_path (scope · name) → name ≡ full → take (n - 0) (drop 0 t) ≡ scope ⊙ full
unfolding ◌⊙◌
path_held t scope {name} {full} n e is = sliced t _ n e ∙ ap (λ (x : List ℕ). take max_path (scope · x)) is
