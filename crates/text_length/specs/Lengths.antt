-- How long what is put together can be. Assumes nothing.
use Rattle.std.specs.Prelude.{Bool, true, false, List, ◌++◌, ℕ, zero, suc, ◌+◌, ◌*◌, ◌≤◌, length}
use Rattle.std.proofs.Common.{arith, length-append}
use Rattle.writer.specs.Text.{each, indent}
use Rattle.code_generator.specs.Piece.{Text, nothing, piece, ◌⟫◌, when, either, ◌▹◌, ◌◃◌, Piece, Mark, written, flat, push_indent}

-- a text has at most n bytes
pub record AtMost (n : ℕ) (x : Text) : Type 0 where
  pub bytes : length (flat x) ≤ n

cat : (x y : List ℕ) (m n : ℕ) → length x ≤ m → length y ≤ n → length (x ++ y) ≤ m + n
cat x y m n h k = let e = length-append x y in omega arith

infixl 60 ◌then◌
pub ◌then◌ : {m n : ℕ} {x y : Text} → AtMost m x → AtMost n y → AtMost (m + n) (x ⟫ y)
◌then◌ {m} {n} {x} {y} h k = record { bytes = cat (flat x) (flat y) m n h.bytes k.bytes }

pub none_long : AtMost 0 nothing
none_long = record { bytes = omega arith }

pub piece_long : {n : ℕ} (p : Piece) → length (written p) ≤ n → AtMost n (piece p)
piece_long p h = record { bytes = h }

pub when_long : (c : Bool) {n : ℕ} {x : Text} → AtMost n x → AtMost n (when c x)
when_long true h = record { bytes = h.bytes }
when_long false h = record { bytes = omega arith }

pub either_long : (c : Bool) {m n : ℕ} {x y : Text} → AtMost m x → AtMost n y → AtMost (m + n) (either c x y)
either_long true {m} {n} {x} h k = let e = h.bytes in record { bytes = omega arith }
either_long false {m} {n} {x} {y} h k = let e = k.bytes in record { bytes = omega arith }

pub behind_mark : (m : Mark) {n : ℕ} {x : Text} → AtMost n x → AtMost n (m ▹ x)
behind_mark m h = record { bytes = h.bytes }

pub before_mark : (m : Mark) {n : ℕ} {x : Text} → AtMost n x → AtMost n (x ◃ m)
before_mark m h = record { bytes = h.bytes }

pub wider : {m : ℕ} (n : ℕ) {x : Text} → AtMost m x → m ≤ n → AtMost n x
wider {m} n {x} h k = let e = h.bytes in record { bytes = omega arith }

each_long : (g : ℕ → List ℕ) (m : ℕ) → ((i : ℕ) → length (g i) ≤ m) → (n : ℕ) → length (each g n) ≤ n * m
each_long g m h zero = omega arith
each_long g m h (suc n) = let k = cat (each g n) (g n) (n * m) m (each_long g m h n) (h n) in omega arith

indent_length : (d : ℕ) → length (indent d) ≤ d * 4
unfolding indent
indent_length d = each_long _ 4 (λ i. omega arith) d

pub indent_long : (d : ℕ) → d ≤ 25 → AtMost 100 (push_indent d)
indent_long d h = let e = indent_length d in piece_long _ (omega arith)
