-- What is written by one extern path, and by one of prost types. Assumes nothing.
use mathlib.Core.Path.{◌≡◌, refl, sym, ◌∙◌}
use mathlib.Core.Bool.{Bool, true, false}
use mathlib.Core.List.{List, [], ◌∷◌, ◌++◌}
use Prim.Native.Nat.{ℕ, zero, suc, min, ◌+◌, ◌-◌, ◌<◌}
use native.Mathlib.Omega.{arith}
use lib.ListN.{length, take, drop, get_or, length-drop}
use lib.Seq.{take_all}
use Rattle.base.specs.Choose.{choose}
use Rattle.base.specs.Tests.{and_left, and_right}
use Rattle.base.specs.Bytes.{b}
use Rattle.base.proofs.BytesLaws.{same_bytes}
use Rattle.split.specs.Split.{begins, split, first_part}
use Rattle.split.proofs.SplitLaws.{parts_behind, split_is}
use Rattle.std.specs.Str.{bytes_eq}
use Rattle.std.specs.List.{list_all}
use Rattle.rust_paths.specs.Segments.{behind_prefix, extern_text}
use Rattle.rust_paths.specs.Parts.{led_parts, path_text, is_tail}
use Rattle.rust_paths.proofs.PartLaws.{text_more, drop_within}
use Rattle.extern_paths.specs.ExternPaths.{extern, resolve_by}

-- ---- by an extern path
module _ (path value ident : List ℕ) (r : Bool) (q : r ≡ bytes_eq path ident) where
  pub by_itself : r ≡ true → value ≡ extern_text (resolve_by (extern path value) ident)
  unfolding extern_text resolve_by choose
  by_itself t = rw (← same_bytes path ident, ← q, t) refl

  pub by_prefix : r ≡ false → path_text value ++ led_parts true (b ".") (drop (length path + 1) ident) ≡ extern_text (resolve_by (extern path value) ident)
  unfolding path_text led_parts resolve_by choose
  by_prefix t =
      let n = first_part (b "::") value in
      rw (← same_bytes path ident, ← q, t, split_is (b "::") value (omega arith)) (sym (text_more (parts_behind (b "::") n value) (take n value) (behind_prefix (split (b ".") (drop (length path + 1) ident)))))

pub tail_none : is_tail [] ≡ true
unfolding is_tail
tail_none = refl

-- ---- what follows the prost path, type by type
abbrev pub tails : List (List ℕ)
tails = [] ∷ [] ∷ b "::alloc::vec::Vec<u8>" ∷ [] ∷ [] ∷ [] ∷ [] ∷ [] ∷ b "::alloc::string::String" ∷ [] ∷ [] ∷ []

tails_good : list_all is_tail tails ≡ true
unfolding is_tail begins
tails_good = refl

pub tail_at : (j : ℕ) (q : List ℕ) → q ≡ get_or tails j [] → is_tail q ≡ true
tail_at j q e = rw e (go tails tails_good j)
  where
    go : (xs : List (List ℕ)) → list_all is_tail xs ≡ true → (j : ℕ) → is_tail (get_or xs j []) ≡ true
    go [] h j = tail_none
    go (x ∷ xs) h zero = and_left (is_tail x) (list_all is_tail xs) h
    go (x ∷ xs) h (suc j) = go xs (and_right (is_tail x) (list_all is_tail xs) h) j

-- what is written behind a prefix
pub behind_is : (s : List ℕ) (at from : ℕ) → from ≡ min at (length s) → take (length s - from) (drop from s) ≡ drop at s
behind_is s at from e = take_all (length s - from) (drop from s) (rw length-drop (omega arith)) ∙ drop_within s at from e
