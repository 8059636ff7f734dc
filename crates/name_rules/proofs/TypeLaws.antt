-- The numbers of types are those from 1 to 18. Assumes nothing.
use Rattle.std.proofs.Common.{◌≡◌, ℕ, zero, suc, ◌<◌, ◌≤◌, Bool, true, false, List, [], ◌∷◌, drop, get_or, length, refl, sym, ap, arith, Result, Ok, Err, is_ok}
use Rattle.std.specs.Prelude.{◌&&◌, leb, ltb, MatchResult}
use Rattle.std.specs.List.{list_all}
use borrow.Author.Tests.{ltb-true, leb-true}
use Rattle.base.specs.Tests.{and_left, and_right, and_false}
use Rattle.field_types.specs.Types.{FieldType, types, type_at, no_type}
use Rattle.field_types.specs.Kinds.{number}
use Rattle.field_types.specs.declared.kinds.UnknownType.{UnknownType}
use Rattle.field_types.specs.declared.kinds.«Type».{«Type» as Kind}
use Rattle.field_types.specs.declared.kinds.«Type».TheVariants as kinds

-- a type has a sort
abbrev has_sort : FieldType → Bool
has_sort t = ltb 0 t.sort

sort_at : (ts : List FieldType) → list_all has_sort ts ≡ true → (k : ℕ) → k < length ts → 0 < (get_or ts k no_type).sort
sort_at [] h k l = absurd (omega arith)
sort_at (t ∷ ts) h zero l = ltb-true 0 t.sort (and_left (has_sort t) (list_all has_sort ts) h)
sort_at (t ∷ ts) h (suc k) l = sort_at ts (and_right (has_sort t) (list_all has_sort ts) h) k (omega arith)

none_known : (n : ℕ) → type_at n ≡ no_type → (leb 1 n && leb n 18) ≡ false
none_known zero e = refl
none_known (suc k) e = and_false (leb 1 (suc k)) (leb (suc k) 18) (off (leb (suc k) 18) refl)
  where
    off : (t : Bool) → leb (suc k) 18 ≡ t → t ≡ false
    off false h = refl
    off true h =
        let low : suc k ≤ 18 = leb-true (suc k) 18 h in
        let some : 0 < (get_or (drop 1 types) k no_type).sort = sort_at (drop 1 types) refl k (omega arith) in
        let none : (get_or (drop 1 types) k no_type).sort ≡ 0 = ap (λ (t : FieldType). t.sort) e in
        absurd (omega arith)

known_number : (t : Kind) → true ≡ (leb 1 (number t) && leb (number t) 18)
known_number kinds.Double = refl
known_number kinds.Float = refl
known_number kinds.Int64 = refl
known_number kinds.Uint64 = refl
known_number kinds.Int32 = refl
known_number kinds.Fixed64 = refl
known_number kinds.Fixed32 = refl
known_number kinds.Bool = refl
known_number kinds.String = refl
known_number kinds.Group = refl
known_number kinds.Message = refl
known_number kinds.Bytes = refl
known_number kinds.Uint32 = refl
known_number kinds.Enum = refl
known_number kinds.Sfixed32 = refl
known_number kinds.Sfixed64 = refl
known_number kinds.Sint32 = refl
known_number kinds.Sint64 = refl

pub known_type : (n : ℕ) (r : Result Kind UnknownType) → MatchResult r (λ t. number t ≡ n) (λ _. type_at n ≡ no_type) → is_ok r ≡ (leb 1 n && leb n 18)
known_type n (Ok t) e = rw (← e) (known_number t)
known_type n (Err x) e = sym (none_known n e)
