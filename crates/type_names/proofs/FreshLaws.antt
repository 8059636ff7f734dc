-- Full names that were not declared before differ. Assumes nothing.
use mathlib.Core.Path.{◌≡◌, refl, sym, ap, ◌∙◌}
use mathlib.Core.Bool.{Bool, true, false, ◌&&◌, ◌||◌, not}
use mathlib.Core.List.{List, [], ◌∷◌, ◌++◌, map, append-nil}
use Prim.Native.Nat.{ℕ, zero, suc, ◌<◌}
use native.Mathlib.Omega.{arith}
use lib.ListN.{length, get_or}
use borrow.Author.Tests.{not-true}
use Rattle.base.specs.Bytes.{same, same_refl, same_sound}
use Rattle.base.specs.Choose.{choose, choose_case}
use Rattle.base.specs.Tests.{and_left, and_right, or_false_left, or_false_right, both_ways}
use Rattle.name_rules.proofs.AppendLaws.{declared_append}
use Rattle.descriptor.specs.Descriptor.{Bytes}
use Rattle.name_rules.specs.FullNames.{Declaration, declared, declared_as, equals, fresh}

abbrev pub fulls : List Declaration → List Bytes
fulls = map (λ (d : Declaration). d.full)

-- fewer before: not declared among more, not declared among fewer
abbrev pub Among : List Declaration → List Declaration → Type 0
Among b c = (x : Bytes) → declared x c ≡ false → declared x b ≡ false

among_more : (b c : List Declaration) (d : Declaration) → Among b c → Among (d ∷ b) (d ∷ c)
unfolding declared
among_more b c d h x e =
    rw (or_false_left (same d.full x) (declared x c) e) (h x (or_false_right (same d.full x) (declared x c) e))

fresh_first : (b : List Declaration) (d : Declaration) (ds : List Declaration) → fresh b (d ∷ ds) ≡ true → declared d.full b ≡ false
unfolding fresh
fresh_first b d ds h = not-true (declared d.full b) (and_left (not (declared d.full b)) (fresh (d ∷ b) ds) h)

fresh_rest : (b : List Declaration) (d : Declaration) (ds : List Declaration) → fresh b (d ∷ ds) ≡ true → fresh (d ∷ b) ds ≡ true
unfolding fresh
fresh_rest b d ds h = and_right (not (declared d.full b)) (fresh (d ∷ b) ds) h

fresh_cons : (b : List Declaration) (d : Declaration) (ds : List Declaration) → declared d.full b ≡ false → fresh (d ∷ b) ds ≡ true → fresh b (d ∷ ds) ≡ true
unfolding fresh
fresh_cons b d ds e h = rw e h

pub fresh_fewer : (b c ds : List Declaration) → Among b c → fresh c ds ≡ true → fresh b ds ≡ true
unfolding fresh
fresh_fewer b c [] a h = refl
fresh_fewer b c (d ∷ ds) a h =
    fresh_cons b d ds (a d.full (fresh_first c d ds h)) (fresh_fewer (d ∷ b) (d ∷ c) ds (among_more b c d a) (fresh_rest c d ds h))

-- those in front, and then those behind them
moved : (b : List Declaration) (d : Declaration) (ds : List Declaration) → Among ((d ∷ b) ++ ds) (b ++ (d ∷ ds))
unfolding declared
moved b d ds x e =
    let both : (declared x b || (same d.full x || declared x ds)) ≡ false = sym (declared_append x b (d ∷ ds)) ∙ e in
    let behind = or_false_right (declared x b) (same d.full x || declared x ds) both in
    rw (or_false_left (same d.full x) (declared x ds) behind)
    (declared_append x b ds ∙ rw (or_false_left (declared x b) (same d.full x || declared x ds) both) (or_false_right (same d.full x) (declared x ds) behind))

pub fresh_append : (b ds es : List Declaration) → fresh b ds ≡ true → fresh (b ++ ds) es ≡ true → fresh b (ds ++ es) ≡ true
fresh_append b [] es h k = ap (λ (c : List Declaration). fresh c es) (sym (append-nil b)) ∙ k
fresh_append b (d ∷ ds) es h k =
    fresh_cons b d (ds ++ es) (fresh_first b d ds h) (fresh_append (d ∷ b) ds es (fresh_rest b d ds h) (fresh_fewer ((d ∷ b) ++ ds) (b ++ (d ∷ ds)) es (moved b d ds) k))

-- ---- by position
behind_first : (b : List Declaration) (d : Declaration) → Among b (d ∷ b)
unfolding declared
behind_first b d x e = or_false_right (same d.full x) (declared x b) e

not_first : (b : List Declaration) (d : Declaration) (x : Bytes) → declared x (d ∷ b) ≡ false → d.full ≡ x → ⊥
unfolding declared
not_first b d x e q = both_ways (ap (same d.full) (sym q) ∙ same_refl d.full) (or_false_left (same d.full x) (declared x b) e)

not_before : (b ds : List Declaration) → fresh b ds ≡ true → (j : ℕ) → j < length ds → declared (get_or (fulls ds) j []) b ≡ false
not_before b [] h j l = absurd (omega arith)
not_before b (d ∷ ds) h zero l = fresh_first b d ds h
not_before b (d ∷ ds) h (suc j) l = not_before b ds (fresh_fewer b (d ∷ b) ds (behind_first b d) (fresh_rest b d ds h)) j (omega arith)

pub apart : (b ds : List Declaration) → fresh b ds ≡ true → (i j : ℕ) → i < j → j < length ds → get_or (fulls ds) i [] ≡ get_or (fulls ds) j [] → ⊥
apart b [] h i j l k e = absurd (omega arith)
apart b (d ∷ ds) h zero zero l k e = absurd (omega arith)
apart b (d ∷ ds) h zero (suc j) l k e = not_first b d (get_or (fulls ds) j []) (not_before (d ∷ b) ds (fresh_rest b d ds h) j (omega arith)) e
apart b (d ∷ ds) h (suc i) zero l k e = absurd (omega arith)
apart b (d ∷ ds) h (suc i) (suc j) l k e = apart (d ∷ b) ds (fresh_rest b d ds h) i j (omega arith) (omega arith) e

-- ---- the messages alone
unfoldable pub messages_only : List Declaration → List Declaration
messages_only [] = []
messages_only (d ∷ ds) = choose d.is_enumeration (messages_only ds) (d ∷ messages_only ds)

pub messages_fresh : (b ds : List Declaration) → fresh b ds ≡ true → fresh b (messages_only ds) ≡ true
unfolding messages_only
messages_fresh b [] h = h
messages_fresh b (d ∷ ds) h =
    choose_case (λ (es : List Declaration). fresh b es ≡ true) d.is_enumeration
    (λ _. messages_fresh b ds (fresh_fewer b (d ∷ b) ds (behind_first b d) (fresh_rest b d ds h)))
    (λ _. fresh_cons b d (messages_only ds) (fresh_first b d ds h) (messages_fresh (d ∷ b) ds (fresh_rest b d ds h)))

by_sort : (d : Declaration) (t : Bool) (xs ys zs : List Declaration) → xs ≡ ys ++ zs → choose t xs (d ∷ xs) ≡ choose t ys (d ∷ ys) ++ zs
unfolding choose
by_sort d true xs ys zs e = e
by_sort d false xs ys zs e = ap (λ (l : List Declaration). d ∷ l) e

pub messages_append : (ds es : List Declaration) → messages_only (ds ++ es) ≡ messages_only ds ++ messages_only es
unfolding messages_only
messages_append [] es = refl
messages_append (d ∷ ds) es = by_sort d d.is_enumeration (messages_only (ds ++ es)) (messages_only ds) (messages_only es) (messages_append ds es)

pub declared_message : (name : Bytes) (ds : List Declaration) → declared_as false name ds ≡ declared name (messages_only ds)
unfolding declared_as declared messages_only choose
declared_message name [] = refl
declared_message name (d ∷ ds) = sorted d d.is_enumeration (declared_message name ds)
  where
    sorted : (d : Declaration) (t : Bool) → declared_as false name ds ≡ declared name (messages_only ds)
        → ((equals t false && same d.full name) || declared_as false name ds) ≡ declared name (choose t (messages_only ds) (d ∷ messages_only ds))
    sorted d true e = e
    sorted d false e = ap (λ (y : Bool). same d.full name || y) e

-- ---- where a declared name stands
pub record Stands (names : List Bytes) (name : Bytes) : Type 0 where
  pub place : ℕ
  pub below : place < length names
  pub named : get_or names place [] ≡ name

or_place : (x : Bool) (y : Bool) → (x || y) ≡ true → x ≡ false → y ≡ true
or_place true y h e = both_ways refl e
or_place false y h e = h

pub stands : (name : Bytes) (ds : List Declaration) → declared name ds ≡ true → Stands (fulls ds) name
unfolding declared
stands name [] h = both_ways h refl
stands name (d ∷ ds) h = first (same d.full name) refl (λ e. stands name ds (or_place (same d.full name) (declared name ds) h e))
  where
    first : (t : Bool) → same d.full name ≡ t → (same d.full name ≡ false → Stands (fulls ds) name) → Stands (fulls (d ∷ ds)) name
    first true e next = record { place = 0; below = omega arith; named = same_sound d.full name e }
    first false e next = let s = next e in let b = s.below in record { place = suc s.place; below = omega arith; named = s.named }
