-- A list of numbers with room for n of them, and what is known of it where one had no room. Assumes nothing.
use Rattle.std.specs.Prelude.{ℕ, ◌+◌, ◌≡◌, refl, Bool, true, false, Option, Some, None, List, [], ◌∷◌, ◌++◌, length, leb, take}
use Rattle.std.proofs.Common.{sym, ap, ◌∙◌, append_assoc, append-nil, arith}
use Rattle.base.specs.Choose.{choose}

-- the first n numbers of a table, where it has so many
unfoldable pub first : ℕ → List ℕ → Option (List ℕ)
first n t = choose (leb n (length t)) (Some (take n t)) None

-- x behind the others, where n are enough places
unfoldable pub pushed : ℕ → Option (List ℕ) → ℕ → Option (List ℕ)
pushed n None x = None
pushed n (Some l) x = choose (leb (length l + 1) n) (Some (l ++ (x ∷ []))) None

-- each number of a list behind the others
unfoldable pub all_pushed : ℕ → Option (List ℕ) → List ℕ → Option (List ℕ)
all_pushed n o [] = o
all_pushed n o (x ∷ xs) = all_pushed n (pushed n o x) xs

-- a test of the list, which may hold where one had no room
unfoldable pub may : (List ℕ → Bool) → Option (List ℕ) → Bool
may test None = true
may test (Some l) = test l

pub all_pushed_append : (n : ℕ) (o : Option (List ℕ)) (a c : List ℕ) → all_pushed n (all_pushed n o a) c ≡ all_pushed n o (a ++ c)
unfolding all_pushed
all_pushed_append n o [] c = refl
all_pushed_append n o (x ∷ a) c = all_pushed_append n (pushed n o x) a c

none_pushed : (n : ℕ) (xs : List ℕ) → all_pushed n None xs ≡ None
unfolding all_pushed pushed
none_pushed n [] = refl
none_pushed n (x ∷ xs) = none_pushed n xs

-- a test that can't hold of what is there doesn't hold of all that were put there
pub denied : (test : List ℕ → Bool) (n : ℕ) (l xs : List ℕ) → may test (all_pushed n (Some l) xs) ≡ false → test (l ++ xs) ≡ false
unfolding all_pushed pushed may choose
denied test n l [] h = rw append-nil h
denied test n l (x ∷ xs) h = by (leb (length l + 1) n) h (denied test n (l ++ (x ∷ [])) xs)
  where
    by : (room : Bool) → may test (all_pushed n (choose room (Some (l ++ (x ∷ []))) None) xs) ≡ false
        → (may test (all_pushed n (Some (l ++ (x ∷ []))) xs) ≡ false → test ((l ++ (x ∷ [])) ++ xs) ≡ false) → test (l ++ (x ∷ xs)) ≡ false
    by true e rest = rw (← append_assoc l (x ∷ []) xs) (rest e)
    by false e rest =
        let z : true ≡ false = sym (ap (may test) (none_pushed n xs)) ∙ e in
        absurd (let w : ◌≡◌ {A = ℕ} 0 1 = cc in omega arith)
