-- The search for the best form in one pass over the rows: each form has a worth, the better form the larger. That it finds
-- what `find_best` finds is a theorem, `found_best`.
use Rattle.std.specs.Prelude.{Bool, not, List, [], ◌∷◌, ◌++◌, map, ℕ, ◌+◌, ◌-◌, ◌^◌, eqb, ltb, length}
use Rattle.base.specs.Choose.{choose}
use Rattle.base.specs.Bytes.{b, same}
use Rattle.options.specs.Settings.{Setting}
use Rattle.options.specs.Found.{Found}
use Rattle.path.specs.Forms.{suffixes, prefixes}
use Rattle.path.specs.declared.Best.{Best}

pub record Form : Type 0 where
  pub worth : ℕ
  pub form : List ℕ

abbrev pub weigh : ℕ → List (List ℕ) → List Form
weigh k fs = map (λ f. record { worth = k + length f; form = f }) fs

abbrev pub global : Form
global = record { worth = 1; form = b "." }

-- the path itself; with `all` its suffixes; its prefixes; with `all` the form `.`
unfoldable pub weighed : Bool → List ℕ → List Form
weighed all path =
    record { worth = 2 ^ 64 - 1; form = path }
    ∷ (weigh (length path + 1) (choose all (suffixes path) []) ++ (weigh 1 (prefixes path) ++ choose all (global ∷ []) []))

-- the worth of the first form that x is, 0 for none
unfoldable pub worth_in : List Form → List ℕ → ℕ
worth_in [] x = 0
worth_in (f ∷ fs) x = choose (same x f.form) f.worth (worth_in fs x)

-- a row of another kind is worth nothing
unfoldable pub worth_of : List Form → ℕ → Setting → ℕ
worth_of fs kind r = choose (eqb r.kind kind) (worth_in fs r.path) 0

-- row i is better than the best so far only if it is worth more
unfoldable pub improve : Best → ℕ → ℕ → Best
improve b i w = choose (ltb b.worth w) (record { worth = w; number = i }) b

unfoldable pub best_of : List Form → ℕ → Best → ℕ → List Setting → Best
best_of fs kind b i [] = b
best_of fs kind b i (r ∷ rs) = best_of fs kind (improve b i (worth_of fs kind r)) (i + 1) rs

abbrev pub none_yet : Best
none_yet = record { worth = 0; number = 0 }

abbrev pub found_of : Best → Found
found_of b = record { found = not (eqb b.worth 0); number = b.number }
