-- A table that one function fills from where another stopped. Assumes nothing.
use mathlib.Core.Path.{◌≡◌, refl, sym, ap, ◌∙◌}
use mathlib.Core.List.{List, ◌++◌}
use Prim.Native.Nat.{ℕ}
use native.Mathlib.Omega.{arith}
use lib.ListN.{length, drop}
use lib.Seq.{drop_at}
use Rattle.message_graph.specs.Tab.{tab, length_tab, Filled}

-- what is filled counts as the start of another filling
pub filled_again : {f : ℕ → ℕ} {old out : List ℕ} {i : ℕ} → Filled f old out i → Filled f out out i
filled_again {f} {old} {out} {i} p =
    let w = p.within in
    let z = p.size in
    record {
      within = omega arith;
      size = refl;
      is = p.is ∙ ap (λ (l : List ℕ). tab i f ++ l) (sym (drop_at (tab i f) (drop i old) i (length_tab i f)) ∙ ap (drop i) (sym p.is));
    }

-- what that one fills whole
pub filled_rest : {f : ℕ → ℕ} {old out : List ℕ} {i : ℕ} → Filled f old out i → (r : List ℕ) → r ≡ tab (length out) f → r ≡ tab (length old) f
filled_rest {f} p r e = e ∙ ap (λ (n : ℕ). tab n f) p.size
