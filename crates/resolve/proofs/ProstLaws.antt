-- The prost path is `::prost` where no row has kind 10. Assumes nothing.
use mathlib.Core.Path.{◌≡◌, refl, sym, ap, ◌∙◌}
use mathlib.Core.Bool.{true, false}
use mathlib.Core.Option.{some}
use mathlib.Core.List.{List, [], ◌∷◌}
use Prim.Native.Nat.{ℕ, ◌+◌}
use lib.Dec.{eqb}
use Rattle.base.specs.Bytes.{b}
use Rattle.base.specs.Choose.{choose}
use Rattle.writer.specs.declared.text.Text.{Text}
use Rattle.writer.specs.Text.{pick}
use Rattle.writer.specs.Writing.{◌▻◌}
use Rattle.options.specs.Settings.{Setting, first_of_kind, found_at, value_of, or_else, prost_path}
use Rattle.code_generator.specs.Piece.{flat}
use Rattle.code_generator.specs.Writing.{◌⊳◌}
use Rattle.code_generator.proofs.WritingLaws.{written-flat}
use Rattle.code_generator.specs.Resolve.{prost}

-- the value of a kind's first row, and d where none is found
value_or : (kind i : ℕ) (rs : List Setting) (d : List ℕ) → or_else (value_of kind rs) d ≡ pick (first_of_kind kind i rs).found (or_else (value_of kind rs) d) d
unfolding value_of first_of_kind choose
value_or kind i [] d = refl
value_or kind i (r ∷ rs) d =
    elim (eqb r.kind kind) as (λ t. or_else (choose t (some r.value) (value_of kind rs)) d ≡ pick (choose t (found_at i) (first_of_kind kind (i + 1) rs)).found (or_else (choose t (some r.value) (value_of kind rs)) d) d)
    [ true ↦ refl | false ↦ value_or kind (i + 1) rs d ]

pub prost_is : (rs : List Setting) → prost_path rs ≡ flat (prost rs)
unfolding prost prost_path
prost_is rs = value_or 10 0 rs (b "::prost")

-- as it is written into a text
pub prost_written : (t u : Text) (rs : List Setting) (p : List ℕ) → p ≡ prost_path rs → u ≡ t ▻ p → u ≡ t ⊳ prost rs
prost_written t u rs p e f = f ∙ ap (λ (q : List ℕ). t ▻ q) (e ∙ prost_is rs) ∙ sym (written-flat t (prost rs))
