-- A row that was found, and its number; and what is written without one. Assumes nothing.
use Rattle.std.proofs.Common.{◌≡◌, refl, ℕ, Bool, true, false, List, [], ◌∷◌, Option, Some, None, if◌then◌else◌}
use Rattle.std.specs.Option.{is_some}
use Rattle.std.specs.List.{list_any}
use Rattle.base.specs.Choose.{choose}
use Rattle.base.specs.Tests.{or_false_left, or_false_right}
use Rattle.writer.specs.declared.text.Text.{Text as Buffered}
use Rattle.options.specs.Found.{Found}
use Rattle.options.specs.Settings.{Setting}
use Rattle.options.specs.Rows.{is_of}
use Rattle.path.specs.PathMap.{number_of, get_in}
use Rattle.code_generator.specs.Piece.{nothing, when}
use Rattle.code_generator.specs.Writing.{◌⊳◌}
use Rattle.code_generator.specs.Attributes.{attributes}

pub number_there : (f : Found) (o : Option ℕ) → o ≡ number_of f → is_some o ≡ f.found
number_there f o e = rw e (go f.found)
  where
    go : (t : Bool) → is_some (if t then Some f.number else None) ≡ t
    go true = refl
    go false = refl

-- without a row of its kind a path finds no value
none_got : (kind : ℕ) (forms : List (List ℕ)) (rs : List Setting) → list_any (is_of kind) rs ≡ false → get_in kind forms rs ≡ []
unfolding get_in choose
none_got kind forms [] none = refl
none_got kind forms (r ∷ rs) none =
    rw (or_false_left (is_of kind r) (list_any (is_of kind) rs) none) (none_got kind forms rs (or_false_right (is_of kind r) (list_any (is_of kind) rs) none))

nothing_more : (t : Buffered) (on : Bool) → t ≡ t ⊳ when on nothing
nothing_more t true = refl
nothing_more t false = refl

-- and nothing is written
pub none_appended : (t : Buffered) (rs : List Setting) (d : ℕ) (forms : List (List ℕ)) (on : Bool) → list_any (is_of 6) rs ≡ false → t ≡ t ⊳ when on (attributes d (get_in 6 forms rs))
unfolding attributes
none_appended t rs d forms on none = rw (none_got 6 forms rs none) (nothing_more t on)
