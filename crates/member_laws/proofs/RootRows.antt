-- Rows of names that have no home: two are the same exactly if two names are. Assumes nothing.
use Rattle.std.specs.Prelude.{ℕ, zero, suc, ◌*◌, ◌≤◌, ◌≡◌, refl, Bool, ◌||◌, List, [], ◌∷◌, map, length}
use Rattle.std.proofs.Common.{ap, ap₂, ◌∙◌, arith, take_all}
use Rattle.base.specs.Bytes.{same}
use Rattle.base.specs.Choose.{choose}
use Rattle.base.specs.Lists.{any, all_of, Every, map_length}
use Rattle.descriptor.specs.Descriptor.{Bytes}
use Rattle.path.specs.Forms.{among}
use Rattle.code_generator.specs.Refusals.{overlap}
use Rattle.name_check.specs.NameCheck.{Place, same_place}
use Rattle.name_rows.specs.Rows.{row_length, place_row, rows_of, rows_in}
use Rattle.name_rows.proofs.RowLaws.{Holds, nowhere, row_size, rows_size, rows_first, among_rows}
use Rattle.member_rows.specs.MemberRows.{rows_overlap}
use Rattle.member_laws.specs.RootRows.{Fine}

holds : (x : Bytes) → Fine x → Holds (nowhere x)
holds x f = let l = f.short in record { plain_home = tt; plain_name = f.plain; short_home = omega arith; fits = omega arith }

all_hold : (xs : List Bytes) → Every Fine xs → Every Holds (map nowhere xs)
all_hold [] f = tt
all_hold (x ∷ xs) f = (holds x f.0, all_hold xs f.1)

-- ---- what is found
any_root : (x : Bytes) (xs : List Bytes) → any (same_place (nowhere x)) (map nowhere xs) ≡ among x xs
unfolding any among same
any_root x [] = refl
any_root x (y ∷ xs) = ap (λ (t : Bool). same x y || t) (any_root x xs)

overlap_root : (xs : List Bytes) → Every Fine xs → overlap (map place_row (map nowhere xs)) ≡ overlap xs
unfolding overlap
overlap_root [] f = refl
overlap_root (x ∷ xs) f =
    ap₂ ◌||◌ (among_rows (nowhere x) (map nowhere xs) (holds x f.0) (all_hold xs f.1) ∙ any_root x xs) (overlap_root xs f.1)

-- ---- the rows of a text that has nothing else
no_rows : (k : ℕ) → rows_in k [] ≡ []
unfolding rows_in choose
no_rows zero = refl
no_rows (suc k) = refl

pub rows_enough : (ps : List Place) (k : ℕ) → length ps ≤ k → rows_in k (rows_of ps) ≡ map place_row ps
unfolding all_of
rows_enough [] k h = no_rows k
rows_enough (p ∷ ps) zero h = absurd (omega arith)
rows_enough (p ∷ ps) (suc k) h =
    rows_first k (place_row p) (rows_of ps) (row_size p.home p.name) ∙ ap (λ (l : List Bytes). place_row p ∷ l) (rows_enough ps k (omega arith))

pub rows_overlap_is : (room : ℕ) (xs : List Bytes) → Every Fine xs → length xs * row_length ≤ room → rows_overlap room (rows_of (map nowhere xs)) ≡ overlap xs
unfolding rows_overlap
rows_overlap_is room xs f h =
    let n : length (map nowhere xs) ≡ length xs = map_length nowhere xs in
    let size : length (rows_of (map nowhere xs)) ≡ length (map nowhere xs) * row_length = rows_size (map nowhere xs) in
    rw (take_all room (rows_of (map nowhere xs)) (omega arith))
    (ap overlap (rows_enough (map nowhere xs) (length (rows_of (map nowhere xs))) (omega arith)) ∙ overlap_root xs f)
