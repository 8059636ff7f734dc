-- What is seen, file index by file index, is what is seen of the set; and what stands in modules, without marks. Assumes nothing.
use Rattle.std.specs.Prelude.{ℕ, zero, suc, ◌≡◌, refl, Bool, true, false, length, Ok}
use Rattle.std.proofs.Math.Path.{sym, ap}
use Rattle.std.proofs.Common.{◌∙◌, inl, inr}
use mathlib.Core.List.{List, [], ◌∷◌, ◌++◌, map, map-append, Memᴰ}
use Rattle.base.specs.Choose.{choose}
use Rattle.base.specs.Lists.{Every, every_append, all_of}
use Rattle.descriptor.specs.Descriptor.{Bytes, FileDescriptor}
use Rattle.descriptor.specs.Decode.{decode_set}
use Rattle.options.specs.Settings.{Setting, settings}
use Rattle.name_rules.specs.Answer.{names}
use Rattle.code_generator.specs.Piece.{Piece, raw, opaque, extern, name, mod_open, decl_open, label, path, mark, written}
use Rattle.name_check.specs.NameCheck.{PackageModule, package_modules}
use Rattle.calls.specs.TextCall.{file_at}
use Rattle.sights.specs.Sights.{Item, read, file_place, set_sights, items, uses, boxes}
use Rattle.sights.specs.Unmarked.{unmarked, unmarked_item, unmarked_use, unmarked_box}
use Rattle.sights.proofs.Unmarked.{items_unmarked, uses_unmarked, boxes_unmarked}
use Rattle.text_reader.specs.Symbols.{chars, piece_symbols, symbols_before, text_symbols}
use Rattle.text_reader.specs.Reader.{see}
use Rattle.option_values.specs.OptionValues.{OfOptions}
use Rattle.readable_sets.specs.ReadableSets.{seen_in, see_set}
use Rattle.text_sights.proofs.TextReads.{set_sights_are}
use Rattle.paths_reach.specs.Reach.{package_item, world, those, Through, stay, go_in}
use Rattle.joint_theorem.specs.Claim.{indexes, seen, seen_items, described, SideBySide, OfText}

-- ---- by index
one_further : {A : Type 0} (g : ℕ → List A) (i n : ℕ) → all_of g (indexes (suc i) n) ≡ all_of (λ (j : ℕ). g (suc j)) (indexes i n)
unfolding all_of
one_further g i zero = refl
one_further {A} g i (suc n) = ap (λ (l : List A). g (suc i) ++ l) (one_further g (suc i) n)

file_by_file : {A : Type 0} (g : FileDescriptor → List A) (fs : List FileDescriptor) → all_of (λ (i : ℕ). g (file_at fs i)) (indexes 0 (length fs)) ≡ all_of g fs
unfolding all_of
file_by_file g [] = refl
file_by_file {A} g (f ∷ fs) = ap (λ (l : List A). g f ++ l) (one_further (λ (i : ℕ). g (file_at (f ∷ fs) i)) 0 (length fs) ∙ file_by_file g fs)

-- ---- options' values among the symbols
chars_of_text : (rs : List Setting) (x : Bytes) → Every (OfText rs) (chars x)
chars_of_text rs [] = tt
chars_of_text rs (c ∷ x) = (tt, chars_of_text rs x)

piece_of_text : (rs : List Setting) (p : Piece) → OfOptions rs p → Every (OfText rs) (piece_symbols p)
piece_of_text rs (raw x) h = chars_of_text rs x
piece_of_text rs (opaque v) h = (inl h, tt)
piece_of_text rs (extern xs) h = (inr (xs, h, refl), tt)
piece_of_text rs (name n) h = chars_of_text rs (written (name n))
piece_of_text rs (mod_open n) h = chars_of_text rs (written (mod_open n))
piece_of_text rs (decl_open r n) h = chars_of_text rs (written (decl_open r n))
piece_of_text rs (label o n) h = chars_of_text rs (written (label o n))
piece_of_text rs (path r w) h = chars_of_text rs (written (path r w))
piece_of_text rs (mark m) h = tt

pub symbols_of_text : (rs : List Setting) (ps : List Piece) → Every (OfOptions rs) ps → Every (OfText rs) (symbols_before ps [])
symbols_of_text rs [] h = tt
symbols_of_text rs (p ∷ ps) h = every_append (OfText rs) (piece_symbols p) (symbols_before ps []) (piece_of_text rs p h.0) (symbols_of_text rs ps h.1)

-- ---- lists side by side
pub beside : {A B : Type 0} (R : A → B → Type 0) (f : B → A) (ys : List B) → ((y : B) → Memᴰ y ys → R (f y) y) → SideBySide R (map f ys) ys
beside R f [] h = tt
beside R f (y ∷ ys) h = (h y (Memᴰ.head refl), beside R f ys (λ z m. h z (Memᴰ.tail m)))

-- ---- tests that don't look at marks
pub those_unmarked : (p : Item → Bool) → ((i : Item) → p (unmarked_item i) ≡ p i) → (xs : List Item) → those p (map unmarked_item xs) ≡ map unmarked_item (those p xs)
unfolding those choose
those_unmarked p k [] = refl
those_unmarked p k (x ∷ xs) = rw (k x, those_unmarked p k xs) (go (p x))
  where
    go : (t : Bool) → choose t (unmarked_item x ∷ map unmarked_item (those p xs)) (map unmarked_item (those p xs)) ≡ map unmarked_item (choose t (x ∷ those p xs) (those p xs))
    go true = refl
    go false = refl

pub through_unmarked : (xs : List Item) {place names : List Bytes} → Through xs place names → Through (map unmarked_item xs) place names
through_unmarked xs stay = stay
through_unmarked xs (go_in m e t) = go_in (unmarked_item m) (those_unmarked _ (λ i. refl) xs ∙ ap (map unmarked_item) e) (through_unmarked xs t)

packages_unmarked : (ms : List PackageModule) → map unmarked_item (map package_item ms) ≡ map package_item ms
packages_unmarked [] = refl
packages_unmarked (m ∷ ms) = ap {B = List Item} (λ (l : List Item). package_item m ∷ l) (packages_unmarked ms)

-- ---- what is seen in the texts
module _ (set options : Bytes) where
  pub marked_is : set_sights (settings options) (decode_set set) ≡ described set options
  marked_is = set_sights_are (settings options) (decode_set set)

  module _ (good : names (decode_set set) ≡ Ok tt) where
    pub seen_is : seen set options ≡ map unmarked (set_sights (settings options) (decode_set set))
    unfolding seen_in
    seen_is =
        file_by_file (λ (f : FileDescriptor). read (file_place f) [] (see (text_symbols (settings options) (decode_set set) f))) (decode_set set)
        ∙ see_set (settings options) (decode_set set) good

    pub items_are : seen_items set options ≡ map unmarked_item (world (settings options) (decode_set set))
    unfolding world
    items_are =
        let ss = set_sights (settings options) (decode_set set) in
        let packages = map package_item (package_modules (decode_set set)) in
        ap (λ (l : List Item). packages ++ l) (ap items seen_is ∙ items_unmarked ss)
        ∙ ap (λ (l : List Item). l ++ map unmarked_item (items ss)) (sym (packages_unmarked (package_modules (decode_set set))))
        ∙ sym (map-append unmarked_item packages (items ss))

    pub uses_are : uses (seen set options) ≡ map unmarked_use (uses (set_sights (settings options) (decode_set set)))
    uses_are = ap uses seen_is ∙ uses_unmarked (set_sights (settings options) (decode_set set))

    pub boxes_are : boxes (seen set options) ≡ map unmarked_box (boxes (set_sights (settings options) (decode_set set)))
    boxes_are = ap boxes seen_is ∙ boxes_unmarked (set_sights (settings options) (decode_set set))
