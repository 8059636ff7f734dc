-- The modules of a package, gone through segment by segment, among rows. Assumes nothing.
use Rattle.std.specs.Prelude.{◌≡◌, refl, ◌≤◌, Bool, true, false, ◌||◌, List, [], ◌∷◌, length, take}
use Rattle.std.proofs.Common.{sym, ap, ap₂, ◌∙◌, arith, take_all, le-ltb, length-take-le}
use Rattle.std.proofs.Math.Decide.{dec_le}
use Rattle.std.proofs.lemmas.List.{take-append-le, length-append}
use Rattle.base.specs.Lists.{any}
use Rattle.descriptor.specs.Descriptor.{Bytes}
use Rattle.name_rules.specs.FullNames.{◌·◌}
use Rattle.joined.specs.Joined.{max_path, ◌⊙◌}
use Rattle.name_check.specs.NameCheck.{modules_in}
use Rattle.package_names.specs.Packages.{module_of, module_in}

-- ---- a home that is cut: only one of over 256 bytes is
cut_module : (rows : List Bytes) (home segment : Bytes) → module_in rows (module_of (take max_path home) segment) ≡ module_in rows (module_of home segment)
unfolding module_in
cut_module rows home segment = on (dec_le (length home) max_path)
  where
    on : Dec (length home ≤ max_path) → module_in rows (module_of (take max_path home) segment) ≡ module_in rows (module_of home segment)
    on (yes h) = ap (λ (l : Bytes). module_in rows (module_of l segment)) (take_all max_path home h)
    on (no h) =
        let n = length-take-le max_path home (omega arith) in
        rw (le-ltb (length (take max_path home)) 257 (omega arith), le-ltb (length home) 257 (omega arith)) refl

cut_again : (home segment : Bytes) → take max_path (take max_path home · segment) ≡ take max_path (home · segment)
cut_again home segment = on (dec_le (length home) max_path)
  where
    on : Dec (length home ≤ max_path) → take max_path (take max_path home · segment) ≡ take max_path (home · segment)
    on (yes h) = ap (λ (l : Bytes). take max_path (l · segment)) (take_all max_path home h)
    on (no h) =
        let n = length-take-le max_path home (omega arith) in
        take-append-le max_path (take max_path home) (46 ∷ segment) (omega arith) ∙ take_all max_path (take max_path home) (omega arith)
        ∙ sym (take-append-le max_path home (46 ∷ segment) (omega arith))

module _ (rows : List Bytes) where
  abbrev pub stand : Bytes → List Bytes → Bool
  stand home xs = any (module_in rows) (modules_in home xs)

  cut_home : (home : Bytes) (xs : List Bytes) → stand (take max_path home) xs ≡ stand home xs
  unfolding modules_in any
  cut_home home [] = refl
  cut_home home (x ∷ xs) =
      ap₂ ◌||◌ (cut_module rows home x)
      (sym (cut_home (take max_path home · x) xs) ∙ ap (λ (l : Bytes). stand l xs) (cut_again home x) ∙ cut_home (home · x) xs)

  pub stands_none : (home : Bytes) → false ≡ stand home []
  unfolding modules_in any
  stands_none home = refl

  pub stands_long : (home : Bytes) (xs : List Bytes) → 257 ≤ length home → false ≡ stand home xs
  unfolding modules_in any module_in
  stands_long home [] long = refl
  stands_long home (x ∷ xs) long =
      let n = length-append home (46 ∷ x) in
      rw (le-ltb (length home) 257 long) (stands_long (home · x) xs (omega arith))

  module _ (home x : Bytes) (xs : List Bytes) (m : Bool) (is : m ≡ module_in rows (module_of home x)) where
    pub stands_hit : m ≡ true → true ≡ stand home (x ∷ xs)
    unfolding modules_in any
    stands_hit h = rw (← is, h)

    pub stands_on : m ≡ false → (next : Bytes) → next ≡ home ⊙ x → stand next xs ≡ stand home (x ∷ xs)
    unfolding modules_in any ◌⊙◌
    stands_on h next e = rw (← is, h, e) (cut_home (home · x) xs)
