-- The segments of the packages of an accepted set are names of at most 64 bytes. Assumes nothing.
use Rattle.std.specs.Prelude.{ℕ, ◌≤◌, ◌≡◌, refl, true, false, eqb, ltb, length, Ok}
use Rattle.std.proofs.Math.Path.{sym, ap}
use Rattle.std.proofs.Common.{subst, ◌∙◌, ltb-false}
use Rattle.std.proofs.Math.Option.{Option, some, none}
use mathlib.Core.List.{List, [], ◌∷◌}
use Rattle.base.specs.Bytes.{b}
use Rattle.base.specs.Choose.{choose}
use Rattle.base.specs.Lists.{any, Every}
use Rattle.base.specs.Tests.{or_false_left, or_false_right}
use Rattle.ident.specs.Name.{is_name}
use Rattle.descriptor.specs.Descriptor.{Bytes, FileDescriptor}
use Rattle.descriptor.specs.Decode.{decode_set}
use Rattle.descriptor.specs.Limits as limits
use Rattle.descriptor.specs.Limits.{max_name, long_package, passes_8, limit_passed}
use Rattle.extern_paths.specs.Split.{push, split_behind, split}
use Rattle.code_generator.specs.Resolve.{local_path}
use Rattle.name_rules.specs.FullNames.{package_scope}
use Rattle.name_rules.specs.Rules as rules
use Rattle.name_rules.specs.WellFormed.{Name, WellFormed}
use Rattle.name_rules.specs.Answer.{names}
use Rattle.name_rules.proofs.WellFormedLaws.{every_file}
use Rattle.limit_facts.specs.Within.{within}
use Rattle.paths_reach.specs.Dots.{split_cons}
use Rattle.package_names.specs.Packages.{file_segments}

-- ---- what stands between dots, by three definitions
module _ (f : Bytes → List Bytes) (on_nil : f [] ≡ [] ∷ []) (on_cons : (c : ℕ) (s : Bytes) → f (c ∷ s) ≡ choose (eqb c 46) ([] ∷ f s) (push c (f s))) where
  split_as : (s : Bytes) → split (b ".") s ≡ f s
  unfolding split split_behind
  split_as [] = sym on_nil
  split_as (c ∷ s) = split_cons c s ∙ ap (λ (l : List Bytes). choose (eqb c 46) ([] ∷ l) (push c l)) (split_as s) ∙ sym (on_cons c s)

push_onto : (c : ℕ) (xs : List Bytes) → rules.onto c xs ≡ push c xs
push_onto c [] = refl
push_onto c (x ∷ xs) = refl

push_first : (c : ℕ) (xs : List Bytes) → limits.on_first c xs ≡ push c xs
push_first c [] = refl
push_first c (x ∷ xs) = refl

split_rules : (s : Bytes) → split (b ".") s ≡ rules.segments s
unfolding rules.segments
split_rules s = split_as rules.segments refl (λ c s. ap (λ (l : List Bytes). choose (eqb c 46) ([] ∷ rules.segments s) l) (push_onto c (rules.segments s))) s

split_limits : (s : Bytes) → split (b ".") s ≡ limits.segments s
unfolding limits.segments
split_limits s = split_as limits.segments refl (λ c s. ap (λ (l : List Bytes). choose (eqb c 46) ([] ∷ limits.segments s) l) (push_first c (limits.segments s))) s

-- ---- a segment
pub record Segment (x : Bytes) : Type 0 where
  pub name : is_name x ≡ true
  pub short : length x ≤ 64

both : (xs : List Bytes) → Every Name xs → any (λ (s : Bytes). ltb max_name (length s)) xs ≡ false → Every Segment xs
unfolding any
both [] good h = tt
both (x ∷ xs) good h =
    (record { name = good.0.identifier; short = ltb-false max_name (length x) (or_false_left (ltb max_name (length x)) _ h) }, both xs good.1 (or_false_right (ltb max_name (length x)) _ h))

package_segments : (o : Option Bytes) → ((p : Bytes) → o ≡ some p → Every Name (rules.segments p)) → long_package o ≡ false → Every Segment (local_path (package_scope o))
unfolding local_path
package_segments none good h = tt
package_segments (some p) good h =
    both (split (b ".") p) (subst (Every Name) (sym (split_rules p)) (good p refl)) (ap (any (λ (s : Bytes). ltb max_name (length s))) (split_limits p) ∙ h)

files_segments : (fs : List FileDescriptor) → Every WellFormed fs → any (λ (f : FileDescriptor). long_package f.package_name) fs ≡ false → Every (λ (f : FileDescriptor). Every Segment (file_segments f)) fs
unfolding any
files_segments [] good h = tt
files_segments (f ∷ fs) good h =
    (package_segments f.package_name good.0.package_names (or_false_left (long_package f.package_name) _ h), files_segments fs good.1 (or_false_right (long_package f.package_name) _ h))

pub set_segments : (set : Bytes) → limit_passed set ≡ 0 → names (decode_set set) ≡ Ok tt → Every (λ (f : FileDescriptor). Every Segment (file_segments f)) (decode_set set)
unfolding passes_8
set_segments set passed good =
    files_segments (decode_set set) (every_file (decode_set set) good) (or_false_left _ _ (or_false_left _ _ (within set passed).names))
