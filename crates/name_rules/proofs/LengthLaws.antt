-- How long a full name and a package's scope are. Assumes nothing.
use Rattle.std.specs.Prelude.{◌≡◌, ◌+◌, ◌≤◌, length}
use Rattle.std.proofs.Math.Path.{refl}
use Rattle.std.proofs.Common.{arith, length-append}
use mathlib.Core.List.{[], ◌∷◌}
use Rattle.std.proofs.Math.Option.{Option, some, none}
use Rattle.descriptor.specs.Descriptor.{Bytes}
use Rattle.descriptor.specs.Limits.{length_of, package_length}
use Rattle.name_rules.specs.Accessors.{text}
use Rattle.name_rules.specs.FullNames.{◌·◌, package_scope}

pub name_length : (n : Option Bytes) → length (text n) ≡ length_of n
name_length none = refl
name_length (some b) = refl

pub path_length : (scope : Bytes) (n : Option Bytes) → length (scope · text n) ≡ length scope + (1 + length_of n)
path_length scope n = let l = length-append scope (46 ∷ text n) in let m = name_length n in omega arith

-- a package that is given and empty has its dot
pub scope_length : (p : Option Bytes) → length (package_scope p) ≤ package_length p + 1
scope_length none = omega arith
scope_length (some []) = omega arith
scope_length (some (c ∷ cs)) = omega arith
