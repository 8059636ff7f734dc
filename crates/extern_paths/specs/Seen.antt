-- Extern paths and prost types without where they lie in memory.
use Rattle.std.specs.Prelude.{List, [], ◌++◌, map, ℕ}
use Rattle.options.specs.Settings.{Setting}
use Rattle.extern_paths.specs.ExternPaths.{extern}
use Rattle.extern_paths.specs.declared.resolve.ExternPath.{ExternPath}
use Rattle.extern_paths.specs.declared.prost_types.ProstType.{ProstType}
use Rattle.extern_paths.specs.declared.prost_types.Value.{Value}
use Rattle.extern_paths.specs.declared.prost_types.Value.TheVariants.{Own, Plain, InProst}

abbrev pub extern_seen : ExternPath → Setting
extern_seen e = extern e.path.now (e.value.now ++ e.tail.now)

abbrev pub paths_of : List ProstType → List (List ℕ)
paths_of types = map (λ (t : ProstType). t.path.now) types

-- what stands for a prost type: p is the prost path, v the value of kind 12
abbrev pub type_value : List ℕ → List ℕ → Value → List ℕ
type_value p v Own = v
type_value p v (Plain x) = x.now
type_value p v (InProst x) = p ++ x.now

abbrev pub type_tail : Value → List ℕ
type_tail Own = []
type_tail (Plain x) = []
type_tail (InProst x) = x.now

abbrev pub type_seen : List ℕ → List ℕ → ProstType → Setting
type_seen p v t = extern t.path.now (type_value p v t.value)
