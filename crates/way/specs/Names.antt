-- The names of a path as the code goes through them. Assumes nothing.
use Rattle.std.specs.Prelude.{ℕ, suc, List, [], ◌∷◌, ◌++◌}
use Rattle.base.specs.Bytes.{same}
use Rattle.base.specs.Choose.{choose}
use Rattle.ident.specs.Ident.{to_upper_camel}
use Rattle.descriptor.specs.Descriptor.{Bytes}
use Rattle.code_generator.specs.Piece.{through}
use Rattle.code_generator.specs.Resolve.{front, last_name}

-- how many names are the same at the start
unfoldable pub common : List Bytes → List Bytes → ℕ
common [] ys = 0
common (x ∷ xs) [] = 0
common (x ∷ xs) (y ∷ ys) = choose (same x y) (suc (common xs ys)) 0

-- what is written for the names that are left of an identifier
unfoldable pub downwards : List Bytes → Bytes
downwards names = through (front names) ++ to_upper_camel (last_name names)
