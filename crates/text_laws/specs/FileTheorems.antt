-- The number of the first message of each file. Assumes nothing.
use Rattle.std.specs.Prelude.{ℕ, zero, suc, ◌+◌, List, [], ◌∷◌}
use Rattle.descriptor.specs.Descriptor.{FileDescriptor}
use Rattle.index.specs.Tree.{size}

-- the number of the first message of file n, where the first message of the first file has the number i
unfoldable pub first_from : ℕ → List FileDescriptor → ℕ → ℕ
first_from i fs zero = i
first_from i [] (suc n) = i
first_from i (f ∷ fs) (suc n) = first_from (i + size f.messages) fs n

abbrev pub first_message : List FileDescriptor → ℕ → ℕ
first_message fs n = first_from 0 fs n
