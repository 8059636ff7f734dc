-- What a message and a oneof are, without where they lie in memory. Assumes nothing.
use Rattle.std.specs.Prelude.{ℕ, Bool}
use Rattle.descriptor.specs.Descriptor.{Bytes}

pub record MessageSeen : Type 0 where
  pub part : Bytes
  pub number : ℕ
  pub full : Bytes
  pub nested : Bool

-- its fields are of its message's, which are numbered from first on, below last
pub record OneofSeen : Type 0 where
  pub name : Bytes
  pub conflict : Bool
  pub index : ℕ
  pub first : ℕ
  pub last : ℕ
