-- What the name check asks of a set before it looks at names. Assumes nothing.
use Rattle.std.specs.Prelude.{◌≡◌, Ok}
use Rattle.descriptor.specs.Descriptor.{Bytes}
use Rattle.descriptor.specs.Decode.{decode_set}
use Rattle.descriptor.specs.Limits.{limit_passed}
use Rattle.name_rules.specs.Answer.{names}

-- a set without refusals 3, 4, 6 and 7
pub record Accepted (set : Bytes) : Type 0 where
  pub limits : limit_passed set ≡ 0
  pub named : names (decode_set set) ≡ Ok tt
