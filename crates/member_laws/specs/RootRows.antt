-- Names that fit a row. Assumes nothing.
use Rattle.std.specs.Prelude.{◌<◌, length}
use Rattle.descriptor.specs.Descriptor.{Bytes}
use Rattle.name_rows.proofs.RowLaws.{Plain}

-- a name that fits a row
pub record Fine (x : Bytes) : Type 0 where
  pub plain : Plain x
  pub short : length x < 380
