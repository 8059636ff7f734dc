-- What the declaration is for that a path or a Box stands in. Assumes nothing.
use Rattle.std.proofs.Math.Option.{Option, some, none}
use Rattle.code_generator.specs.Piece.{Ref}
use Rattle.sights.specs.Sights.{Item}

abbrev pub owner_mark : Option Item → Option Ref
owner_mark none = none
owner_mark (some i) = i.mark
