-- syntax.rs: `Syntax::from` of a file's syntax, which may be missing. Assumes nothing.
use Rattle.std.specs.Prelude.{ℕ, List, Result, Ok, Err}
use Rattle.std.proofs.Math.Option.{Option, some, none}
use Rattle.base.specs.Choose.{choose}
use Rattle.base.specs.Bytes.{b, same}
use Rattle.syntax.specs.declared.known.Syntax.{Syntax as Known}
use Rattle.syntax.specs.declared.known.Syntax.TheVariants.{Proto2 as KnownProto2, Proto3 as KnownProto3}
use Rattle.syntax.specs.declared.known.UnknownSyntax.{UnknownSyntax}

-- the syntax of a file, or that it is neither
pub data Syntax : Type 0 where
  Proto2 Proto3 Unknown : Syntax

unfoldable pub syntax_of : Option (List ℕ) → Syntax
syntax_of none = Proto2
syntax_of (some s) = choose (same s (b "proto2")) Proto2 (choose (same s (b "proto3")) Proto3 Unknown)

-- the same with an error for what is unknown
abbrev pub known : Syntax → Result Known UnknownSyntax
known Proto2 = Ok KnownProto2
known Proto3 = Ok KnownProto3
known Unknown = Err (record {})
