-- Short sets.
use Rattle.std.specs.Prelude.{ℕ}

-- a set of at most so many bytes is short: it has at most half as many files, messages, fields and enums (proofs/Sizes)
abbrev pub short : ℕ
short = 300
