-- How many messages a set may have: limit 3. Assumes nothing.
use Rattle.std.specs.Prelude.{ℕ}

abbrev pub messages : ℕ
messages = 256
