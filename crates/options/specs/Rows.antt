-- What a row and its head are, without where they lie in memory.
use Rattle.std.specs.Prelude.{Bool, List, ℕ, ◌+◌, ◌==◌}
use Rattle.options.specs.declared.rows.Row.{Row}
use Rattle.options.specs.declared.rows.Header.{Header}
use Rattle.options.specs.Settings.{Setting, part, kind_at, path_length, value_length, zero_at}

abbrev pub row_seen : Row → Setting
row_seen r = record { kind = r.kind; path = r.path.now; value = r.value.now }

-- row i, whose body starts at a place
abbrev pub row_at : List ℕ → ℕ → ℕ → Setting
row_at o i at = record { kind = kind_at o i; path = part o at (path_length o i); value = part o (at + path_length o i) (value_length o i) }

abbrev pub header : List ℕ → ℕ → Header
header o i = record { kind = kind_at o i; path_length = path_length o i; value_length = value_length o i; zero = zero_at o i }

-- is a row of the kind with this number?
abbrev pub is_of : ℕ → Setting → Bool
is_of number r = r.kind == number
