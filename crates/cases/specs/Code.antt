-- An answer as the number of a field.
use Rattle.std.specs.Prelude.{ℕ, ◌+◌, ◌*◌, Option, Some, None, nat_le, ◌&&◌, if◌then◌else◌}

-- a refusal's number and its place, where they are small
abbrev pub code_of : ℕ → ℕ → Option ℕ
code_of number place = if nat_le number 15 && nat_le place 65535 then Some (16 * place + number + 1) else None
