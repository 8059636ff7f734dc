-- What a text gives byte by byte: its bytes, and at last an error where it doesn't unescape. Assumes nothing.
use Rattle.std.specs.Prelude.{List, [], ◌∷◌, ℕ, Result, Ok, Err}
use Rattle.base.specs.Steps.{Run, ended, broken, ◌then◌}
use Rattle.c_escaping.specs.Unescape.{unescape_from}
use Rattle.c_escaping.specs.declared.bytes.BadEscape.{BadEscape}

abbrev pub results : Run → List (Result ℕ BadEscape)
results ended = []
results broken = Err (record {}) ∷ []
results (x then r) = Ok x ∷ results r

abbrev pub unescape_results : List ℕ → List (Result ℕ BadEscape)
unescape_results s = results (unescape_from s 0)
