-- A look-up's answer is there where a row was found. Assumes nothing.
use Rattle.std.specs.Prelude.{◌≡◌, refl, Bool, true, false, ℕ, Some, None, is_some, if◌then◌else◌}

pub some_found : (found : Bool) (n : ℕ) → is_some (if found then Some n else None) ≡ found
some_found true n = refl
some_found false n = refl
