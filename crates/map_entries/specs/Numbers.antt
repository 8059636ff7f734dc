-- Who names a message, as the number that the rules count with.
use Rattle.std.specs.Prelude.{ℕ, ◌+◌, List, map}
use Rattle.map_entries.specs.declared.Namers.{Namers}
use Rattle.map_entries.specs.declared.Namers.TheVariants.{Nobody, Maps, Others}

unfoldable pub number_of : Namers → ℕ
number_of Nobody = 0
number_of (Maps n) = n + 2
number_of Others = 1

abbrev pub numbers : List Namers → List ℕ
numbers who = map number_of who
