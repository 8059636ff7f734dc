-- The places of embedded messages.
use Rattle.std.specs.Prelude.{ℕ, ◌-◌, List, eqb}
use Rattle.base.specs.Choose.{choose}
use Rattle.wire.specs.Records.{part}
use Rattle.wire.specs.Step.{Record}

-- where the bytes of an embedded message end: one of another wire type has none
unfoldable pub end_in : Record → ℕ
end_in f = choose (eqb f.wiretype 2) f.next f.start

-- the bytes
abbrev pub inside : List ℕ → Record → List ℕ
inside s f = part s f.start (end_in f - f.start)
