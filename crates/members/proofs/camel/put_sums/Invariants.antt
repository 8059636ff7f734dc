use Rattle.std.specs.Prelude.{◌≡◌, map}
use Rattle.checksums.specs.Lists.{all_pushed}
use Rattle.members.specs.Members.{part_sums}
use Rattle.members.proofs.SumSteps.{sum_in}
use Rattle.members.proofs.camel.put_sums.Given as goal

abbrev pub invariant-loop-own : goal.invariant-loop-own
invariant-loop-own l = all_pushed 512 l.sums (map sum_in l.own-iterator) ≡ all_pushed 512 l.initial.sums (part_sums l.number l.part)
