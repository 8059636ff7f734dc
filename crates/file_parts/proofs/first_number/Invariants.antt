use mathlib.Core.Path.{◌≡◌}
use Rattle.descriptor.specs.Decode.{entries, parts}
use Rattle.file_parts.specs.FileParts.{first_number}
use Rattle.file_parts.proofs.first_number.Given as goal

abbrev pub invariant-loop-part : goal.invariant-loop-part
invariant-loop-part l =
    first_number l.messages l.first l.part-iterator.iter l.part-iterator.n ≡ first_number l.messages 0 (parts 1 (entries l.set)) l.file
