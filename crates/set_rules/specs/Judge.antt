-- What is judged of a set alone, in document 01's order: limit 1, refusal 3, the other limits, 6, 7. Assumes nothing.
use Rattle.std.specs.Prelude.{Result}
use Rattle.base.specs.Refusal.{after}
use Rattle.base.specs.declared.refusal.Refusal.{Refusal}
use Rattle.descriptor.specs.Descriptor.{Bytes}
use Rattle.descriptor.specs.Decode.{decode_set}
use Rattle.limits.specs.Answer.{read_set}
use Rattle.name_rules.specs.Answer.{names}

unfoldable pub judge_set : Bytes → Result Unit Refusal
judge_set s = after (read_set s) (names (decode_set s))
