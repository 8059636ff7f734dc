-- Options, a set and a file index that refusals 1 to 7 don't apply to.
use Rattle.std.proofs.Common.{◌≡◌, ℕ, ◌<◌, ltb-true}
use Rattle.std.specs.Prelude.{ltb, length, Ok}
use Rattle.base.proofs.RefusalLaws.{chosen}
use Rattle.descriptor.specs.Descriptor.{Bytes}
use Rattle.descriptor.specs.Decode.{decode_set}
use Rattle.limits.specs.Answer.{read_set}
use Rattle.limits.proofs.AnswerLaws.{none_passed}
use Rattle.options.specs.Layout.{layout}
use Rattle.name_rules.specs.Answer.{names}
use Rattle.calls.specs.TextCall.{by_index}
use Rattle.text_call.specs.Answer.{Accepted}

there : (file count : ℕ) → by_index file count ≡ Ok tt → file < count
unfolding by_index
there file count e = ltb-true file count (chosen (ltb file count) _ _ e).0

pub accepts : (set o : Bytes) (file : ℕ) → layout o ≡ Ok tt → read_set set ≡ Ok tt → by_index file (length (decode_set set)) ≡ Ok tt → names (decode_set set) ≡ Ok tt → Accepted set o file
accepts set o file options read index named =
    record { options = options; limits = none_passed set read; named = named; there = there file (length (decode_set set)) index }
