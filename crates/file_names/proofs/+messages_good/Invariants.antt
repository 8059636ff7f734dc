use Rattle.base.specs.Lists.{all}
use Rattle.descriptor.specs.Decode.{entries, parts, decode_messages}
use Rattle.name_rules.specs.Rules.{messages_good}
use Rattle.file_names.specs.Walks.{tree_good}
use mathlib.Core.Path.{◌≡◌}
use Prim.Native.Nat.{◌-◌}
use Rattle.file_names.proofs.+messages_good.Given as goal

abbrev pub decreases-messages_good : goal.decreases-messages_good
decreases-messages_good l = l.left

abbrev pub invariant-loop-message : goal.invariant-loop-message
invariant-loop-message l = all (tree_good (l.left - 1)) l.message-iterator ≡ messages_good (decode_messages l.left (parts l.number (entries l.s)))
