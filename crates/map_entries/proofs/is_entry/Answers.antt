use mathlib.Core.Path.{ap, ◌∙◌}
use native.Mathlib.Omega.{arith}
use Rattle.std.proofs.Common.{rules}
use Rattle.descriptor.specs.Descriptor.{MessageHeader}
use Rattle.declarations.specs.Rows.{kind_number}
use Rattle.map_entries.proofs.EntryRowLaws.{entry_none, entry_is}
use Rattle.map_entries.proofs.UseLaws.{not_message}
use Rattle.map_entries.proofs.is_entry.Goals.{in-Message, in_default}
use Rattle.map_entries.proofs.is_entry.Goals as goal

pub returns-then-matches : goal.returns-then-matches
unfolding kind_number
returns-then-matches c =
    elim c.match-matches.branch [
      | in-Message w ↦
          ap (λ (m : MessageHeader). m.map_entry) c.result.view_is
          ∙ entry_is _ _ _ _ c.row-row.ensures (rw w.in-Message.is (omega arith)) _ c.bytes_of.ensures _ c.new.ensures
      | in_default w ↦ search rules
    ]

pub returns-else-matches : goal.returns-else-matches
returns-else-matches c =
    elim c.match-matches.branch [
      | in-Message w ↦ search rules
      | in_default w ↦ c.if-matches.false ∙ entry_none _ _ _ _ c.row-row.ensures (not_message _ w.in_default.not-Message)
    ]
