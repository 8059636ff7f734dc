use Rattle.std.proofs.Common.{◌≡◌}
use Rattle.writer.specs.Writing.{◌▻◌}
use Rattle.walks.specs.Walked.{walked}
use Rattle.boxed_settings.specs.Flags.{field_flag, field_flags, stay}
use Rattle.boxed_settings.proofs.put_fields.Given as goal

abbrev pub invariant-loop-field : goal.invariant-loop-field
invariant-loop-field l = l.text ▻ walked (field_flag l.options l.full) stay 0 l.field-iterator ≡ l.initial.text ▻ field_flags l.options l.full l.message
