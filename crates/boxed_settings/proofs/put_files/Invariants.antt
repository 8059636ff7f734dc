use Rattle.std.proofs.Common.{◌≡◌}
use Rattle.writer.specs.Writing.{◌▻◌}
use Rattle.walks.specs.Walked.{walked}
use Rattle.boxed_settings.specs.Flags.{file_flags, set_flags, stay}
use Rattle.boxed_settings.proofs.put_files.Given as goal

abbrev pub invariant-loop-file : goal.invariant-loop-file
invariant-loop-file l = l.text ▻ walked (file_flags l.options) stay 0 l.file-iterator ≡ l.initial.text ▻ set_flags l.options l.set
