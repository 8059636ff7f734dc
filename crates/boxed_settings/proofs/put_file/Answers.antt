use Rattle.std.proofs.Common.{ap, ◌∙◌, List, ℕ}
use Rattle.writer.specs.Writing.{◌▻◌}
use Rattle.descriptor.specs.Decode.{entries, parts}
use Rattle.boxed_settings.specs.Flags.{file_flags, messages_flags}
use Rattle.boxed_settings.proofs.put_file.Goals as goal

pub returns : goal.returns
unfolding file_flags
returns c = c.put_messages.ensures ∙ ap (λ (x : List ℕ). c.args.text.now ▻ messages_flags 16 c.args.options.now x (parts 4 (entries c.args.file.now))) (c.as_bytes.ensures ∙ c.package-scope.ensures)
