use Rattle.std.proofs.Common.{ap, ◌∙◌}
use Rattle.extern_paths.specs.ExternPaths.{taken}
use Rattle.place_rows.proofs.PartLaws.{enum_left_out, enum_written}
use Rattle.place_rows.proofs.put_enum.Goals as goal

pub returns-then-not-takes : goal.returns-then-not-takes
returns-then-not-takes c = enum_written _ _ _ _ _ c.name_of-name.ensures _ (c.takes.ensures ∙ ap (taken c.args.options.now) (c.as_bytes.ensures ∙ c.new-path.ensures)) c.if-not-takes.true _ c.put_row.ensures

pub returns-else-not-takes : goal.returns-else-not-takes
returns-else-not-takes c = enum_left_out _ _ _ _ _ c.name_of-name.ensures _ (c.takes.ensures ∙ ap (taken c.args.options.now) (c.as_bytes.ensures ∙ c.new-path.ensures)) c.if-not-takes.false
