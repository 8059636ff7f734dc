use Rattle.std.proofs.Common.{sym}
use Rattle.writer.proofs.TextLaws.{put-nothing}
use Rattle.extern_paths.specs.ExternPaths.{extern_text}
use Rattle.extern_paths.proofs.resolve.resolve_ident.Goals as goal

pub returns-in_default : goal.returns-in_default
unfolding extern_text
returns-in_default c = rw (c.in_default.ensures.none) (sym (put-nothing _))
