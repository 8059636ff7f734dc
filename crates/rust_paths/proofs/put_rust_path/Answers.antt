use Rattle.std.proofs.Common.{sym}
use Rattle.writer.proofs.TextLaws.{put-nothing}
use Rattle.rust_paths.proofs.put_rust_path.Goals as goal

pub returns-else-is_rest : goal.returns-else-is_rest
returns-else-is_rest c = rw (← c.is_rest.ensures, c.if-is_rest.false) (sym (put-nothing _))
