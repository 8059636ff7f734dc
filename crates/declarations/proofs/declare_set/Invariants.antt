use lib.ListN.{length}
use Rattle.std.specs.Iterator.Adapters.{enumerate_source, enumerate_count}
use Rattle.declarations.specs.Rows.{declared}
use Rattle.declarations.proofs.FileLaws.{Going}
use Rattle.declarations.proofs.declare_set.Given as goal

abbrev pub invariant-loop-file : goal.invariant-loop-file
invariant-loop-file l = Going l.set (declared l.set l.fn.rows) (length l.fn.rows) (enumerate_count l.file-iterator) (enumerate_source l.file-iterator) l.rows l.count
