use Rattle.std.specs.Iterator.Adapters.{enumerate_source, enumerate_count, filter_map_source}
use Rattle.index.proofs.FileLaws.{Going}
use Rattle.index.proofs.index_files.Given as goal

abbrev pub invariant-loop-file : goal.invariant-loop-file
invariant-loop-file l = Going l.number l.left l.set l.initial.rows l.rows (filter_map_source (enumerate_source l.file-iterator)) l.next (enumerate_count l.file-iterator)
