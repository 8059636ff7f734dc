use Rattle.std.proofs.Common.{◌≡◌, ◌+◌, drop, false}
use Rattle.path.specs.Worth.{weighed}
use Rattle.extern_paths.specs.ProstTypes.{best_word}
use Rattle.extern_paths.specs.Seen.{paths_of}
use Rattle.extern_paths.proofs.resolve.best_type.Given as goal

abbrev pub invariant-loop-number : goal.invariant-loop-number
invariant-loop-number l = best_word (weighed false l.ident) l.most (l.first + l.number) (paths_of (drop l.number l.types)) ≡ best_word (weighed false l.ident) l.fn.best l.first (paths_of l.types)
