use Rattle.std.proofs.Common.{refl, le-leb}
use Rattle.std.proofs.lemmas.Bool.{lt-leb}
use Rattle.base.specs.Choose.{choose}
use Rattle.joined.specs.Joined.{max_path}
use Rattle.joined.proofs.Name.fitting.Goals as goal

pub returns-then-length-gt-MAX_PATH : goal.returns-then-length-gt-MAX_PATH
unfolding choose
returns-then-length-gt-MAX_PATH c = rw (lt-leb c.args.length max_path c.if-length-gt-MAX_PATH.true) refl

pub returns : goal.returns
unfolding choose
returns c = rw (le-leb c.args.length max_path c.if-length-gt-MAX_PATH.false) refl
