use Rattle.enum_impl.proofs.ImplLaws.{deep_impl}
use Rattle.enum_impl.proofs.put_enum_impl.Goals as goal

pub returns-else-depth-lt-DEEPEST : goal.returns-else-depth-lt-DEEPEST
returns-else-depth-lt-DEEPEST c = deep_impl _ _ _ _ _ _ _ c.if-depth-lt-DEEPEST.false c.put_impl_line.ensures c.name.ensures
