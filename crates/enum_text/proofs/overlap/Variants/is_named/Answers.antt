use Rattle.std.proofs.Common.{rules, of_calls}
use borrow.Author.Tests.{tests}
use Rattle.base.specs.Bytes.{same}
use Rattle.base.proofs.BytesLaws.{same_bytes}
use Rattle.enum_text.proofs.PartLaws.{asked_is}
use Rattle.enum_text.proofs.overlap.Variants.is_named.Goals as goal

pub returns : goal.returns
returns c = asked_is _ _ _ (same c.args.name.now) c.name.ensures (λ e. rw e at c.is_some_and.ensures) (λ x e. let h = rw e at c.is_some_and.ensures in search (rules, tests, of_calls, same_bytes))
