use Rattle.std.proofs.Common.{◌≡◌, false, sym, ◌∙◌}
use Rattle.base.specs.Bytes.{b, same}
use Rattle.base.specs.Choose.{choose}
use Rattle.base.proofs.BytesLaws.{same_bytes}
use Rattle.rust_paths.specs.Segments.{first_segment}
use Rattle.rust_paths.proofs.put_first.Goals as goal

pub returns-else-eq : goal.returns-else-eq
unfolding first_segment choose
returns-else-eq c =
    let other : same c.args.part.now (b "crate") ≡ false = sym (same_bytes c.args.part.now (b "crate")) ∙ (rw c.as_slice.ensures at (sym c.eq.ensures ∙ c.if-eq.false)) in
    rw other c.put_snake.ensures
