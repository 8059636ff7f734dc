use Rattle.std.proofs.Common.{arith, refl}
use Rattle.text_call.proofs.RoomLaws.{made, from_part}
use lib.ListN.{length-replicate}
use Prim.Native.Nat.{ℕ}
use Rattle.text_call.proofs.put_within.Goals as goal

pub returns-then-length : goal.returns-then-length
returns-then-length g c = from_part _ _ c.requires.short c.append_file-length.ensures _ (length-replicate {A = ℕ} _ 0) (let b = c.requires.bound in omega arith) c.if-length.true c.copy_whole.ensures

pub returns : goal.returns
returns g c = (made c.args.buffer.now _ c.requires.short c.append_file-length.ensures, c.if-length.false, refl)
