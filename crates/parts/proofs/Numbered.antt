-- Embedded messages with their numbers, by `enumerate`: no step makes them more. Assumes nothing.
use Rattle.std.proofs.Common.{ap, ℕ, ◌+◌, ◌≤◌, ◌<◌, ◌^◌, Bool, List, length, arith}
use Rattle.std.specs.Prelude.{Option, Some, None}
use Rattle.std.specs.Iterator.{YieldsFirstRef, FindsItem, FindsMapped}
use Rattle.std.specs.Iterator.Adapters.{enumerate_source, enumerate_count, enumerate_steps}
use Rattle.std.specs.declared.iter.Enumerate.{Enumerate}
use Rattle.base.proofs.FindLaws.{found_no_more, mapped_no_more}
use Rattle.descriptor.specs.Descriptor.{Bytes}
use denote.Ref.{Bor}
use denote.Param.Members.{Mut}

abbrev pub Parts : Type 0
Parts = Enumerate (List Bytes)

abbrev pub part_step : Parts → Option (ℕ × Bor Bytes) → Parts → Type 0
part_step = enumerate_steps (YieldsFirstRef (λ (rest : List Bytes). rest))

-- the last number, and one more
abbrev size : Parts → ℕ
size s = enumerate_count s + length (enumerate_source s)

fewer : (s t : Parts) (r : Option (ℕ × Bor Bytes)) → part_step s r t → size t ≤ size s
fewer s t None d = let e = ap length d.0.1 in omega (arith, d.1)
fewer s t (Some p) d = let e = ap length d.0 in omega (arith, d.2)

-- what `find` leaves, and what `find_map` does
pub found_fits : {F : Type 0} (f : F) (g : Mut F (Bor (ℕ × Bor Bytes) × Unit {0}) Bool) (s u : Parts) (r : Option (ℕ × Bor Bytes)) → FindsItem part_step g s f r u → size s < 2 ^ 64 → size u < 2 ^ 64
found_fits f g s u r d h = let e = found_no_more part_step size fewer f g s u r d in omega arith

pub mapped_fits : {F B : Type 0} (f : F) (g : Mut F ((ℕ × Bor Bytes) × Unit {0}) (Option B)) (s u : Parts) (r : Option B) → FindsMapped part_step g s f r u → size s < 2 ^ 64 → size u < 2 ^ 64
mapped_fits f g s u r d h = let e = mapped_no_more part_step size fewer f g s u r d in omega arith
