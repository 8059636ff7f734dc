-- No type stands at place 0, and none past the end of the table.
use Rattle.std.proofs.Common.{◌≡◌, ℕ, zero, suc, ◌<◌, ◌≤◌, refl, arith}
use Rattle.std.proofs.Math.ListN.{get_or-eq_default}
use Rattle.field_types.specs.Types.{types, type_at, no_type}

pub none_there : (k : ℕ) → (1 ≤ k → 18 < k) → type_at k ≡ no_type
none_there zero h = refl
none_there (suc k) h = let l : 18 < suc k = h (omega arith) in get_or-eq_default types no_type {n = suc k} (omega arith)
