use Rattle.std.specs.Prelude.{◌≡◌, ℕ, ◌<◌, ◌^◌}
use Rattle.message_graph.specs.Tab.{Filled}
use Rattle.context_tables.proofs.fill.Given as goal

abbrev pub invariant-loop-i : goal.invariant-loop-i
invariant-loop-i g l = (f : ℕ → _) → ((i : ℕ) (x : _) → i < 2 ^ 64 → goal.F-post g l.made i x → x ≡ f i) → Filled f l.initial.table l.table l.i
