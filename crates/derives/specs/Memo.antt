-- The answers that are known: whether a message can, or nothing. Assumes nothing.
use Rattle.std.specs.Prelude.{◌≡◌, ◌⊎◌, Bool, true, false, Option, Some, None, List, ℕ, ◌≤◌, length, get_or}
use Rattle.message_graph.specs.Limit.{messages}
use Rattle.message_graph.specs.declared.Field.{Field}
use Rattle.message_graph.specs.Rows.{fields_of}
use Rattle.message_graph.specs.Leads.{Leads}
use Rattle.derives.specs.declared.Derive.{Derive}
use Rattle.derives.specs.Can.{answer_of}
use Rattle.derives.specs.Depth.{count}

-- how many answers are unknown
unfoldable pub is_unknown : Option Bool → Bool
is_unknown (Some can) = false
is_unknown None = true

abbrev pub known_at : List (Option Bool) → ℕ → Option Bool
known_at ms y = get_or ms y None

unfoldable pub unknown : List (Option Bool) → ℕ
unknown ms = count messages (λ y. is_unknown (known_at ms y))

-- the known answers while the fields of x are looked at: the answer of what leads to x may be sought still, and is held to be that it cannot
pub record Memo (d : Derive) (rows : List Field) (ms : List (Option Bool)) (x : ℕ) : Type 0 where
  pub size : length ms ≡ messages
  pub can : (y : ℕ) → known_at ms y ≡ Some true → answer_of d rows y ≡ true
  pub cannot : (y : ℕ) → known_at ms y ≡ Some false → (answer_of d rows y ≡ false) ⊎ Leads (fields_of rows) y x

-- from some known answers to more: that a message cannot, where it is new, is its answer
pub record Kept (d : Derive) (rows : List Field) (old new : List (Option Bool)) : Type 0 where
  pub size : length new ≡ length old
  pub can : (y : ℕ) → known_at new y ≡ Some true → answer_of d rows y ≡ true
  pub cannot : (y : ℕ) → known_at new y ≡ Some false → (answer_of d rows y ≡ false) ⊎ (known_at old y ≡ Some false)
  pub fewer : unknown new ≤ unknown old
