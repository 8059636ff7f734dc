-- What leads where through links, as a relation and as a test. `Decided` proves that they agree. Assumes nothing.
use Rattle.std.specs.Prelude.{◌≡◌, Bool, true, ◌&&◌, ◌||◌, ℕ, zero, suc, ◌<◌, eqb}
use Rattle.message_graph.specs.Fields.{Fields, size, owner_of, target_of, link}

-- a link from a to c: a field of a, whose type is c
pub record Link (f : Fields) (a c : ℕ) : Type 0 where
  pub field : ℕ
  pub within : field < size f
  pub is : link f field ≡ true
  pub from : owner_of f field ≡ a
  pub to : target_of f field ≡ c

-- document 01's leading: every message leads to itself, and where a link of it goes to, there and on
pub data Leads (f : Fields) : ℕ → ℕ → Type 0 where
  here : {a : ℕ} → Leads f a a
  step : {a b c : ℕ} → Link f a c → Leads f c b → Leads f a b

-- does a lead to b by the first n fields? Without the last of them; or, where that is a link, to its message, and from its type
unfoldable pub leads_by : Fields → ℕ → ℕ → ℕ → Bool
leads_by f zero a b = eqb a b
leads_by f (suc i) a b = leads_by f i a b || (link f i && leads_by f i a (owner_of f i) && leads_by f i (target_of f i) b)

-- does a lead to b?
unfoldable pub leadsb : Fields → ℕ → ℕ → Bool
leadsb f a b = leads_by f (size f) a b

-- the test says what leading is
pub record Decides (f : Fields) : Type 0 where
  pub sound : (a b : ℕ) → leadsb f a b ≡ true → Leads f a b
  pub complete : (a b : ℕ) → Leads f a b → leadsb f a b ≡ true
