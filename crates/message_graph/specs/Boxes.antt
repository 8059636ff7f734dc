-- Which fields get a Box since their type leads back to their message (`should_box_impl` without its setting). Assumes nothing.
use Rattle.std.specs.Prelude.{◌≡◌, Bool, true, not, ◌&&◌, ◌||◌, ℕ, ◌<◌, eqb}
use mathlib.Core.List.{List, [], ◌∷◌, Memᴰ}
use Rattle.message_graph.specs.Fields.{Fields, size, owner_of, target_of, kind_of, label_of, link, type_group, type_message, label_repeated}
use Rattle.message_graph.specs.Leads.{leadsb}

-- a singular field of type message or group
unfoldable pub may_loop : ℕ → ℕ → Bool
may_loop kind label = (eqb kind type_message || eqb kind type_group) && not (eqb label label_repeated)

-- the field i leads back: it is such a field, and its type leads to its message
unfoldable pub boxed_by_loop : Fields → ℕ → Bool
boxed_by_loop f i = may_loop (kind_of f i) (label_of f i) && leadsb f (target_of f i) (owner_of f i)

-- a chain of links from a to b: the fields in order
pub data Chain (f : Fields) : ℕ → ℕ → List ℕ → Type 0 where
  stay : {a : ℕ} → Chain f a a []
  go : {b : ℕ} {is : List ℕ} (a i : ℕ) → i < size f → link f i ≡ true → owner_of f i ≡ a → Chain f (target_of f i) b is → Chain f a b (i ∷ is)

-- where a chain comes back to the message that it started from, each of its links is boxed; and a link that is boxed starts such a chain
pub record Boxing (f : Fields) : Type 0 where
  pub all : (a : ℕ) (is : List ℕ) → Chain f a a is → (i : ℕ) → Memᴰ i is → boxed_by_loop f i ≡ true
  pub only : (i : ℕ) → i < size f → link f i ≡ true → boxed_by_loop f i ≡ true → (is : List ℕ) × Chain f (owner_of f i) (owner_of f i) (i ∷ is)
