-- Chains of rows by their checksums: row j, of n rows whose checksums s gives, stands in the bucket s j % n, and leads to the row
-- before it in that bucket. Assumes nothing.
use Rattle.std.specs.Prelude.{ℕ, zero, suc, ◌+◌, ◌*◌, ◌%◌, ◌<◌, ◌≡◌, List, eqb, ltb, length, get_or}
use Rattle.base.specs.Choose.{choose}
use Rattle.message_graph.specs.Tab.{tab}

-- the last of the first k rows in bucket b, counted from 1; 0 where there is none
unfoldable pub last_in : (ℕ → ℕ) → ℕ → ℕ → ℕ → ℕ
last_in s n b zero = 0
last_in s n b (suc k) = choose (eqb (s k % n) b) (suc k) (last_in s n b k)

-- a cell: the checksum of its row, the row before that in its bucket, and the last row of the bucket with the cell's number
unfoldable pub packed : ℕ → ℕ → ℕ → ℕ
packed sum before last = sum + 4294967296 * (before + 65536 * last)

-- cell i where the first k of n rows are in the chains
unfoldable pub cell_by : (ℕ → ℕ) → ℕ → ℕ → ℕ → ℕ
cell_by s n k i = packed (s i) (choose (ltb i k) (last_in s n (s i % n) i) 0) (last_in s n i k)

-- a list with these cells
pub record Staged (s : ℕ → ℕ) (n k : ℕ) (sums : List ℕ) : Type 0 where
  pub at : (i : ℕ) → i < length sums → get_or sums i 0 ≡ cell_by s n k i

-- where the first k of n rows are in the chains, row k is now too
pub record Linked (n k : ℕ) (sums out : List ℕ) : Type 0 where
  pub size : length out ≡ length sums
  pub next : (s : ℕ → ℕ) → ((i : ℕ) → s i < 4294967296) → Staged s n k sums → Staged s n (k + 1) out

-- so many rows of a list with n cells are in chains
unfoldable pub chained : ℕ → ℕ
chained n = choose (ltb 65535 n) 65535 n

-- the cells of n rows
unfoldable pub cells : (ℕ → ℕ) → ℕ → List ℕ
cells s n = tab n (cell_by s (chained n) (chained n))

-- a list of checksums, and its rows in chains
pub record Chained (sums out : List ℕ) : Type 0 where
  pub is : (s : ℕ → ℕ) → ((i : ℕ) → s i < 4294967296) → sums ≡ tab (length sums) s → out ≡ cells s (length sums)
