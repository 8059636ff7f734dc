-- Behind the messages of a set there are no map entries, so a table of false is filled when the first ones are. Assumes nothing.
use mathlib.Core.Path.{◌≡◌, refl, sym, ap, ◌∙◌}
use mathlib.Core.Bool.{Bool, false}
use mathlib.Core.List.{List, ◌∷◌, ◌++◌, append-nil}
use Prim.Native.Nat.{ℕ, zero, suc, ◌+◌, ◌-◌, ◌≤◌, ◌<◌, min}
use native.Mathlib.Nat.{sub-zero}
use native.Mathlib.Omega.{arith}
use lib.ListN.{length, get_or, take, drop, length-replicate, drop_of_length-le}
use lib.Seq.{drop-cons, append_snoc}
use Rattle.descriptor.specs.Descriptor.{Forest}
use Rattle.descriptor.specs.Decode.{decode_message}
use Rattle.index.specs.Tree.{Place, file_forests, total, rows_of, no_row, row_at, row_bytes}
use Rattle.index.specs.declared.Row.{Row}
use Rattle.index.proofs.TableLaws.{row_behind}
use Rattle.index.proofs.SetLaws.{rows_of_length}
use Rattle.message_graph.specs.Limit.{messages}
use Rattle.message_graph.specs.Tab.{tab}
use Rattle.message_graph.proofs.Visits.{off}
use Rattle.context_tables.specs.Rows.{entry_at}
use Rattle.table_laws.specs.EntryPlaces.{no_bytes}
use Rattle.set_tables.specs.Filled.{no_rows, message_places, message_count, no_flags, EntriesBelow, entries_by}
use Rattle.set_tables.proofs.FillLaws.{front_length}

none_there : (n i : ℕ) → row_at (no_rows n) i ≡ no_row
none_there zero i = refl
none_there (suc n) zero = refl
none_there (suc n) (suc i) = none_there n i

none_behind : (set : List ℕ) → EntriesBelow (message_count set) set (message_places set)
unfolding message_count message_places entry_at
none_behind set i h =
    let Fs : List (Forest Place) = file_forests 4 16 set in
    let behind : 0 + length (rows_of 0 0 Fs) ≤ i = let n : length (rows_of 0 0 Fs) ≡ total Fs = rows_of_length Fs 0 0 in omega arith in
    let none : row_at (message_places set) i ≡ no_row = row_behind (rows_of 0 0 Fs) (no_rows 256) 0 i behind ∙ none_there 256 i in
    ap (λ (r : Row). (decode_message (row_bytes set r)).map_entry) none ∙ no_bytes

pub entries_below : (set : List ℕ) (rows : List Row) (count : ℕ) → rows ≡ message_places set → count ≡ message_count set → EntriesBelow count set rows
entries_below set rows count rows_are counted i h = ap (λ (l : List Row). entry_at set l i) rows_are ∙ none_behind set i (omega arith)

-- a table whose rest is as f says is filled when its first places are
tab_front : {A : Type 0} (d : A) (f : ℕ → A) (old : List A) (m k : ℕ) → length old ≡ k + m → ((i : ℕ) → k ≤ i → i < length old → get_or old i d ≡ f i)
    → tab k f ++ drop k old ≡ tab (length old) f
unfolding tab
tab_front {A} d f old zero k size rest =
    let all : k ≡ length old = omega arith in
    ap (λ (l : List A). tab k f ++ l) (drop_of_length-le old {i = k} (omega arith)) ∙ append-nil (tab k f) ∙ ap (λ (n : ℕ). tab n f) all
tab_front {A} d f old (suc m) k size rest =
    ap (λ (l : List A). tab k f ++ l) (drop-cons old k d (omega arith) ∙ ap (λ (a : A). a ∷ drop (suc k) old) (rest k (omega arith) (omega arith)))
    ∙ sym (append_snoc (tab k f) (f k) (drop (suc k) old))
    ∙ tab_front d f old m (suc k) (omega arith) (λ i l h. rest i (omega arith) h)

pub entries_filled : (set : List ℕ) (rows : List Row) (count k : ℕ) (old r : List Bool) → old ≡ no_flags → EntriesBelow count set rows → k ≡ min count (length old)
    → r ≡ tab (length (take (k - 0) (drop 0 old))) (entry_at set rows) → r ++ drop (k - 0) old ≡ entries_by set rows
entries_filled set rows count k old r old_is below k_is is =
    let size : length old ≡ messages = ap length old_is ∙ length-replicate messages false in
    let front : r ≡ tab k (entry_at set rows) = is ∙ ap (λ (n : ℕ). tab n (entry_at set rows)) (front_length k old (omega arith)) in
    let unset : (i : ℕ) → k ≤ i → i < length old → get_or old i false ≡ entry_at set rows i = λ i l h. ap (λ (t : List Bool). get_or t i false) old_is ∙ off messages i ∙ sym (below i (omega arith)) in
    rw (front, sub-zero) (tab_front false (entry_at set rows) old (length old - k) k (omega arith) unset ∙ ap (λ (n : ℕ). tab n (entry_at set rows)) size)
