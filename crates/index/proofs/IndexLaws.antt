-- The loop of `index_in`: what holds before each record. Assumes nothing.
use mathlib.Core.Path.{◌≡◌, refl, sym, ap, ◌∙◌, subst}
use mathlib.Core.List.{List, [], ◌∷◌}
use Prim.Native.Nat.{ℕ, ◌+◌, ◌-◌, ◌≤◌, ◌<◌}
use native.Mathlib.Omega.{arith}
use lib.ListN.{length, length-set}
use borrow.Author.Tests.{eq-eqb, ne_eqb}
use Rattle.std.specs.Prelude.{Result, Ok}
use Rattle.base.specs.Choose.{choose}
use Rattle.wire.specs.Message.{Entry, records_at, fields_in}
use Rattle.wire.specs.declared.records.record.Fault.{Fault as FaultAt}
use Rattle.descriptor.specs.Descriptor.{Bytes, Forest, node}
use Rattle.descriptor.proofs.EntriesLaws.{entries_read}
use Rattle.index.specs.Tree.{Place, forest_in, size, rows, put, fill, Indexed}
use Rattle.index.specs.declared.Row.{Row}
use Rattle.index.proofs.PutLaws.{put_fill, fill_length}
use Rattle.index.proofs.RoomLaws.{field_bytes, entries_take}
use Rattle.index.proofs.SeenLaws.{held, place_of, Within, forest_of, records_lie, forest_seen}
use Rattle.index.proofs.TreeLaws.{forest_is, node_counted, node_filled}

pub indexed_length : (F : Forest Place) (file up : ℕ) (t : List Row) (i : ℕ) (u : List Row) (next : ℕ) → Indexed F file up t i u next → length u ≡ length t
indexed_length F file up t i u next h = ap length h.table ∙ fill_length (rows file up i F) t i

-- the row before those of a forest may be put after them
put_first : (F : Forest Place) (file up : ℕ) (t : List Row) (k : ℕ) (w : List Row) (next : ℕ) (row : Row) (u : List Row)
    → Indexed F file up t (k + 1) w next → u ≡ put w k row → Indexed F file up (put t k row) (k + 1) u next
put_first F file up t k w next row u inner put_is =
    record {
      table = put_is ∙ ap (λ (x : List Row). put x k row) inner.table ∙ put_fill (rows file up (k + 1) F) t (k + 1) k row (omega arith);
      counted = inner.counted;
    }

-- the bytes that records take at least
abbrev pub room_of : List (Result Entry FaultAt) → ℕ
room_of rs = field_bytes (fields_in rs)

module _ (left number : ℕ) (s : List ℕ) (base file up : ℕ) (t₀ : List Row) (i : ℕ) where
  abbrev inner : List ℕ → ℕ → Forest Place
  inner = forest_in (left - 1) 3

  -- with the rows of the records that are left, table and count are those of the whole
  pub record Going (t : List Row) (rs : List (Result Entry FaultAt)) (k : ℕ) : Type 0 where
    pub room : k + room_of rs ≤ i + length s
    pub within : Within (base + length s) rs
    pub long : length t ≡ length t₀
    pub table : fill t k (rows file up k (forest_of inner number rs)) ≡ fill t₀ i (rows file up i (forest_in left number s base))
    pub counted : k + size (forest_of inner number rs) ≡ i + size (forest_in left number s base)

  pub going_start : (rs : List (Result Entry FaultAt)) → rs ≡ records_at base s → (left ≡ 0 → ⊥) → Going t₀ rs i
  going_start rs is ne =
      let whole : forest_of inner number (records_at base s) ≡ forest_in left number s base = forest_seen base s inner number ∙ forest_is left number s base ne in
      let start : Going t₀ (records_at base s) i = record {
        room = rw (entries_read base s) (let h = entries_take s in omega arith);
        within = records_lie base s;
        long = refl;
        table = ap (λ (F : Forest Place). fill t₀ i (rows file up i F)) whole;
        counted = ap (λ (F : Forest Place). i + size F) whole;
      } in
      subst (λ (x : List (Result Entry FaultAt)). Going t₀ x i) (sym is) start

  module _ (t : List Row) (k : ℕ) where
    pub going_end : (all : List (Result Entry FaultAt)) → all ≡ [] → Going t all k → (Indexed (forest_in left number s base) file up t₀ i t k) × (k ≤ i + length s)
    unfolding rows fill size forest_of
    going_end all is before =
        let going : Going t [] k = subst (λ (x : List (Result Entry FaultAt)). Going t x k) is before in
        let c = going.counted in
        let room = going.room in
        (record { table = going.table; counted = omega arith }, omega arith)

    module _ (all rs : List (Result Entry FaultAt)) where
      module _ (e : Entry) (is : all ≡ Ok e ∷ rs) (before : Going t all k) where
        abbrev going : Going t (Ok e ∷ rs) k
        going = subst (λ (x : List (Result Entry FaultAt)). Going t x k) is before

        abbrev rest : Forest Place
        rest = forest_of inner number rs

        room_left : k + 1 + length (held e) + room_of rs ≤ i + length s
        unfolding fields_in field_bytes
        room_left = let r = going.room in omega arith

        pub going_skip : (e.field.number ≡ number → ⊥) → Going t rs k
        unfolding forest_of choose
        going_skip ne =
            let r = room_left in
            record {
              room = omega arith;
              within = going.within.1;
              long = going.long;
              table = (rw (ne_eqb e.field.number number ne) at going.table);
              counted = (rw (ne_eqb e.field.number number ne) at going.counted);
            }

        -- what the call for the nested messages asks for
        pub inner_fits : (base + length s < 65536) → (i + length s < 65536) → (n : ℕ) → n ≡ length (held e)
            → (e.start + n < 65536) × (k + 1 + n < 65536)
        inner_fits a b n n_is = let w = going.within.0 in let r = room_left in (omega arith, omega arith)

        pub going_node : e.field.number ≡ number → (x : Bytes) → x ≡ held e → (end : ℕ) → end ≡ e.start + length x
            → (w : List Row) (next : ℕ) → Indexed (inner x e.start) file (k + 1) t (k + 1) w next → next ≤ k + 1 + length x
            → (row : Row) → row ≡ record { start = e.start; end = end; file = file; up = up; after = next }
            → (u : List Row) → u ≡ put w k row
            → Going u rs next
        unfolding forest_of choose
        going_node q x x_is end end_is w next nested few row row_is u put_is =
            let r = room_left in
            let same_length : length x ≡ length (held e) = ap length x_is in
            let N : Forest Place = inner (held e) e.start in
            let p : Place = place_of e in
            let table_all : fill t k (rows file up k (node p N rest)) ≡ fill t₀ i (rows file up i (forest_in left number s base)) = (rw (eq-eqb e.field.number number q) at going.table) in
            let count_all : k + size (node p N rest) ≡ i + size (forest_in left number s base) = (rw (eq-eqb e.field.number number q) at going.counted) in
            let nested_as : Indexed N file (k + 1) t (k + 1) w next = subst (λ (y : Bytes). Indexed (inner y e.start) file (k + 1) t (k + 1) w next) x_is nested in
            let n : next ≡ k + 1 + size N = nested_as.counted in
            let end_as : end ≡ e.start + length (held e) = end_is ∙ ap (λ (m : ℕ). e.start + m) same_length in
            let row_as : row ≡ record { start = p.start; end = p.end; file = file; up = up; after = k + 1 + size N } =
            row_is ∙ ap (λ (m : ℕ). let y : Row = record { start = e.start; end = m; file = file; up = up; after = next } in y) end_as
            ∙ ap (λ (m : ℕ). let y : Row = record { start = e.start; end = e.start + length (held e); file = file; up = up; after = m } in y) n in
            let first : Indexed N file (k + 1) (put t k row) (k + 1) u next = put_first N file (k + 1) t k w next row u nested_as put_is in
            record {
              room = omega arith;
              within = going.within.1;
              long = indexed_length N file (k + 1) (put t k row) (k + 1) u next first ∙ length-set t k row ∙ going.long;
              table = node_filled p N rest file up t k row (put t k row) u next row_as refl first ∙ table_all;
              counted = node_counted p N rest file up t k row (put t k row) u next row_as refl first ∙ count_all;
            }
