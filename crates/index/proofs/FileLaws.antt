-- The loop of `index_files`: what holds before each record. Assumes nothing.
use mathlib.Core.Path.{◌≡◌, refl, sym, ap, ◌∙◌, subst}
use mathlib.Core.List.{List, [], ◌∷◌}
use Prim.Native.Nat.{ℕ, ◌+◌, ◌≤◌, ◌<◌}
use native.Mathlib.Omega.{arith}
use lib.ListN.{length}
use borrow.Author.Tests.{le-ltb, lt-ltb, eq-eqb, ne_eqb}
use mathlib.Core.Bool.{true≢false}
use mathlib.Core.Logic.{◌≢◌}
use denote.Param.Members.{Mut, Called}
use Rattle.std.specs.Prelude.{Result, Ok, Err, Option, None, Some, IsSome, IfOk, MatchOption}
use Rattle.std.proofs.lemmas.Option.{none-some}
use Rattle.std.specs.List.{FoldsTo}
use Rattle.std.specs.Iterator.{Yields, YieldsThen, YieldsFirstBy}
use Rattle.std.specs.Iterator.Adapters.{filter_map_source, filter_map_callee, filter_map_steps}
use Rattle.std.specs.declared.iter.FilterMap.{FilterMap}
use Rattle.wire.specs.declared.records.record.Record.{Record}
use Rattle.base.specs.Choose.{choose}
use Rattle.base.proofs.FindLaws.{kept_over}
use Rattle.wire.specs.Message.{Entry, record_seen, seen, records_at, fields_in}
use Rattle.wire.specs.declared.records.record.Fault.{Fault as FaultAt}
use Rattle.descriptor.specs.Descriptor.{Bytes, Forest}
use Rattle.descriptor.proofs.EntriesLaws.{entries_read}
use Rattle.index.specs.Tree.{Place, forest_in, size, rows, fill, Indexed, file_forests, total, rows_of, IndexedFiles}
use Rattle.index.specs.declared.Row.{Row}
use Rattle.index.proofs.RoomLaws.{field_bytes, entries_take}
use Rattle.index.proofs.SeenLaws.{held, Within, files_of, records_lie, files_seen}
use Rattle.index.proofs.TreeLaws.{rows_length, fill_append}
use Rattle.index.proofs.IndexLaws.{indexed_length, room_of}

abbrev Left : Type 0
Left = List (Result Entry FaultAt)

module _ (number left : ℕ) (s : List ℕ) (t₀ : List Row) where
  pub record Going (t : List Row) (rs : List (Result Entry FaultAt)) (n file : ℕ) : Type 0 where
    pub small : length s ≤ 32768
    pub few : n + room_of rs ≤ length s
    pub files : file + room_of rs ≤ length s
    pub within : Within (length s) rs
    pub long : length t ≡ length t₀
    pub table : fill t n (rows_of file n (files_of number left rs)) ≡ fill t₀ 0 (rows_of 0 0 (file_forests number left s))
    pub counted : n + total (files_of number left rs) ≡ total (file_forests number left s)

  whole : length s ≤ 32768 → files_of number left (records_at 0 s) ≡ file_forests number left s
  unfolding file_forests choose
  whole h = rw (le-ltb 32768 (length s) h) (files_seen number left s)

  pub going_start : (rs : List (Result Entry FaultAt)) → rs ≡ records_at 0 s → length s ≤ 32768 → Going t₀ rs 0 0
  going_start rs is h =
      let take = entries_take s in
      let fits : 0 + room_of (records_at 0 s) ≤ length s = rw (entries_read 0 s) (omega arith) in
      let start : Going t₀ (records_at 0 s) 0 0 = record {
        small = h;
        few = fits;
        files = fits;
        within = subst (λ (n : ℕ). Within n (records_at 0 s)) (let e : 0 + length s ≡ length s = omega arith in e) (records_lie 0 s);
        long = refl;
        table = ap (λ (Fs : List (Forest Place)). fill t₀ 0 (rows_of 0 0 Fs)) (whole h);
        counted = ap (λ (Fs : List (Forest Place)). 0 + total Fs) (whole h) ∙ (let e : 0 + total (file_forests number left s) ≡ total (file_forests number left s) = omega arith in e);
      } in
      subst (λ (x : List (Result Entry FaultAt)). Going t₀ x 0 0) (sym is) start

  pub going_large : 32768 < length s → IndexedFiles (file_forests number left s) t₀ t₀ 0
  unfolding file_forests choose rows_of fill total
  going_large h = rw (lt-ltb 32768 (length s) h) (record { table = refl; counted = refl })

  module _ (t : List Row) (n file : ℕ) where
    going_fault : (f : FaultAt) (rs : List (Result Entry FaultAt)) → Going t (Err f ∷ rs) n file → Going t rs n file
    unfolding fields_in field_bytes files_of
    going_fault f rs going = record { small = going.small; few = going.few; files = going.files; within = going.within; long = going.long; table = going.table; counted = going.counted }

    pub going_end : (all : List (Result Entry FaultAt)) → all ≡ [] → Going t all n file → IndexedFiles (file_forests number left s) t₀ t n
    unfolding rows_of fill total files_of
    going_end all is before = let going : Going t [] n file = subst (λ (x : List (Result Entry FaultAt)). Going t x n file) is before in let c = going.counted in record { table = going.table; counted = omega arith }

    module _ (all rs : List (Result Entry FaultAt)) where
      module _ (e : Entry) (is : all ≡ Ok e ∷ rs) (before : Going t all n file) where
        abbrev going : Going t (Ok e ∷ rs) n file
        going = subst (λ (x : List (Result Entry FaultAt)). Going t x n file) is before

        few_left : n + 1 + length (held e) + room_of rs ≤ length s
        unfolding fields_in field_bytes
        few_left = let r = going.few in omega arith

        files_left : file + 1 + length (held e) + room_of rs ≤ length s
        unfolding fields_in field_bytes
        files_left = let r = going.files in omega arith

        pub going_skip : (e.field.number ≡ 1 → ⊥) → Going t rs n file
        unfolding files_of choose
        going_skip ne =
            let a = few_left in
            let b = files_left in
            record {
              small = going.small;
              few = omega arith;
              files = omega arith;
              within = going.within.1;
              long = going.long;
              table = (rw (ne_eqb e.field.number 1 ne) at going.table);
              counted = (rw (ne_eqb e.field.number 1 ne) at going.counted);
            }

        -- what the call for the file's messages asks for
        pub file_fits : (k : ℕ) → k ≡ length (held e) → (e.start + k < 65536) × (n + k < 65536)
        file_fits k k_is = let w = going.within.0 in let a = few_left in let small = going.small in (omega arith, omega arith)

        pub going_file : e.field.number ≡ 1 → (x : Bytes) → x ≡ held e
            → (w : List Row) (next : ℕ) → Indexed (forest_in left number x e.start) file 0 t n w next → next ≤ n + length x → Going w rs next (file + 1)
        unfolding files_of choose rows_of total
        going_file q x x_is w next inner bound =
            let a = few_left in
            let b = files_left in
            let same_length : length x ≡ length (held e) = ap length x_is in
            let F : Forest Place = forest_in left number (held e) e.start in
            let following : List (Forest Place) = files_of number left rs in
            let table_all : fill t n (rows_of file n (F ∷ following)) ≡ fill t₀ 0 (rows_of 0 0 (file_forests number left s)) = (rw (eq-eqb e.field.number 1 q) at going.table) in
            let count_all : n + total (F ∷ following) ≡ total (file_forests number left s) = (rw (eq-eqb e.field.number 1 q) at going.counted) in
            let inner_as : Indexed F file 0 t n w next = subst (λ (y : Bytes). Indexed (forest_in left number y e.start) file 0 t n w next) x_is inner in
            let next_is : next ≡ n + size F = inner_as.counted in
            let behind : n + length (rows file 0 n F) ≡ next = ap (λ (m : ℕ). n + m) (rows_length F file 0 n) ∙ sym next_is in
            record {
              small = going.small;
              few = omega arith;
              files = omega arith;
              within = going.within.1;
              long = indexed_length F file 0 t n w next inner_as ∙ going.long;
              table =
                  sym
                  (fill_append t n (rows file 0 n F) (rows_of (file + 1) (n + size F) following)
                  ∙ ap (λ (m : ℕ). fill (fill t n (rows file 0 n F)) m (rows_of (file + 1) (n + size F) following)) behind
                  ∙ ap (λ (m : ℕ). fill (fill t n (rows file 0 n F)) next (rows_of (file + 1) m following)) (sym next_is)
                  ∙ ap (λ (u : List Row). fill u next (rows_of (file + 1) next following)) (sym inner_as.table))
                  ∙ table_all;
              counted = (let z : next + total following ≡ n + (size F + total following) = omega arith in z) ∙ count_all;
            }

    -- what `filter_map` over the records passes over, and what it gives
    module _ {F : Type 0} (g : Mut F (Result Record FaultAt × Unit {0}) (Option Record))
        (called : (p : F) (x : Result Record FaultAt) (r : Option Record) (q : F) → Called g p (x, tt) r q
        → MatchOption r (IfOk x (λ e. e.number ≢ 1)) (λ e. (x ≡ Ok e) × (e.number ≡ 1))) where
      abbrev Steps : Left → Option (Result Record FaultAt) → Left → Type 0
      Steps = YieldsFirstBy seen (λ (rest : Left). rest)

      going_pass : (x : Result Record FaultAt) (all rs : Left) → all ≡ seen x ∷ rs → IfOk x (λ e. e.number ≢ 1) → Going t all n file → Going t rs n file
      going_pass (Ok e) all rs is h before = going_skip all rs (record_seen e) is before h
      going_pass (Err f) all rs is h before = going_fault f rs (subst (λ (l : Left). Going t l n file) is before)

      going_over : (xs : List (Result Record FaultAt)) (s u : Left) (p q : F) → Yields Steps s xs u → FoldsTo (λ p x q. Called g p (x, tt) None q) p xs q → Going t s n file → Going t u n file
      going_over = kept_over Steps (λ p x q. Called g p (x, tt) None q) (λ l _. Going t l n file) (λ s u x p q step call. going_pass x s u step (called p x None q call))

      module _ (from to : FilterMap Left F) where
        first_file : (e : Record) (xs : List (Result Record FaultAt)) (o : Option (Result Record FaultAt)) (q : F) → YieldsThen Steps (filter_map_source from) xs o (filter_map_source to)
            → FoldsTo (λ p x q. Called g p (x, tt) None q) (filter_map_callee from) xs q
            → MatchOption o (◌≡◌ {A = Option Record} (Some e) None × (filter_map_callee to ≡ q)) (λ x. Called g q (x, tt) (Some e) (filter_map_callee to) × IsSome (Some e))
            → Going t (filter_map_source from) n file → (e.number ≡ 1) × Going t (Ok (record_seen e) ∷ filter_map_source to) n file
        first_file e xs None q y z h before = absurd (none-some e (sym h.0))
        first_file e xs (Some x) q y z h before =
            let mid = going_over xs (filter_map_source from) y.0 (filter_map_callee from) q y.1 z before in
            let is = called q x (Some e) (filter_map_callee to) h.0 in
            (is.1, subst (λ (l : Left). Going t l n file) (y.2 ∙ ap (λ (r : Result Record FaultAt). seen r ∷ filter_map_source to) is.0) mid)

        pub next_file : (e : Record) → filter_map_steps Steps g from (Some e) to → Going t (filter_map_source from) n file
            → (e.number ≡ 1) × Going t (Ok (record_seen e) ∷ filter_map_source to) n file
        next_file e ran = first_file e ran.0 ran.1 ran.2 ran.3 ran.4 ran.5

        last_file : (xs : List (Result Record FaultAt)) (o : Option (Result Record FaultAt)) (q : F) → YieldsThen Steps (filter_map_source from) xs o (filter_map_source to)
            → FoldsTo (λ p x q. Called g p (x, tt) None q) (filter_map_callee from) xs q
            → MatchOption o (◌≡◌ {A = Option Record} None None × (filter_map_callee to ≡ q)) (λ x. Called g q (x, tt) None (filter_map_callee to) × IsSome {T = Record} None)
            → Going t (filter_map_source from) n file → Going t [] n file
        last_file xs None q y z h before =
            subst (λ (l : Left). Going t l n file) y.2.0 (going_over xs (filter_map_source from) y.0 (filter_map_callee from) q y.1 z before)
        last_file xs (Some x) q y z h before = absurd (true≢false (sym h.1))

        pub no_file : filter_map_steps Steps g from None to → Going t (filter_map_source from) n file → Going t [] n file
        no_file ran = last_file ran.0 ran.1 ran.2 ran.3 ran.4 ran.5
