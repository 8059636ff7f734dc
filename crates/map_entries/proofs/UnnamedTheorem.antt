-- The first file with a map entry that isn't named as it must be: what the table gives is what the set's definition says. Assumes nothing.
use mathlib.Core.Path.{◌≡◌, refl, sym, ap, ◌∙◌}
use mathlib.Core.Bool.{Bool, true, false, ◌&&◌}
use mathlib.Core.List.{List, [], ◌∷◌, ◌++◌}
use Prim.Native.Nat.{ℕ, zero, suc, ◌+◌, ◌-◌, ◌≤◌, ◌<◌}
use native.Mathlib.Omega.{arith}
use lib.ListN.{length, get_or}
use lib.Dec.{eqb, ltb}
use borrow.Author.Tests.{le-ltb, ltb-false}
use Rattle.base.specs.Choose.{choose}
use Rattle.base.specs.Lists.{count, first_failing, map_length}
use Rattle.wire.specs.Records.{part}
use Rattle.descriptor.specs.Descriptor.{Bytes, Forest, done, node, FieldDescriptor, MessageDescriptor, FileDescriptor}
use Rattle.descriptor.specs.Decode.{parts, decode_message, decode_file, decode_set}
use Rattle.descriptor.specs.Decode as decode
use Rattle.name_rules.specs.Accessors.{text}
use Rattle.name_rules.specs.FullNames.{◌·◌, package_scope, Entry, entries, set_entries, set_fields}
use Rattle.name_rules.specs.MapEntries.{entry_named, entries_named, map_entries_named}
use Rattle.declarations.specs.Rows.{State, kind_number, state, Became, row_at, room, has_room, declared}
use Rattle.declarations.specs.declared.counts.Count.{Count}
use Rattle.declarations.specs.Listed.{full, Listed, listed, file_entries, listed_files}
use Rattle.declarations.proofs.RoomLaws.{room_is}
use Rattle.declarations.specs.declared.Declaration.{Declaration as Row}
use Rattle.map_entries.specs.Named.{naming, parent_kind, entry_row_named, is_entry_row, row_named, unnamed_from, first_unnamed}
use Rattle.map_entries.proofs.FieldCounts.{fields_listed, fields_numbered, row_rule}
use Rattle.map_entries.proofs.ShownLaws.{Shown, shown_as, shown, shown_messages, all_shown}
use Rattle.map_entries.proofs.SetTreeLaws.{shown_files, set_shown}
use Rattle.map_entries.proofs.NumberLaws.{set_fields_listed, At, at_set, at_left, at_right}

module _ (fields : List FieldDescriptor) (ls : List Listed) where
  -- the rule of a map entry by the kind of what it stands in
  unfoldable ruled : ℕ → Bytes → Bool
  ruled parent full = choose (ltb parent 2) false (entry_named fields (fields_numbered (parent - 2) ls) full)

  unfoldable good : Shown → Bool
  good s = choose s.entry (ruled s.parent s.full) true

  unfoldable first_bad : ℕ → List Shown → ℕ
  first_bad d [] = d
  first_bad d (s ∷ ss) = choose (good s) (first_bad d ss) s.file

  bad_append : (d : ℕ) (ss us : List Shown) → first_bad d (ss ++ us) ≡ first_bad (first_bad d us) ss
  unfolding first_bad
  bad_append d [] us = refl
  bad_append d (s ∷ ss) us = ap (λ (k : ℕ). choose (good s) k s.file) (bad_append d ss us)

  -- ---- messages
  and_choose : (a b c : Bool) (d file : ℕ) → choose a (choose b (choose c d file) file) file ≡ choose (a && (b && c)) d file
  unfolding choose
  and_choose true true c d file = refl
  and_choose true false c d file = refl
  and_choose false b c d file = refl

  placed : (b : Bool) (file n : ℕ) → choose b (file + 1 + n) file ≡ file + choose b (1 + n) 0
  unfolding choose
  placed true file n = omega arith
  placed false file n = omega arith

  own_rule : (m : ℕ) (own : List FieldDescriptor) → fields_numbered m ls ≡ own → (full : Bytes) → ruled (m + 2) full ≡ entry_named fields own full
  unfolding ruled choose
  own_rule m own e full = let z : m + 2 - 2 ≡ m = omega arith in rw (le-ltb (m + 2) 2 (omega arith), z, e)

  top_rule : (full : Bytes) → ruled 0 full ≡ entry_named fields [] full
  unfolding ruled choose entry_named count
  top_rule full = refl

  head_at : (m : ℕ) (scope : Bytes) (x : MessageDescriptor) (nested following : Forest MessageDescriptor) → At ls m (entries scope (node x nested following)) → fields_numbered m ls ≡ x.fields
  unfolding At entries
  head_at m scope x nested following a = a.0

  rest_at : (m : ℕ) (scope : Bytes) (x : MessageDescriptor) (nested following : Forest MessageDescriptor) → At ls m (entries scope (node x nested following))
      → At ls (m + 1) (entries (scope · text x.name) nested ++ entries scope following)
  unfolding At entries
  rest_at m scope x nested following a = a.1

  messages_bad : (file d : ℕ) (F : Forest MessageDescriptor) (m parent : ℕ) (own : List FieldDescriptor) (scope : Bytes)
      → ((full : Bytes) → ruled parent full ≡ entry_named fields own full) → At ls m (entries scope F)
      → first_bad d (shown_messages file m parent scope F) ≡ choose (entries_named fields own scope F) d file
  unfolding first_bad shown_messages entries_named good choose
  messages_bad file d done m parent own scope rule a = refl
  messages_bad file d (node x nested following) m parent own scope rule a =
      let scope₁ : Bytes = scope · text x.name in
      let rest : At ls (m + 1) (entries scope₁ nested ++ entries scope following) = rest_at m scope x nested following a in
      let after : ℕ = choose (entries_named fields own scope following) d file in
      let S₃ : List Shown = shown_messages file (m + 1) (m + 2) scope₁ nested in
      let S₄ : List Shown = shown_messages file (m + 1 + length (entries scope₁ nested)) parent scope following in
      let e₄ : first_bad d S₄ ≡ after =
      messages_bad file d following (m + 1 + length (entries scope₁ nested)) parent own scope rule (at_right ls (m + 1) (entries scope₁ nested) (entries scope following) rest) in
      let e₃ : first_bad after S₃ ≡ choose (entries_named fields x.fields scope₁ nested) after file =
      messages_bad file after nested (m + 1) (m + 2) x.fields scope₁ (own_rule m x.fields (head_at m scope x nested following a)) (at_left ls (m + 1) (entries scope₁ nested) (entries scope following) rest) in
      let inner : first_bad d (S₃ ++ S₄) ≡ choose (entries_named fields x.fields scope₁ nested) after file = bad_append d S₃ S₄ ∙ ap (λ (k : ℕ). first_bad k S₃) e₄ ∙ e₃ in
      ap (λ (k : ℕ). choose (choose x.map_entry (ruled parent scope₁) true) k file) inner
      ∙ ap (λ (b : Bool). choose (choose x.map_entry b true) (choose (entries_named fields x.fields scope₁ nested) after file) file) (rule scope₁)
      ∙ and_choose (choose x.map_entry (entry_named fields own scope₁) true) (entries_named fields x.fields scope₁ nested) (entries_named fields own scope following) d file

  files_bad : (ds : List FileDescriptor) (file m : ℕ) → At ls m (set_entries ds) → first_bad (file + length ds) (shown_files file m ds) ≡ file + first_failing (map_entries_named fields) ds
  unfolding shown_files set_entries first_bad first_failing map_entries_named
  files_bad [] file m a = refl
  files_bad (f ∷ fs) file m a =
      let es : List Entry = file_entries f in
      let after : List Shown = shown_files (file + 1) (m + length es) fs in
      let here : List Shown = shown_messages file m 0 (package_scope f.package_name) f.messages in
      let z : file + suc (length fs) ≡ file + 1 + length fs = omega arith in
      let e : first_bad (file + suc (length fs)) after ≡ file + 1 + first_failing (map_entries_named fields) fs =
      ap (λ (d : ℕ). first_bad d after) z ∙ files_bad fs (file + 1) (m + length es) (at_right ls m es (set_entries fs) a) in
      bad_append (file + suc (length fs)) here after ∙ ap (λ (d : ℕ). first_bad d here) e
      ∙ messages_bad file (file + 1 + first_failing (map_entries_named fields) fs) f.messages m 0 [] (package_scope f.package_name) top_rule (at_left ls m es (set_entries fs) a)
      ∙ placed (entries_named fields [] (package_scope f.package_name) f.messages) file (first_failing (map_entries_named fields) fs)

-- ---- the rows
abbrev files : Bytes → ℕ
files bytes = length (parts 1 (decode.entries bytes))

count_files : (bytes : Bytes) → files bytes ≡ 0 + length (decode_set bytes)
unfolding decode_set
count_files bytes = let e = map_length decode_file (parts 1 (decode.entries bytes)) in omega arith

module _ (bytes : List ℕ) (t : List Row) (n size : ℕ) (fit : n ≤ size) (small : n ≤ 65536) where
  abbrev ls : List Listed
  ls = listed bytes t n

  abbrev who : List ℕ
  who = naming bytes t n size

  module _ (i : ℕ) (h : i < n) where
    by_parent : (b : Bool) → ltb (parent_kind t i) 2 ≡ b
        → choose b false (eqb (get_or who i 0) (parent_kind t i)) ≡ choose b false (entry_named (fields_listed ls) (fields_numbered (parent_kind t i - 2) ls) (full bytes t (suc i)))
    unfolding choose
    by_parent true e = refl
    by_parent false e =
        let l = ltb-false (parent_kind t i) 2 e in
        let z : parent_kind t i - 2 + 2 ≡ parent_kind t i = omega arith in
        ap (λ (k : ℕ). eqb (get_or who i 0) k) (sym z) ∙ row_rule bytes t i (omega arith) n size (parent_kind t i - 2) h (omega arith)
        ∙ ap (λ (k : ℕ). entry_named (fields_listed ls) (fields_numbered (parent_kind t i - 2) ls) (full bytes t k)) (let q : i + 1 ≡ suc i = omega arith in q)

    entry_rule : entry_row_named t who i ≡ ruled (fields_listed ls) ls (parent_kind t i) (full bytes t (suc i))
    unfolding entry_row_named ruled
    entry_rule = by_parent (ltb (parent_kind t i) 2) refl

    row_bad : (d : ℕ) → choose (row_named bytes t who i) d (row_at t i).file ≡ first_bad (fields_listed ls) ls d (shown_as bytes (full bytes t (suc i)) (parent_kind t i) (row_at t i))
    unfolding row_named is_entry_row shown_as first_bad good choose
    row_bad d = by (ltb (kind_number (row_at t i).kind) 2)
      where
        m : MessageDescriptor
        m = decode_message (part bytes (row_at t i).start ((row_at t i).end - (row_at t i).start))

        s : Shown
        s = record { full = full bytes t (suc i); entry = m.map_entry; parent = parent_kind t i; file = (row_at t i).file }

        by : (b : Bool) → choose (choose (choose b false m.map_entry) (entry_row_named t who i) true) d (row_at t i).file ≡ first_bad (fields_listed ls) ls d (choose b [] (s ∷ []))
        by true = refl
        by false = ap (λ (b : Bool). choose (choose m.map_entry b true) d (row_at t i).file) entry_rule

  rows_bad : (k i : ℕ) → i + k ≡ n → first_bad (fields_listed ls) ls (unnamed_from bytes t who k i) (shown bytes t i) ≡ first_bad (fields_listed ls) ls (files bytes) (shown bytes t n)
  unfolding unnamed_from shown
  rows_bad zero i e = ap (λ (j : ℕ). first_bad (fields_listed ls) ls (files bytes) (shown bytes t j)) (let z : i ≡ n = omega arith in z)
  rows_bad (suc k) i e =
      let row : List Shown = shown_as bytes (full bytes t (suc i)) (parent_kind t i) (row_at t i) in
      let rest : ℕ = unnamed_from bytes t who k (i + 1) in
      ap (λ (d : ℕ). first_bad (fields_listed ls) ls d (shown bytes t i)) (row_bad i (omega arith) rest)
      ∙ sym (bad_append (fields_listed ls) ls rest (shown bytes t i) row)
      ∙ ap (λ (j : ℕ). first_bad (fields_listed ls) ls rest (shown bytes t j)) (let q : suc i ≡ i + 1 = omega arith in q) ∙ rows_bad k (i + 1) (omega arith)

  no_rows_bad : (d : ℕ) → d ≡ first_bad (fields_listed ls) ls d (shown bytes t 0)
  unfolding first_bad shown
  no_rows_bad d = refl

  table_bad : first_unnamed bytes t n who ≡ first_bad (fields_listed ls) ls (files bytes) (shown bytes t n)
  unfolding first_unnamed
  table_bad = no_rows_bad (unnamed_from bytes t who n 0) ∙ rows_bad n 0 (omega arith)

-- the theorem: in a table that has a row to spare and lists the set's declarations
pub set_unnamed : (bytes : List ℕ) (t : List Row) (size : ℕ) → room (declared bytes t) ≡ true → listed bytes (declared bytes t).table (declared bytes t).rows ≡ listed_files 0 0 (decode_set bytes)
    → (declared bytes t).rows ≤ size
    → first_unnamed bytes (declared bytes t).table (declared bytes t).rows (naming bytes (declared bytes t).table (declared bytes t).rows size)
    ≡ first_failing (map_entries_named (set_fields (decode_set bytes))) (decode_set bytes)
set_unnamed bytes t size last lists fit =
    let x : State = declared bytes t in
    let ds : List FileDescriptor = decode_set bytes in
    let r = room_is x.table x.rows last in
    let few : x.rows < 65536 = r.0 in
    let rows : first_bad (fields_listed (listed bytes x.table x.rows)) (listed bytes x.table x.rows) (files bytes) (all_shown bytes x)
    ≡ first_bad (set_fields ds) (listed_files 0 0 ds) (0 + length ds) (shown_files 0 0 ds) =
    rw (lists, set_fields_listed ds, set_shown bytes t last, count_files bytes) in
    let z : 0 + first_failing (map_entries_named (set_fields ds)) ds ≡ first_failing (map_entries_named (set_fields ds)) ds = omega arith in
    table_bad bytes x.table x.rows size fit (omega arith) ∙ rows ∙ files_bad (set_fields ds) (listed_files 0 0 ds) ds 0 0 (at_set ds) ∙ z

state_unnamed : (bytes : List ℕ) (t : List Row) (size : ℕ) (x : State) → x ≡ declared bytes t → room x ≡ true → listed bytes x.table x.rows ≡ listed_files 0 0 (decode_set bytes) → x.rows ≤ size
    → first_unnamed bytes x.table x.rows (naming bytes x.table x.rows size) ≡ first_failing (map_entries_named (set_fields (decode_set bytes))) (decode_set bytes)
state_unnamed bytes t size x e last lists fit = rw e (set_unnamed bytes t size (rw e at last) (rw e at lists) (rw e at fit))

-- the same of what `declare_set` leaves
pub table_unnamed : (bytes : List ℕ) (t u : List Row) (c : Count) (size : ℕ) → Became (declared bytes t) u c → has_room u c.rows ≡ true → listed bytes u c.rows ≡ listed_files 0 0 (decode_set bytes) → c.rows ≤ size
    → first_unnamed bytes u c.rows (naming bytes u c.rows size) ≡ first_failing (map_entries_named (set_fields (decode_set bytes))) (decode_set bytes)
table_unnamed bytes t u c size became last lists fit = state_unnamed bytes t size (state u c) became.is last lists fit
