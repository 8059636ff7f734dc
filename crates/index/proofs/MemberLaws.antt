-- The loop of `index_members`: what holds before each message. Assumes nothing.
use mathlib.Core.Path.{◌≡◌, refl, sym, ap, ◌∙◌, subst}
use mathlib.Core.List.{List, [], ◌++◌}
use Prim.Native.Nat.{ℕ, zero, suc, ◌+◌, ◌-◌, ◌≤◌, ◌<◌, min}
use native.Mathlib.Omega.{arith}
use native.Mathlib.Decide.{dec_le}
use lib.ListN.{length, take, length-append, length-take, get_or-eq_default}
use Rattle.std.proofs.lemmas.List.{get_or-take}
use lib.Dec.{ltb}
use borrow.Author.Tests.{le-ltb, lt-ltb}
use Rattle.base.specs.Choose.{choose, choose_case}
use Rattle.wire.specs.Records.{over, records, scan, pass}
use Rattle.descriptor.specs.Descriptor.{Forest, done}
use Rattle.index.specs.Tree.{Place, forest_in, size, rows, fill, Indexed, member_forest, members, no_row, row_at, row_bytes, Holds, all_members}
use Rattle.index.specs.declared.Row.{Row}
use Rattle.index.proofs.TreeLaws.{rows_length, fill_append}
use Rattle.index.proofs.IndexLaws.{indexed_length}

-- the first rows of a table
module _ (messages : List Row) (count known j : ℕ) (is : known ≡ min count (length messages)) (h : j < length (take known messages)) where
  pub counted_in : j < count
  counted_in = let long = length-take known messages in omega arith

  pub taken : row_at (take known messages) j ≡ row_at messages j
  taken = let long = length-take known messages in get_or-take known messages j no_row (omega arith)

module _ (set : List ℕ) (number : ℕ) (messages : List Row) where
  -- one message more
  members_more : (count j i : ℕ) → j < count → i ≤ 32767
      → members set number messages (count - j) j i
      ≡ rows (row_at messages j).file (j + 1) i (member_forest set number (row_at messages j)) ++ members set number messages (count - (j + 1)) (j + 1) (i + size (member_forest set number (row_at messages j)))
  unfolding members choose
  members_more count j i h l =
      let e : count - j ≡ suc (count - (j + 1)) = omega arith in
      ap (λ (k : ℕ). members set number messages k j i) e ∙ rw (le-ltb 32767 i l)

  members_none : (count j i : ℕ) → count ≤ j → members set number messages (count - j) j i ≡ []
  unfolding members
  members_none count j i h = ap (λ (k : ℕ). members set number messages k j i) (let e : count - j ≡ 0 = omega arith in e)

  members_full : (k j i : ℕ) → 32767 < i → members set number messages k j i ≡ []
  unfolding members choose
  members_full zero j i h = refl
  members_full (suc k) j i h = rw (lt-ltb 32767 i h)

  -- past the table's end no message holds any
  none_there : member_forest set number no_row ≡ done
  unfolding forest_in over records scan pass
  none_there = refl

  members_past : (k j i : ℕ) → length messages ≤ j → members set number messages k j i ≡ []
  unfolding members choose rows size
  members_past zero j i h = refl
  members_past (suc k) j i h =
      let past : row_at messages j ≡ no_row = get_or-eq_default messages no_row h in
      choose_case (λ (rs : List Row). rs ≡ []) (ltb 32767 i) (λ _. refl) (λ _. rw (past, none_there) (members_past k (j + 1) (i + 0) (omega arith)))

  module _ (count : ℕ) (t₀ : List Row) (i : ℕ) where
    pub record Going (t : List Row) (n j : ℕ) : Type 0 where
      pub small : length set ≤ 32768
      pub few : count ≤ 1024
      pub long : length t ≡ length t₀
      pub table : fill t n (members set number messages (count - j) j n) ≡ fill t₀ i (all_members set number messages count i)
      pub counted : n + length (members set number messages (count - j) j n) ≡ i + length (all_members set number messages count i)

    all_are : length set ≤ 32768 → count ≤ 1024 → members set number messages (count - 0) 0 i ≡ all_members set number messages count i
    unfolding all_members choose
    all_are h l = rw (le-ltb 32768 (length set) h, le-ltb 1024 count l) (ap (λ (k : ℕ). members set number messages k 0 i) (let e : count - 0 ≡ count = omega arith in e))

    pub going_start : length set ≤ 32768 → count ≤ 1024 → Going t₀ i 0
    going_start h l = record { small = h; few = l; long = refl; table = ap (fill t₀ i) (all_are h l); counted = ap (λ (rs : List Row). i + length rs) (all_are h l) }

    pub going_large : 32768 < length set → Holds (all_members set number messages count i) t₀ i t₀ i
    unfolding all_members choose fill
    going_large h = rw (lt-ltb 32768 (length set) h) (record { table = refl; counted = omega arith })

    pub going_many : length set ≤ 32768 → 1024 < count → Holds (all_members set number messages count i) t₀ i t₀ i
    unfolding all_members choose fill
    going_many l h = rw (le-ltb 32768 (length set) l, lt-ltb 1024 count h) (record { table = refl; counted = omega arith })

    module _ (t : List Row) (n j : ℕ) (going : Going t n j) where
      ended : members set number messages (count - j) j n ≡ [] → Holds (all_members set number messages count i) t₀ i t n
      unfolding fill
      ended e =
          record {
            table = sym (ap (fill t n) e) ∙ going.table;
            counted = (let z : n ≡ n + 0 = omega arith in z) ∙ sym (ap (λ (rs : List Row). n + length rs) e) ∙ going.counted;
          }

      pub going_end : (known : ℕ) → known ≡ min count (length messages) → length (take known messages) ≤ j → Holds (all_members set number messages count i) t₀ i t n
      going_end known is h = ended (on (dec_le count j))
        where
          on : Dec (count ≤ j) → members set number messages (count - j) j n ≡ []
          on (yes past) = members_none count j n past
          on (no within) = let long = length-take known messages in members_past (count - j) j n (omega arith)

      pub going_full : 32767 < n → Holds (all_members set number messages count i) t₀ i t n
      going_full h = ended (members_full (count - j) j n h)

      pub going_more : j < count → n ≤ 32767 → (m : Row) → m ≡ row_at messages j → (start file : ℕ) → start ≡ m.start → file ≡ m.file
          → (s : List ℕ) → s ≡ row_bytes set m → (w : List Row) (next : ℕ) → Indexed (forest_in 1 number s start) file (j + 1) t n w next → Going w next (j + 1)
      going_more h l m m_is start file start_is file_as s s_is w next inner =
          let F : Forest Place = member_forest set number (row_at messages j) in
          let same : forest_in 1 number s start ≡ F =
          ap (λ (x : List ℕ). forest_in 1 number x start) s_is
          ∙ ap (λ (a : ℕ). forest_in 1 number (row_bytes set m) a) start_is
          ∙ ap (member_forest set number) m_is in
          let file_is : file ≡ (row_at messages j).file = file_as ∙ ap (λ (r : Row). r.file) m_is in
          let inner₁ : Indexed F file (j + 1) t n w next = subst (λ (X : Forest Place). Indexed X file (j + 1) t n w next) same inner in
          let inner₃ : Indexed F (row_at messages j).file (j + 1) t n w next = subst (λ (x : ℕ). Indexed F x (j + 1) t n w next) file_is inner₁ in
          let next_is : next ≡ n + size F = inner₃.counted in
          let rs : List Row = rows (row_at messages j).file (j + 1) n F in
          let rest : List Row = members set number messages (count - (j + 1)) (j + 1) (n + size F) in
          let whole : members set number messages (count - j) j n ≡ rs ++ rest = members_more count j n h l in
          let len : length rs ≡ size F = rows_length F (row_at messages j).file (j + 1) n in
          let both : length (rs ++ rest) ≡ length rs + length rest = length-append rs rest in
          let from : members set number messages (count - (j + 1)) (j + 1) next ≡ rest = ap (members set number messages (count - (j + 1)) (j + 1)) next_is in
          record {
            small = going.small;
            few = going.few;
            long = indexed_length F (row_at messages j).file (j + 1) t n w next inner₃ ∙ going.long;
            table =
                ap (fill w next) from
                ∙ ap (λ (x : ℕ). fill w x rest) (next_is ∙ ap (λ (x : ℕ). n + x) (sym len))
                ∙ ap (λ (u : List Row). fill u (n + length rs) rest) inner₃.table
                ∙ sym (fill_append t n rs rest) ∙ sym (ap (fill t n) whole) ∙ going.table;
            counted =
                let a : length (members set number messages (count - (j + 1)) (j + 1) next) ≡ length rest = ap length from in
                let c : length (members set number messages (count - j) j n) ≡ length (rs ++ rest) = ap length whole in
                let d = going.counted in
                omega arith;
          }
