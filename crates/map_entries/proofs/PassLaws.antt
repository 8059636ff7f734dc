-- The pass over the fields: what is noted. Assumes nothing.
use mathlib.Core.Path.{◌≡◌, refl, sym, ap, ◌∙◌}
use mathlib.Core.Bool.{Bool, true, false}
use mathlib.Core.List.{List, [], ◌∷◌, ◌++◌}
use Prim.Native.Nat.{ℕ, zero, suc, ◌+◌, ◌-◌, ◌≤◌, ◌<◌}
use native.Mathlib.Numerals.{add-one}
use native.Mathlib.Decide.{dec_le}
use native.Mathlib.Omega.{arith}
use lib.ListN.{length, get_or, set, replicate, length-set}
use lib.Seq.{set_out, get_or-set_other, set_comm}
use borrow.Author.Tests.{lt-ltb, le-ltb}
use Rattle.base.specs.Choose.{choose, choose_case}
use Rattle.base.specs.Lists.{all_of}
use Rattle.wire.specs.Records.{part}
use Rattle.std.proofs.Math.Option as option
use Rattle.std.proofs.lemmas.List.{map-set, get_or-map}
use Rattle.base.specs.Lists.{map_length}
use Rattle.descriptor.specs.Descriptor.{Bytes, FieldDescriptor}
use Rattle.descriptor.specs.Decode.{entries, parts, decode_field}
use Rattle.declarations.specs.declared.Kind.TheVariants.{Message}
use Rattle.declarations.specs.Rows.{row_at, kind_number}
use Rattle.declarations.specs.Listed.{full, listed_row, listed}
use Rattle.declarations.specs.declared.Declaration.{Declaration as Row}
use Rattle.checksums.specs.Sums.{sum_of}
use Rattle.type_names.specs.LookUp.{named}
use Rattle.type_names.proofs.RowSumLaws.{name_other}
use Rattle.type_names.proofs.WalkLaws.{Skips}
use Rattle.map_entries.specs.Named.{Use, is_mapping, field_use, part_use, row_uses, uses, vote, joined, noted, noted_rows, tally, naming}
use Rattle.map_entries.specs.Numbers.{number_of, numbers}
use Rattle.map_entries.specs.declared.Namers.{Namers}
use Rattle.map_entries.specs.declared.Namers.TheVariants.{Nobody}
use Rattle.map_entries.proofs.UseLaws.{uses_append, uses_row}

-- ---- one field
pub noted_out : (i v : ℕ) (who : List Namers) → length who ≤ i → numbers who ≡ noted i v (numbers who)
unfolding noted
noted_out i v who h = sym (set_out (numbers who) i (joined (get_or (numbers who) i 0) v) (let n = map_length number_of who in omega arith))

pub noted_in : (i v : ℕ) (who : List Namers) → i < length who → (r : Namers) → number_of r ≡ joined (number_of (get_or who i Nobody)) v → numbers (set who i r) ≡ noted i v (numbers who)
unfolding noted
noted_in i v who h r e = map-set number_of who i r ∙ ap (set (numbers who) i) (e ∙ ap (λ (w : ℕ). joined w v) (sym (get_or-map number_of who i Nobody 0 h)))

pub noted_length : (i v : ℕ) (who : List ℕ) → length (noted i v who) ≡ length who
unfolding noted
noted_length i v who = length-set who i (joined (get_or who i 0) v)

noted_swap : (i j v : ℕ) (who : List ℕ) → (i ≡ j → ⊥) → noted i v (noted j v who) ≡ noted j v (noted i v who)
unfolding noted
noted_swap i j v who d =
    rw (get_or-set_other who j i (joined (get_or who j 0) v) 0 d, get_or-set_other who i j (joined (get_or who i 0) v) 0 (λ e. d (sym e)))
    (set_comm who j i (joined (get_or who j 0) v) (joined (get_or who i 0) v) (λ e. d (sym e)))

module _ (bytes : List ℕ) (t : List Row) where
  pub rows_length : (name : Bytes) (v n : ℕ) (who : List ℕ) → length (noted_rows bytes t name v n who) ≡ length who
  unfolding noted_rows
  rows_length name v zero who = refl
  rows_length name v (suc n) who =
      choose_case (λ (w : List ℕ). length w ≡ length who) (named bytes t name n)
      (λ _. noted_length n v (noted_rows bytes t name v n who) ∙ rows_length name v n who) (λ _. rows_length name v n who)

  -- a row behind them is noted before them or after them
  rows_on : (name : Bytes) (v i n : ℕ) (who : List ℕ) → n ≤ i → noted_rows bytes t name v n (noted i v who) ≡ noted i v (noted_rows bytes t name v n who)
  unfolding noted_rows choose
  rows_on name v i zero who l = refl
  rows_on name v i (suc n) who l = by (named bytes t name n) (rows_on name v i n who (omega arith))
    where
      rows : List ℕ → List ℕ
      rows w = noted_rows bytes t name v n w

      by : (r : Bool) → rows (noted i v who) ≡ noted i v (rows who)
          → choose r (noted n v (rows (noted i v who))) (rows (noted i v who)) ≡ noted i v (choose r (noted n v (rows who)) (rows who))
      by true e = ap (noted n v) e ∙ noted_swap n i v (rows who) (λ q. omega arith)
      by false e = e

  rows_none : (name : Bytes) (v k : ℕ) (who : List ℕ) (m : ℕ) → k ≤ m → ((j : ℕ) → k ≤ j → j < m → false ≡ named bytes t name j) → noted_rows bytes t name v k who ≡ noted_rows bytes t name v m who
  unfolding noted_rows choose
  rows_none name v k who zero l none = ap (λ (q : ℕ). noted_rows bytes t name v q who) (let e : k ≡ 0 = omega arith in e)
  rows_none name v k who (suc m) l none = by (dec_le k m) (λ c. rows_none name v k who m c (λ j d h. none j d (omega arith)))
    where
      by : Dec (k ≤ m) → (k ≤ m → noted_rows bytes t name v k who ≡ noted_rows bytes t name v m who) → noted_rows bytes t name v k who ≡ noted_rows bytes t name v (suc m) who
      by (yes c) rest = rest c ∙ rw (← none m c (omega arith))
      by (no c) rest = ap (λ (q : ℕ). noted_rows bytes t name v q who) (let e : k ≡ suc m = omega arith in e)

  module _ (name : Bytes) (v n : ℕ) (who₀ : List ℕ) where
    -- the rows from row i on are noted
    pub record Noted (who : List ℕ) (i : ℕ) : Type 0 where
      pub is : noted_rows bytes t name v i who ≡ noted_rows bytes t name v n who₀
      pub size : length who ≡ length who₀

    pub rows_start : Noted who₀ n
    rows_start = record { is = refl; size = refl }

    -- rows with other checksums
    pub rows_skip : (sum : ℕ) → sum ≡ sum_of name → (who : List ℕ) → Skips bytes t sum (Noted who)
    rows_skip sum sum_is who = record {
      over = λ i k p l others. record { is = rows_none name v k who i l (λ j a h. name_other bytes t sum k i others j a h name sum_is) ∙ p.is; size = p.size };
    }

    pub rows_end : (who : List ℕ) → Noted who 0 → who ≡ noted_rows bytes t name v n who₀
    unfolding noted_rows
    rows_end who p = p.is

    module _ (who : List ℕ) (row : ℕ) (p : Noted who (row + 1)) (r : Bool) (r_is : r ≡ named bytes t name row) where
      one : noted_rows bytes t name v (row + 1) who ≡ choose r (noted row v (noted_rows bytes t name v row who)) (noted_rows bytes t name v row who)
      unfolding noted_rows
      one = rw r_is (ap (λ (m : ℕ). noted_rows bytes t name v m who) (add-one row))

      pub rows_more : r ≡ true → (w : List ℕ) → w ≡ noted row v who → Noted w row
      unfolding choose
      rows_more e w w_is = record {
        is = rw w_is (rows_on name v row row who (omega arith) ∙ sym (one ∙ rw e) ∙ p.is);
        size = ap length w_is ∙ noted_length row v who ∙ p.size;
      }

      pub rows_less : r ≡ false → Noted who row
      unfolding choose
      rows_less e = record { is = sym (one ∙ rw e) ∙ p.is; size = p.size }

  module _ (n : ℕ) where
    pub tally_length : (us : List Use) (who : List ℕ) → length (tally bytes t n us who) ≡ length who
    unfolding tally
    tally_length [] who = refl
    tally_length (u ∷ us) who = tally_length us (noted_rows bytes t u.name (vote u.number u.mapping) n who) ∙ rows_length u.name (vote u.number u.mapping) n who

    pub tally_append : (us vs : List Use) (who : List ℕ) → tally bytes t n (us ++ vs) who ≡ tally bytes t n vs (tally bytes t n us who)
    unfolding tally
    tally_append [] vs who = refl
    tally_append (u ∷ us) vs who = tally_append us vs (noted_rows bytes t u.name (vote u.number u.mapping) n who)

    pub tally_none : (us : List Use) (who : List ℕ) → us ≡ [] → who ≡ tally bytes t n us who
    unfolding tally
    tally_none us who e = rw e

    module _ (s : Bytes) (f : FieldDescriptor) (f_is : f ≡ decode_field s) (number : ℕ) (who : List ℕ) where
      pub unnamed_field : f.type_name ≡ option.none → who ≡ tally bytes t n (part_use number s) who
      unfolding field_use
      unnamed_field e = tally_none (part_use number s) who (rw (← f_is, e))

      pub named_field : (name : Bytes) → f.type_name ≡ option.some name → (m : Bool) → m ≡ is_mapping f → (v : ℕ) → v ≡ vote number m
          → (w : List ℕ) → w ≡ noted_rows bytes t name v n who → w ≡ tally bytes t n (part_use number s) who
      unfolding tally field_use
      named_field name e m m_is v v_is w w_is = w_is ∙ rw (← f_is, e, ← m_is, ← v_is)

    -- the fields of a message
    module _ (number : ℕ) (total : List ℕ) (size : ℕ) where
      pub record Going (ps : List Bytes) (who : List ℕ) : Type 0 where
        pub left : tally bytes t n (all_of (part_use number) ps) who ≡ total
        pub long : length who ≡ size

      module _ (ps : List Bytes) (who : List ℕ) (going : Going ps who) where
        pub going_end : ps ≡ [] → who ≡ total
        unfolding all_of tally
        going_end e = ap (λ (ps : List Bytes). tally bytes t n (all_of (part_use number) ps) who) (sym e) ∙ going.left

        pub going_more : (p : Bytes) (qs : List Bytes) → ps ≡ p ∷ qs → (w : List ℕ) → w ≡ tally bytes t n (part_use number p) who → Going qs w
        unfolding all_of
        going_more p qs e w w_is =
            record {
              left =
                  ap (tally bytes t n (all_of (part_use number) qs)) w_is
                  ∙ sym (tally_append (part_use number p) (all_of (part_use number) qs) who)
                  ∙ ap (λ (ps : List Bytes). tally bytes t n (all_of (part_use number) ps) who) (sym e) ∙ going.left;
              long = ap length w_is ∙ tally_length (part_use number p) who ∙ going.long;
            }

    -- a row
    module _ (i : ℕ) (r : Row) (r_is : r ≡ row_at t i) (who : List ℕ) where
      pub no_message : kind_number r.kind < 2 → who ≡ tally bytes t n (row_uses bytes t i) who
      unfolding row_uses choose
      no_message h = tally_none (row_uses bytes t i) who (rw (← r_is, lt-ltb (kind_number r.kind) 2 h))

      pub message_noted : (number : ℕ) → r.kind ≡ Message number → (s : Bytes) → s ≡ part bytes r.start (r.end - r.start)
          → (w : List ℕ) → w ≡ tally bytes t n (all_of (part_use number) (parts 2 (entries s))) who → w ≡ tally bytes t n (row_uses bytes t i) who
      unfolding row_uses kind_number choose
      message_noted number e s s_is w w_is =
          let z : number + 2 - 2 ≡ number = omega arith in
          w_is ∙ rw (← r_is, e, le-ltb (number + 2) 2 (omega arith), z, ← s_is)

    -- the rows
    module _ (who₀ : List ℕ) where
      pub record Passed (who : List ℕ) (i : ℕ) : Type 0 where
        pub inside : i ≤ n
        pub is : who ≡ tally bytes t n (uses (listed bytes t i)) who₀

      pub passed_start : Passed who₀ 0
      unfolding listed uses tally
      passed_start = record { inside = omega arith; is = refl }

      module _ (who : List ℕ) (i : ℕ) (passed : Passed who i) where
        pub passed_more : i < n → (w : List ℕ) → w ≡ tally bytes t n (row_uses bytes t i) who → Passed w (i + 1)
        unfolding listed
        passed_more h w w_is =
            record {
              inside = omega arith;
              is =
                  w_is ∙ ap (tally bytes t n (row_uses bytes t i)) passed.is ∙ sym (tally_append (uses (listed bytes t i)) (row_uses bytes t i) who₀)
                  ∙ ap (λ (us : List Use). tally bytes t n us who₀)
                  (ap (λ (us : List Use). uses (listed bytes t i) ++ us) (sym (uses_row bytes t (full bytes t (suc i)) i)) ∙ sym (uses_append (listed bytes t i) (listed_row bytes (full bytes t (suc i)) (row_at t i))) ∙ rw add-one);
            }

        pub passed_end : n ≤ i → (size : ℕ) → who₀ ≡ replicate size 0 → who ≡ naming bytes t n size
        unfolding naming
        passed_end h size e =
            let k = passed.inside in
            let z : i ≡ n = omega arith in
            passed.is ∙ rw (z, e)
