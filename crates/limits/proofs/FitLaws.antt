-- One walk for the limits 3 to 10: what a declaration alone counts, the step from a record to the next, and the limits. Assumes nothing.
use mathlib.Core.Path.{◌≡◌, refl, sym, ap, ◌∙◌}
use mathlib.Core.Bool.{Bool, true, false}
use mathlib.Core.List.{List, [], ◌∷◌}
use Prim.Native.Nat.{ℕ, ◌+◌, ◌-◌, ◌≤◌}
use native.Mathlib.Omega.{arith}
use lib.ListN.{length}
use lib.Dec.{ltb, eqb}
use borrow.Author.Tests.{le-ltb, ne_eqb}
use Rattle.std.specs.Prelude.{Option, Some, None, IfSome, Result, Ok, Err}
use Rattle.base.specs.Choose.{choose, choose_case}
use Rattle.base.specs.Tests.{both_ways}
use Rattle.wire.specs.Encoding.{Field}
use Rattle.wire.specs.Message.{Entry, records_at, fields_in}
use Rattle.wire.specs.declared.records.record.Fault.{Fault}
use Rattle.descriptor.specs.Descriptor.{Bytes}
use Rattle.descriptor.specs.Decode.{entries, bytes_in, parts}
use Rattle.descriptor.proofs.EntriesLaws.{entries_read}
use Rattle.limits.specs.Sums.{sum, bit}
use Rattle.limits.specs.Weights.{text_bytes, text_length, long_segment, long_name, long_full_name, sort_below, counts, around_below, holds_none, tally, most, passes}
use Rattle.limits.specs.Fits.{no_totals, with_name, counted, one_of, Held, Adds, Joined}
use Rattle.limits.specs.declared.limit.Limit.{Limit}
use Rattle.limits.specs.declared.limit.Limit.TheVariants as limits
use Rattle.limits.specs.declared.sort.Sort.{Sort}
use Rattle.limits.specs.declared.sort.Sort.TheVariants as sorts
use Rattle.limits.specs.declared.totals.Totals.{Totals}
use Rattle.limits.proofs.Sizes.{room, entries_room}
use Rattle.limits.proofs.TextLaws.{bytes_of_fields, bytes_all}
use Rattle.limits.proofs.TallyLaws.{tally_none}
use Rattle.limits.proofs.WalkLaws.{tally_of, tally_start, tally_end, tally_fault, tally_skip, tally_found}

-- ---- a string is no longer than all bytes
string_room : (n : ℕ) (fs : List Field) (b : Bytes) → length (bytes_of_fields n fs b) ≤ length b + sum room fs
unfolding bytes_of_fields sum
string_room n [] b = omega arith
string_room n (f ∷ fs) b =
    choose_case (λ (x : Bytes). length (bytes_of_fields n fs x) ≤ length b + (room f + sum room fs)) (eqb f.number n)
    (λ _. let h = string_room n fs (bytes_in f.value) in omega arith)
    (λ _. let h = string_room n fs b in omega arith)

pub text_small : (n : ℕ) (s : Bytes) → text_length n s ≤ length s
text_small n s = rw (← bytes_all n s) (omega (arith, string_room n (entries s) [], entries_room s))

-- ---- the length of a name, record by record
unfoldable pub length_of_fields : ℕ → List Field → ℕ → ℕ
length_of_fields n [] k = k
length_of_fields n (f ∷ fs) k = length_of_fields n fs (choose (eqb f.number n) (length (bytes_in f.value)) k)

choose_length : (t : Bool) (x b : Bytes) → choose t (length x) (length b) ≡ length (choose t x b)
unfolding choose
choose_length true x b = refl
choose_length false x b = refl

lengths_same : (n : ℕ) (fs : List Field) (b : Bytes) → length_of_fields n fs (length b) ≡ length (bytes_of_fields n fs b)
unfolding bytes_of_fields length_of_fields
lengths_same n [] b = refl
lengths_same n (f ∷ fs) b =
    ap (length_of_fields n fs) (choose_length (eqb f.number n) (bytes_in f.value) b)
    ∙ lengths_same n fs (choose (eqb f.number n) (bytes_in f.value) b)

pub name_start : (s : Bytes) → length_of_fields 1 (fields_in (records_at 0 s)) 0 ≡ text_length 1 s
name_start s = rw (entries_read 0 s) (lengths_same 1 (entries s) [] ∙ ap length (bytes_all 1 s))

-- ---- a declaration alone
record Clean (sort : Sort) (around : ℕ) (s : Bytes) : Type 0 where
  values : counts limits.Values sort around s ≡ false
  nesting : counts limits.Nesting sort around s ≡ false
  name : long_name sort s ≡ false
  full : long_full_name sort around s ≡ false
  default : counts limits.Defaults sort around s ≡ false

clean_counts : (limit : Limit) (sort : Sort) (around : ℕ) (s : Bytes) → Clean sort around s → bit (counts limit sort around s) ≡ one_of sort limit
unfolding counts choose
clean_counts limits.Messages sort around s c = refl
clean_counts limits.Fields sort around s c = refl
clean_counts limits.Enums sort around s c = refl
clean_counts limits.Values sort around s c = ap bit c.values
clean_counts limits.Nesting sort around s c = ap bit c.nesting
clean_counts limits.Names sort around s c = ap bit c.name
clean_counts limits.FullNames sort around s c = ap bit c.full
clean_counts limits.Defaults sort around s c = ap bit c.default

module _ (s : Bytes) where
  pub field_adds : ltb 255 (text_length 7 s) ≡ false → ltb 64 (text_length 1 s) ≡ false → Adds sorts.Field s 0
  unfolding counts long_name long_full_name around_below
  field_adds default name =
      record {
        own = λ limit around _. clean_counts limit sorts.Field around s (record { values = refl; nesting = refl; name = name; full = refl; default = default });
        below = λ around. omega arith;
      }

  pub oneof_adds : ltb 64 (text_length 1 s) ≡ false → Adds sorts.Oneof s 0
  unfolding counts long_name long_full_name around_below
  oneof_adds name =
      record {
        own = λ limit around _. clean_counts limit sorts.Oneof around s (record { values = refl; nesting = refl; name = name; full = refl; default = refl });
        below = λ around. omega arith;
      }

  pub value_adds : ltb 64 (text_length 1 s) ≡ false → Adds sorts.Value s 0
  unfolding counts long_name long_full_name around_below
  value_adds name =
      record {
        own = λ limit around _. clean_counts limit sorts.Value around s (record { values = refl; nesting = refl; name = name; full = refl; default = refl });
        below = λ around. omega arith;
      }

  pub message_adds : (name added : ℕ) → name ≡ text_length 1 s → name ≤ 64 → added ≡ name + 1 → Adds sorts.Message s added
  unfolding counts long_name long_full_name around_below
  message_adds name added name_is short added_is =
      record {
        own = λ limit around fits. clean_counts limit sorts.Message around s
            (record { values = refl; nesting = refl; name = le-ltb 64 (text_length 1 s) (omega arith); full = le-ltb 255 (around + 1 + text_length 1 s) (omega arith); default = refl });
        below = λ around. omega arith;
      }

  pub enum_adds : ltb 256 (length (parts 2 (entries s))) ≡ false → (name added : ℕ) → name ≡ text_length 1 s → name ≤ 64 → added ≡ name + 1 → Adds sorts.Enum s added
  unfolding counts long_name long_full_name around_below
  enum_adds values name added name_is short added_is =
      record {
        own = λ limit around fits. clean_counts limit sorts.Enum around s
            (record { values = values; nesting = refl; name = le-ltb 64 (text_length 1 s) (omega arith); full = le-ltb 255 (around + 1 + text_length 1 s) (omega arith); default = refl });
        below = λ around. omega arith;
      }

  pub file_adds : (name : Bytes) (added : ℕ) → name ≡ text_bytes 2 s → long_segment name ≡ false → added ≡ length name + 1 → Adds sorts.File s added
  unfolding counts long_name long_full_name around_below
  file_adds name added package_is short added_is =
      let l : length name ≡ text_length 2 s = ap length package_is in
      record {
        own = λ limit around fits. clean_counts limit sorts.File around s (record { values = refl; nesting = refl; name = ap long_segment (sym package_is) ∙ short; full = refl; default = refl });
        below = λ around. choose_case (λ (n : ℕ). n ≤ around + added) (eqb (text_length 2 s) 0) (λ _. omega arith) (λ _. omega arith);
      }

module _ (s : Bytes) (name : ℕ) (r : Option ℕ) (fits : IfSome r (λ added. (name ≤ 64) × (added ≡ name + 1))) where
  pub message_added : (holds_none sorts.Message ≡ false → name ≡ text_length 1 s) → IfSome r (Adds sorts.Message s)
  unfolding holds_none
  message_added named = elim r as (λ r. IfSome r (λ added. (name ≤ 64) × (added ≡ name + 1)) → IfSome r (Adds sorts.Message s)) [ None ↦ λ _. tt | Some added ↦ λ h. message_adds s name added (named refl) h.0 h.1 ] fits

  pub enum_added : ltb 256 (length (parts 2 (entries s))) ≡ false → (holds_none sorts.Enum ≡ false → name ≡ text_length 1 s) → IfSome r (Adds sorts.Enum s)
  unfolding holds_none
  enum_added values named = elim r as (λ r. IfSome r (λ added. (name ≤ 64) × (added ≡ name + 1)) → IfSome r (Adds sorts.Enum s)) [ None ↦ λ _. tt | Some added ↦ λ h. enum_adds s values name added (named refl) h.0 h.1 ] fits

pub file_added : (s name : Bytes) (r : Option ℕ) → name ≡ text_bytes 2 s → IfSome r (λ added. (added ≤ 256) × ((long_segment name ≡ false) × (added ≡ length name + 1))) → IfSome r (Adds sorts.File s)
file_added s name None is h = tt
file_added s name (Some added) is h = file_adds s name added is h.1.0 h.1.1

pub ruleset adds = (field_adds, oneof_adds, value_adds, file_added)

-- ---- totals of two
pub joined_is : (t : Totals) (sort : Sort) (added : ℕ) (inner r : Totals)
    → r.messages ≡ t.messages + one_of sort limits.Messages + inner.messages → r.fields ≡ t.fields + one_of sort limits.Fields + inner.fields → r.enums ≡ t.enums + one_of sort limits.Enums + inner.enums
    → t.longest ≤ r.longest → added + inner.longest ≤ r.longest → Joined t sort added inner r
joined_is t sort added inner r m f e kept longer =
    record {
      sums = λ limit. elim limit as (λ limit. counted r limit ≡ counted t limit + (one_of sort limit + counted inner limit)) [
        | limits.Messages ↦ omega arith
        | limits.Fields ↦ omega arith
        | limits.Enums ↦ omega arith
        | limits.Values ↦ refl
        | limits.Nesting ↦ refl
        | limits.Names ↦ refl
        | limits.FullNames ↦ refl
        | limits.Defaults ↦ refl
      ];
      kept = kept;
      longer = longer;
    }

none_counted : (limit : Limit) → counted no_totals limit ≡ 0
none_counted limits.Messages = refl
none_counted limits.Fields = refl
none_counted limits.Enums = refl
none_counted limits.Values = refl
none_counted limits.Nesting = refl
none_counted limits.Names = refl
none_counted limits.FullNames = refl
none_counted limits.Defaults = refl

-- ---- from a record to the next: what the totals and the records to come count together
pub record CountedTo (left : ℕ) (sort : Sort) (s : Bytes) (rs : List (Result Entry Fault)) (t : Totals) : Type 0 where
  pub rest : (limit : Limit) (around : ℕ) → around + t.longest ≤ 255 → counted t limit + tally_of limit left sort around (fields_in rs) ≡ tally limit left sort around s

pub held_none : (left : ℕ) (sort : Sort) (s : Bytes) → holds_none sort ≡ true → Held left sort s no_totals
held_none left sort s none =
    record {
      tallies = λ limit around _. none_counted limit ∙ sym (tally_none limit left sort around s none);
      name = λ some. both_ways none some;
    }

pub counted_start : (left : ℕ) (sort : Sort) (s : Bytes) → (left ≡ 0 → ⊥) → CountedTo left sort s (records_at 0 s) no_totals
counted_start left sort s some =
    record { rest = λ limit around _. let z = none_counted limit in let start = tally_start limit left sort around s some in omega arith }

pub held_end : (left : ℕ) (sort : Sort) (s : Bytes) (t : Totals) (name : ℕ) (rs : List (Result Entry Fault)) → rs ≡ [] → CountedTo left sort s rs t → length_of_fields 1 (fields_in rs) name ≡ text_length 1 s → Held left sort s (with_name t name)
unfolding length_of_fields fields_in
held_end left sort s t name rs is so_far named =
    record {
      tallies = λ limit around fits. let all = rw is at (so_far.rest limit around fits) in let end = tally_end limit left sort around in omega arith;
      name = λ _. rw is at named;
    }

module _ (left : ℕ) (sort : Sort) (s : Bytes) (all rs : List (Result Entry Fault)) (t : Totals) (so_far : CountedTo left sort s all t) where
  pub counted_fault : (f : Fault) → all ≡ Err f ∷ rs → CountedTo left sort s rs t
  counted_fault f is =
      record { rest = λ limit around fits. let whole = rw is at (so_far.rest limit around fits) in let step = tally_fault limit left sort around rs f in omega arith }

  module _ (e : Entry) (is : all ≡ Ok e ∷ rs) where
    pub counted_skip : sort_below sort left e.field.number ≡ None → CountedTo left sort s rs t
    counted_skip none =
        record { rest = λ limit around fits. let whole = rw is at (so_far.rest limit around fits) in let step = tally_skip limit left sort around rs e none in omega arith }

    pub counted_found : (below : Sort) → sort_below sort left e.field.number ≡ Some below → (x : Bytes) → x ≡ bytes_in e.field.value → (inner : Totals) → Held (left - 1) below x inner
        → (added : ℕ) → Adds below x added → (next : Totals) → Joined t below added inner next → CountedTo left sort s rs next
    counted_found below below_is x x_is inner held added adds next joined =
        record {
          rest = λ limit around fits.
              let kept = joined.kept in
              let longer = joined.longer in
              let small = next.short in
              let name : ℕ = around_below below around x in
              let name_small = adds.below around in
              let own = adds.own limit around (omega arith) in
              let inside = held.tallies limit name (omega arith) in
              let sums = joined.sums limit in
              let step : tally_of limit left sort around (fields_in (Ok e ∷ rs)) ≡ bit (counts limit below around x) + tally limit (left - 1) below name x + tally_of limit left sort around (fields_in rs) = rw x_is (tally_found limit left sort around rs e below below_is) in
              let whole = rw is at (so_far.rest limit around (omega arith)) in
              omega arith;
        }

-- ---- the name
module _ (all rs : List (Result Entry Fault)) (s : Bytes) (name : ℕ) (so_far : length_of_fields 1 (fields_in all) name ≡ text_length 1 s) where
  pub name_fault : (f : Fault) → all ≡ Err f ∷ rs → length_of_fields 1 (fields_in rs) name ≡ text_length 1 s
  unfolding fields_in
  name_fault f is = rw is at so_far

  module _ (e : Entry) (is : all ≡ Ok e ∷ rs) where
    pub name_found : e.field.number ≡ 1 → (len : ℕ) → len ≡ length (bytes_in e.field.value) → length_of_fields 1 (fields_in rs) len ≡ text_length 1 s
    unfolding fields_in length_of_fields choose
    name_found one len len_is = let h = rw is at so_far in rw len_is (rw one at h)

    pub name_kept : (e.field.number ≡ 1 → ⊥) → length_of_fields 1 (fields_in rs) name ≡ text_length 1 s
    unfolding fields_in length_of_fields choose
    name_kept other = let h = rw is at so_far in rw (ne_eqb e.field.number 1 other, length_of_fields) at h

pub ruleset totals = (held_none, counted_start, held_end, counted_fault, counted_skip, counted_found, name_start, name_fault, name_found, name_kept)

-- ---- the limits
few_enough : (t : Totals) (limit : Limit) → counted t limit ≤ most limit
unfolding most
few_enough t limits.Messages = t.few_messages
few_enough t limits.Fields = t.few_fields
few_enough t limits.Enums = t.few_enums
few_enough t limits.Values = omega arith
few_enough t limits.Nesting = omega arith
few_enough t limits.Names = omega arith
few_enough t limits.FullNames = omega arith
few_enough t limits.Defaults = omega arith

pub held_passes : (s : Bytes) (t : Totals) → Held 19 sorts.Set s t → (limit : Limit) → passes limit s ≡ false
unfolding passes
held_passes s t held limit =
    let small = t.short in
    let same : counted t limit ≡ tally limit 19 sorts.Set 0 s = held.tallies limit 0 (omega arith) in
    let few = few_enough t limit in
    le-ltb (most limit) (tally limit 19 sorts.Set 0 s) (rw (← same) few)
