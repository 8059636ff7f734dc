-- Which fields of a set name a map entry, by the counts of refusal 6. Assumes nothing.
use Rattle.std.specs.Prelude.{◌≡◌, Bool, eqb, ltb, length}
use Rattle.std.proofs.Math.Path.{refl, ap}
use Rattle.std.proofs.Common.{sym, ◌∙◌}
use Rattle.std.proofs.Math.Bool.{true, false}
use mathlib.Core.List.Memᴰ
use mathlib.Core.List.{List, [], ◌∷◌, Memᴰ}
use Rattle.std.proofs.Math.Logic.{⊎_elim}
use Rattle.std.proofs.Math.Option.{Option, some, none}
use Prim.Native.Nat.{ℕ, suc, ◌+◌, ◌≤◌, ◌<◌}
use native.Mathlib.Omega.{arith}
use borrow.Author.Tests.{eqb-true}
use Rattle.base.specs.Bytes.{same, same_refl}
use Rattle.base.specs.Choose.{choose}
use Rattle.base.specs.Lists.{count, count_append, count_less, some_count}
use Rattle.base.specs.Tests.{both_ways, and_right}
use Rattle.name_rules.proofs.NamesLaws.{maps_names}
use Rattle.descriptor.specs.Descriptor.{Bytes, FieldDescriptor}
use Rattle.name_rules.specs.Accessors.{text}
use Rattle.name_rules.specs.Rules.{is_text}
use Rattle.name_rules.specs.FullNames.{Entry, fields_of_entries}
use Rattle.name_rules.specs.MapEntries.{names_it, maps_it, entry_named}
use Rattle.map_entries.proofs.CountLaws.{by_eq}
use Rattle.context_laws.specs.At.{At}
use Rattle.context_laws.specs.At.At.{first, next}

-- ---- two tests of which one is the stronger

module _ {A : Type 0} (p q : A → Bool) (within : (x : A) → p x ≡ true → q x ≡ true) where
  -- where as many pass the stronger one, those are all that pass the other
  head_passes : (a c : Bool) (n m : ℕ) → n ≤ m → choose c (1 + m) m ≤ choose a (1 + n) n → c ≡ true → a ≡ true
  unfolding choose
  head_passes true c n m l h is = refl
  head_passes false true n m l h is = absurd (omega arith)
  head_passes false false n m l h is = is

  tail_counts : (a c : Bool) → (a ≡ true → c ≡ true) → (n m : ℕ) → choose c (1 + m) m ≤ choose a (1 + n) n → m ≤ n
  unfolding choose
  tail_counts true true h n m l = omega arith
  tail_counts true false h n m l = both_ways (h refl) refl
  tail_counts false true h n m l = omega arith
  tail_counts false false h n m l = l

  counts_same : (xs : List A) → count q xs ≤ count p xs → (x : A) → Memᴰ x xs → q x ≡ true → p x ≡ true
  unfolding count
  counts_same [] h x m is = absurd (Memᴰ.not-nil m)
  counts_same (y ∷ ys) h x m is =
      ⊎_elim (λ e. ap p e ∙ head_passes (p y) (q y) (count p ys) (count q ys) (count_less p q within ys) h (ap q (sym e) ∙ is))
      (λ w. counts_same ys (tail_counts (p y) (q y) (within y) (count p ys) (count q ys) h) x w is)
      (Memᴰ.cases_cons m)

-- ---- over the fields of messages

module _ (p : FieldDescriptor → Bool) where
  abbrev own : Entry → ℕ
  own e = count p e.message.fields

  one_entry : {e : Entry} {es : List Entry} {i : ℕ} → At e es i → own e ≤ count p (fields_of_entries es)
  unfolding fields_of_entries
  one_entry {e} (first {y} {xs} q) =
      let c = count_append p y.message.fields (fields_of_entries xs) in
      let s = ap own q in
      omega arith
  one_entry (next {y} {xs} a) =
      let c = count_append p y.message.fields (fields_of_entries xs) in
      let l = one_entry a in
      omega arith

  two_entries : {e d : Entry} {es : List Entry} {i j : ℕ} → At e es i → At d es j → (i ≡ j → ⊥) → own e + own d ≤ count p (fields_of_entries es)
  unfolding fields_of_entries
  two_entries (first q) (first r) apart = absurd (apart refl)
  two_entries (first {y} {xs} q) (next b) apart =
      let c = count_append p y.message.fields (fields_of_entries xs) in
      let s = ap own q in
      let l = one_entry b in
      omega arith
  two_entries (next a) (first {y} {xs} q) apart =
      let c = count_append p y.message.fields (fields_of_entries xs) in
      let s = ap own q in
      let l = one_entry a in
      omega arith
  two_entries (next {y} {xs} a) (next b) apart =
      let c = count_append p y.message.fields (fields_of_entries xs) in
      let l = two_entries a b (λ e. apart (ap suc e)) in
      omega arith

-- ---- the fields that name a map entry

pub names_from : (o : Option Bytes) (x : Bytes) → 0 < length x → x ≡ text o → is_text x o ≡ true
names_from none x some_bytes e = absurd (let l : length x ≡ 0 = ap length e in omega arith)
names_from (some y) x some_bytes e = ap (same y) e ∙ same_refl y

-- x: a map entry's full name; d: the message around it
module _ {d : Entry} {es : List Entry} {q : ℕ} (at : At d es q) (x : Bytes) (named : entry_named (fields_of_entries es) d.message.fields x ≡ true) where
  all_told : count (maps_it x) d.message.fields ≡ count (names_it x) (fields_of_entries es)
  unfolding entry_named
  all_told =
      eqb-true _ _
      (and_right (ltb 0 (count (maps_it x) d.message.fields)) (eqb (count (maps_it x) d.message.fields) (count (names_it x) (fields_of_entries es))) named)

  -- only its fields name it
  pub only_owner : {e : Entry} {i : ℕ} → At e es i → (f : FieldDescriptor) → Memᴰ f e.message.fields → names_it x f ≡ true → q ≡ i
  only_owner {e} {i} b f m is =
      by_eq q i (λ h. h)
      (λ apart.
      let told = all_told in
      let most = two_entries (names_it x) at b apart in
      let more = count_less (maps_it x) (names_it x) (maps_names x) d.message.fields in
      let one = some_count (names_it x) e.message.fields f m is in
      absurd (omega arith))

  -- and of those only repeated message fields
  pub only_maps : (f : FieldDescriptor) → Memᴰ f d.message.fields → names_it x f ≡ true → maps_it x f ≡ true
  only_maps f m is =
      let told = all_told in
      let most = one_entry (names_it x) at in
      counts_same (maps_it x) (names_it x) (maps_names x) d.message.fields (omega arith) f m is
