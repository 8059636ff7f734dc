-- The message around each map entry of a set, by the numbers of the messages. Assumes nothing.
use Rattle.std.specs.Prelude.{◌≡◌, refl, ◌&&◌, ◌⊎◌, length}
use Rattle.std.proofs.Common.{sym, ◌∙◌, inl, inr, length-append}
use Rattle.std.proofs.Math.Path.{ap, subst}
use Rattle.std.proofs.Math.Bool.{true}
use mathlib.Core.List.{List, [], ◌∷◌, ◌++◌, map}
use Rattle.std.proofs.Math.Logic.{⊎_elim}
use Prim.Native.Nat.{ℕ, suc, ◌+◌, ◌≤◌, ◌<◌}
use native.Mathlib.Omega.{arith}
use Rattle.base.specs.Choose.{choose}
use Rattle.base.specs.Lists.{Every, every_append}
use Rattle.base.specs.Tests.{and_left, and_right}
use Rattle.name_rules.proofs.NamesLaws.{none_around}
use Rattle.descriptor.specs.Descriptor.{Bytes, Forest, done, node, FieldDescriptor, MessageDescriptor, FileDescriptor}
use Rattle.index.specs.Tree.{size}
use Rattle.name_rules.specs.Accessors.{text}
use Rattle.name_rules.specs.FullNames.{◌·◌, package_scope, Entry, entries, set_entries}
use Rattle.name_rules.specs.MapEntries.{entry_named, entries_named, map_entries_named}
use Rattle.context_laws.specs.At.{At, at_within, at_left, at_right}
use Rattle.context_laws.specs.At.At.{first, next}
use Rattle.table_laws.specs.AfterLaws.{Afters, FileAfters}

-- ---- places of lists

module _ {A : Type 0} where
  -- x stands at place k, behind the first n
  pub record Later (x : A) (n : ℕ) (xs : List A) (k : ℕ) : Type 0 where
    pub place : ℕ
    pub is : k ≡ n + place
    pub at : At x xs place

  pub at_nil : {x : A} {k : ℕ} → At x [] k → ⊥
  at_nil p = let l = at_within p in omega arith

  pub at_cons : {x y : A} {xs : List A} {k : ℕ} → At x (y ∷ xs) k → ((x ≡ y) × (k ≡ 0)) ⊎ Later x 1 xs k
  at_cons (first e) = inl (e, refl)
  at_cons (next {y} {xs} {k} p) = inr (record { place = k; is = omega arith; at = p })

  pub at_split : (xs ys : List A) (x : A) (k : ℕ) → At x (xs ++ ys) k → At x xs k ⊎ Later x (length xs) ys k
  at_split [] ys x k p = inr (record { place = k; is = omega arith; at = p })
  at_split (y ∷ xs) ys x k p =
      ⊎_elim (λ w. inl (subst (At x (y ∷ xs)) (sym w.1) (first w.0)))
      (λ w.
      ⊎_elim (λ v. let is = w.is in inl (subst (At x (y ∷ xs)) (let e : suc w.place ≡ k = omega arith in e) (next v)))
      (λ v. let is = w.is in let on = v.is in inr (record { place = v.place; is = omega arith; at = v.at }))
      (at_split xs ys x w.place w.at))
      (at_cons p)

  pub every_at : (P : A → Type 0) {x : A} {xs : List A} {k : ℕ} → At x xs k → Every P xs → P x
  every_at P (first e) h = subst P (sym e) h.0
  every_at P (next p) h = every_at P p h.1

  -- all of xs stand in a list from place i on
  abbrev pub Stand : List A → ℕ → List A → Type 0
  Stand all i xs = (x : A) (k : ℕ) → At x xs k → At x all (i + k)

  module _ (all : List A) where
    pub stand_first : (i : ℕ) (x : A) (xs : List A) → Stand all i (x ∷ xs) → At x all i
    stand_first i x xs h = subst (At x all) (let e : i + 0 ≡ i = omega arith in e) (h x 0 (first refl))

    pub stand_tail : (i : ℕ) (y : A) (xs : List A) → Stand all i (y ∷ xs) → Stand all (i + 1) xs
    stand_tail i y xs h x k p = subst (At x all) (let e : i + suc k ≡ i + 1 + k = omega arith in e) (h x (suc k) (next p))

    pub stand_left : (i : ℕ) (xs ys : List A) → Stand all i (xs ++ ys) → Stand all i xs
    stand_left i xs ys h x k p = h x k (at_left ys p)

    pub stand_right : (i n : ℕ) (xs ys : List A) → length xs ≡ n → Stand all i (xs ++ ys) → Stand all (i + n) ys
    stand_right i n xs ys l h x k p = subst (At x all) (let e : i + (length xs + k) ≡ i + n + k = omega arith in e) (h x (length xs + k) (at_right xs p))

-- ---- messages and their numbers

pub entries_size : (scope : Bytes) (F : Forest MessageDescriptor) → length (entries scope F) ≡ size F
unfolding entries size
entries_size scope done = refl
entries_size scope (node m nested following) =
    let inner = scope · text m.name in
    let a = entries_size inner nested in
    let c = entries_size scope following in
    let l = length-append (entries inner nested) (entries scope following) in
    omega arith

-- a full name has bytes
abbrev pub Solid : Entry → Type 0
Solid e = 0 < length e.full

solid_entries : (scope : Bytes) (F : Forest MessageDescriptor) → Every Solid (entries scope F)
unfolding entries
solid_entries scope done = tt
solid_entries scope (node m nested following) =
    let inner = scope · text m.name in
    let l = length-append scope (46 ∷ text m.name) in
    (omega arith, every_append Solid (entries inner nested) (entries scope following) (solid_entries inner nested) (solid_entries scope following))

pub solid_set : (fs : List FileDescriptor) → Every Solid (set_entries fs)
unfolding set_entries
solid_set [] = tt
solid_set (f ∷ fs) = every_append Solid (entries (package_scope f.package_name) f.messages) (set_entries fs) (solid_entries (package_scope f.package_name) f.messages) (solid_set fs)

-- p is i, or behind it along the messages of one scope
pub data Reach (after : ℕ → ℕ) (p : ℕ) : ℕ → Type 0 where
  stop : {i : ℕ} → p ≡ i → Reach after p i
  step : {i : ℕ} → i < p → Reach after p (after i) → Reach after p i

pub reach_from : {after : ℕ → ℕ} {p i : ℕ} → Reach after p i → i ≤ p
reach_from (stop e) = omega arith
reach_from (step l r) = omega arith

-- the message around number p, which has the full name x and is a map entry
pub record Parent (es : List Entry) (fields : List FieldDescriptor) (after : ℕ → ℕ) (x : Bytes) (p : ℕ) : Type 0 where
  pub entry : Entry
  pub number : ℕ
  pub at : At entry es number
  pub reach : Reach after p (number + 1)
  pub below : p < after number
  pub name : Bytes
  pub inside : x ≡ entry.full · name
  pub named : entry_named fields entry.message.fields x ≡ true

module _ (es : List Entry) (fields : List FieldDescriptor) (after : ℕ → ℕ) where
  found : (F : Forest MessageDescriptor) (scope : Bytes) (i : ℕ) (parent : List FieldDescriptor) → Stand es i (entries scope F) → Afters after i F → entries_named fields parent scope F ≡ true
      → ((p : ℕ) → Reach after p i → p < i + size F → (name : Bytes) → entry_named fields parent (scope · name) ≡ true → Parent es fields after (scope · name) p)
      → (e : Entry) (k : ℕ) → At e (entries scope F) k → e.message.map_entry ≡ true → Parent es fields after e.full (i + k)
  unfolding entries entries_named size choose
  found done scope i parent stand afters named own e k at is = absurd (at_nil at)
  found (node m nested following) scope i parent stand afters named own e k at is =
      let inner : Bytes = scope · text m.name in
      let head : Entry = record { full = inner; message = m } in
      let here : List Entry = entries inner nested in
      let next : List Entry = entries scope following in
      let n = entries_size inner nested in
      let rest = and_right (choose m.map_entry (entry_named fields parent inner) true) (entries_named fields m.fields inner nested && entries_named fields parent scope following) named in
      let behind = stand_tail es i head (here ++ next) stand in
      ⊎_elim
      (λ w.
      let entry : m.map_entry ≡ true = ap (λ (x : Entry). x.message.map_entry) (sym w.0) ∙ is in
      let ok : entry_named fields parent inner ≡ true = rw entry at (and_left (choose m.map_entry (entry_named fields parent inner) true) (entries_named fields m.fields inner nested && entries_named fields parent scope following) named) in
      let zero = w.1 in
      let this = own (i + k) (stop (omega arith)) (omega arith) (text m.name) ok in
      subst (λ (x : Bytes). Parent es fields after x (i + k)) (sym (ap (λ (x : Entry). x.full) w.0)) this)
      (λ w.
      let one = w.is in
      ⊎_elim
      (λ v.
      let this =
      found nested inner (i + 1) m.fields (stand_left es (i + 1) here next behind) afters.1.0 (and_left (entries_named fields m.fields inner nested) (entries_named fields parent scope following) rest)
      (λ p reach less name ok.
      let past = afters.0 in
      record { entry = head; number = i; at = stand_first es i head (here ++ next) stand; reach = reach; below = omega arith; name = name; inside = refl; named = ok }) e w.place v is in
      subst (Parent es fields after e.full) (let z : i + 1 + w.place ≡ i + k = omega arith in z) this)
      (λ v.
      let two = v.is in
      let this =
      found following scope (i + 1 + size nested) parent (stand_right es (i + 1) (size nested) here next n behind) afters.1.1 (and_right (entries_named fields m.fields inner nested) (entries_named fields parent scope following) rest)
      (λ p reach less name ok.
      let from = reach_from reach in
      own p (step (omega arith) (subst (Reach after p) (sym afters.0) reach)) (omega arith) name ok) e v.place v.at is in
      subst (Parent es fields after e.full) (let z : i + 1 + size nested + v.place ≡ i + k = omega arith in z) this)
      (at_split here next e w.place w.at))
      (at_cons at)

  pub files_found : (fs : List FileDescriptor) (i : ℕ) → Stand es i (set_entries fs) → FileAfters after i (map (λ (f : FileDescriptor). f.messages) fs) → Every (λ (f : FileDescriptor). map_entries_named fields f ≡ true) fs
      → (e : Entry) (k : ℕ) → At e (set_entries fs) k → e.message.map_entry ≡ true → Parent es fields after e.full (i + k)
  unfolding set_entries map_entries_named
  files_found [] i stand afters named e k at is = absurd (at_nil at)
  files_found (f ∷ fs) i stand afters named e k at is =
      let scope : Bytes = package_scope f.package_name in
      let here : List Entry = entries scope f.messages in
      let n = entries_size scope f.messages in
      ⊎_elim
      (λ v. found f.messages scope i [] (stand_left es i here (set_entries fs) stand) afters.0 named.0 (λ p reach less name ok. absurd (none_around fields (scope · name) ok)) e k v is)
      (λ v.
      let on = v.is in
      subst (Parent es fields after e.full) (let z : i + size f.messages + v.place ≡ i + k = omega arith in z)
      (files_found fs (i + size f.messages) (stand_right es i (size f.messages) here (set_entries fs) n stand) afters.1 named.1 e v.place v.at is))
      (at_split here (set_entries fs) e k at)
