-- Which fields name a map entry, in a set without refusal 6: repeated message fields of the message that it is nested in. Assumes nothing.
use Prim.Native.Nat.{ℕ, suc, ◌+◌, ◌≤◌}
use Rattle.std.specs.Prelude.{◌≡◌, Bool, ◌&&◌, ◌⊎◌, eqb, ltb, length, Ok}
use Rattle.std.proofs.Math.Path.{refl, ap, sym, subst}
use Rattle.std.proofs.Common.{◌∙◌, length-append}
use Rattle.std.proofs.Math.Bool.{true, false}
use Rattle.std.proofs.Math.Option.{Option, some, none}
use Rattle.std.proofs.Math.Logic.{inl, inr, ⊎_elim}
use mathlib.Core.List.Memᴰ
use mathlib.Core.List.{List, [], ◌∷◌, ◌++◌, map, Memᴰ}
use native.Mathlib.Omega.{arith}
use borrow.Author.Tests.{ltb-false, eqb-true}
use Rattle.base.specs.Choose.{choose, chosen}
use Rattle.base.specs.Bytes.{same, same_refl}
use Rattle.base.specs.Tests.{bool_cases, both_ways, and_left, and_right}
use Rattle.base.specs.Lists.{count, all, all_of, all_every, none_fails, count_append, count_less, some_count, all_of_append}
use Rattle.name_rules.proofs.AppendLaws.{fields_append}
use Rattle.descriptor.specs.Descriptor.{Bytes, Forest, done, node, FieldDescriptor, MessageDescriptor, FileDescriptor}
use Rattle.name_rules.specs.Accessors.{text}
use Rattle.name_rules.specs.Rules.{is_text, file_good}
use Rattle.name_rules.specs.FullNames.{package_scope, entries, set_entries, fields_of_entries, set_fields}
use Rattle.name_rules.specs.MapEntries.{names_it, maps_it, entry_named, entries_named, map_entries_named}
use Rattle.name_rules.specs.Answer.{file_named, first_six, names}
use Rattle.name_rules.proofs.NamesLaws.{no_refusals, none_around, maps_names}
use Rattle.paths_reach.specs.Dots.{scope_of, scope_of_names, dotted_package}
use Rattle.paths_reach.specs.Written.{package_names}
use Rattle.paths_reach.specs.Nodes.{Node, names_of, nodes, file_nodes}
use Rattle.paths_reach.specs.Homes.{Within, mem_all_of, of_all_of}
use Rattle.paths_reach.specs.Closed.{every_at}
use Rattle.paths_reach.specs.Targets.{entry_of, file_entries_are}

-- ---- counts
module _ {A : Type 0} (p q : A → Bool) (within : (x : A) → p x ≡ true → q x ≡ true) where
  -- strictly fewer pass the stronger test where one passes only the other
  count_fewer : (xs : List A) (x : A) → Memᴰ x xs → p x ≡ false → q x ≡ true → suc (count p xs) ≤ count q xs
  unfolding count choose
  count_fewer [] x i a c = absurd (Memᴰ.not-nil i)
  count_fewer (y ∷ xs) x i a c =
      ⊎_elim (λ e. let l = count_less p q within xs in first (p y) (q y) (subst (λ (z : A). p z ≡ false) e a) (subst (λ (z : A). q z ≡ true) e c) l)
      (λ j. next (p y) (q y) (within y) (count_fewer xs x j a c)) (Memᴰ.cases_cons i)
    where
      first : (s t : Bool) → s ≡ false → t ≡ true → count p xs ≤ count q xs → suc (choose s (1 + count p xs) (count p xs)) ≤ choose t (1 + count q xs) (count q xs)
      first false true d e l = omega arith
      first true t d e l = both_ways refl d
      first false false d e l = both_ways e refl

      next : (s t : Bool) → (s ≡ true → t ≡ true) → suc (count p xs) ≤ count q xs → suc (choose s (1 + count p xs) (count p xs)) ≤ choose t (1 + count q xs) (count q xs)
      next true true h l = omega arith
      next true false h l = both_ways (h refl) refl
      next false true h l = omega arith
      next false false h l = l

-- ---- over the fields of messages
abbrev fields_in : Node → List FieldDescriptor
fields_in n = n.message.fields

module _ (p : FieldDescriptor → Bool) where
  abbrev own : Node → ℕ
  own n = count p (fields_in n)

  one_node : (ns : List Node) {n : Node} → Memᴰ n ns → own n ≤ count p (all_of fields_in ns)
  unfolding all_of
  one_node [] i = absurd (Memᴰ.not-nil i)
  one_node (m ∷ ns) i =
      let c = count_append p (fields_in m) (all_of fields_in ns) in
      ⊎_elim (λ e. let s = ap own e in omega arith) (λ j. let l = one_node ns j in omega arith) (Memᴰ.cases_cons i)

  -- two messages of a list are one, or each has its fields there
  two_nodes : (ns : List Node) {m n : Node} → Memᴰ m ns → Memᴰ n ns → (m ≡ n) ⊎ (own m + own n ≤ count p (all_of fields_in ns))
  unfolding all_of
  two_nodes [] i j = absurd (Memᴰ.not-nil i)
  two_nodes (k ∷ ns) {m} {n} i j =
      let c = count_append p (fields_in k) (all_of fields_in ns) in
      ⊎_elim
      (λ d. ⊎_elim (λ e. inl (d ∙ sym e)) (λ e. let s = ap own d in let l = one_node ns e in inr (omega arith)) (Memᴰ.cases_cons j))
      (λ d. ⊎_elim (λ e. let s = ap own e in let l = one_node ns d in inr (omega arith)) (λ e. ⊎_elim (λ q. inl q) (λ l. inr (omega arith)) (two_nodes ns d e)) (Memᴰ.cases_cons j))
      (Memᴰ.cases_cons i)

-- ---- the messages of a set
abbrev pub set_nodes : List FileDescriptor → List Node
set_nodes set = all_of file_nodes set

fields_of_nodes : (ns : List Node) → fields_of_entries (map entry_of ns) ≡ all_of fields_in ns
unfolding fields_of_entries all_of
fields_of_nodes [] = refl
fields_of_nodes (n ∷ ns) = ap (λ (l : List FieldDescriptor). fields_in n ++ l) (fields_of_nodes ns)

pub set_fields_are : (set : List FileDescriptor) → set_fields set ≡ all_of fields_in (set_nodes set)
unfolding set_entries all_of fields_of_entries
set_fields_are [] = refl
set_fields_are (f ∷ fs) =
    fields_append (entries (package_scope f.package_name) f.messages) (set_entries fs)
    ∙ rw (file_entries_are f, fields_of_nodes (file_nodes f), set_fields_are fs) (sym (all_of_append fields_in (file_nodes f) (all_of file_nodes fs)))

pub field_in_set : (set : List FileDescriptor) (n : Node) → Memᴰ n (set_nodes set) → (f : FieldDescriptor) → Memᴰ f n.message.fields → Memᴰ f (set_fields set)
field_in_set set n i f j = subst (λ (l : List FieldDescriptor). Memᴰ f l) (sym (set_fields_are set)) (mem_all_of fields_in (set_nodes set) i j)

-- ---- what is nested in a message, directly
unfoldable pub tops : List Bytes → Forest MessageDescriptor → List Node
tops h done = []
tops h (node m nested following) = record { home = h; message = m; nested = nested } ∷ tops h following

pub tops_nodes : (h : List Bytes) (ms : Forest MessageDescriptor) → Within (tops h ms) (nodes h ms)
unfolding tops nodes
tops_nodes h done n i = i
tops_nodes h (node m nested following) n i =
    ⊎_elim (λ e. Memᴰ.head e) (λ j. Memᴰ.tail (Memᴰ.append_right (nodes (text m.name ∷ h) nested) (tops_nodes h following n j))) (Memᴰ.cases_cons i)

-- what is nested in a message of a list is in the list
pub nested_nodes : (h : List Bytes) (ms : Forest MessageDescriptor) (n : Node) → Memᴰ n (nodes h ms) → Within (nodes (names_of n) n.nested) (nodes h ms)
unfolding nodes
nested_nodes h done n i x j = absurd (Memᴰ.not-nil i)
nested_nodes h (node m nested following) n i x j =
    ⊎_elim (λ e. Memᴰ.tail (Memᴰ.append_left (nodes h following) (subst (λ (z : Node). Memᴰ x (nodes (names_of z) z.nested)) e j)))
    (λ k.
    ⊎_elim (λ l. Memᴰ.tail (Memᴰ.append_left (nodes h following) (nested_nodes (text m.name ∷ h) nested n l x j)))
    (λ l. Memᴰ.tail (Memᴰ.append_right (nodes (text m.name ∷ h) nested) (nested_nodes h following n l x j)))
    (Memᴰ.append_cases (nodes (text m.name ∷ h) nested) k))
    (Memᴰ.cases_cons i)

-- the message around a map entry
record Around (fields : List FieldDescriptor) (ns : List Node) (n : Node) : Type 0 where
  around : Node
  there : Memᴰ around ns
  inside : Memᴰ n (tops (names_of around) around.nested)
  named : entry_named fields around.message.fields (scope_of (names_of n)) ≡ true

wider : (fields : List FieldDescriptor) (ms ns : List Node) (n : Node) → Within ms ns → Around fields ms n → Around fields ns n
wider fields ms ns n w a = record { around = a.around; there = w a.around a.there; inside = a.inside; named = a.named }

-- parent: the fields of the message around a forest
find_around : (fields parent : List FieldDescriptor) (h : List Bytes) (ms : Forest MessageDescriptor) → entries_named fields parent (scope_of h) ms ≡ true
    → (n : Node) → Memᴰ n (nodes h ms) → n.message.map_entry ≡ true
    → (Memᴰ n (tops h ms) × (entry_named fields parent (scope_of (names_of n)) ≡ true)) ⊎ Around fields (nodes h ms) n
unfolding nodes tops entries_named
find_around fields parent h done named n i e = absurd (Memᴰ.not-nil i)
find_around fields parent h (node m nested following) named n i e =
    let full = text m.name ∷ h in
    let self : Node = record { home = h; message = m; nested = nested } in
    let own_test = choose m.map_entry (entry_named fields parent (scope_of full)) true in
    let rest = and_right own_test (entries_named fields m.fields (scope_of full) nested && entries_named fields parent (scope_of h) following) named in
    ⊎_elim
    (λ q.
    let is : m.map_entry ≡ true = subst (λ (z : Node). z.message.map_entry ≡ true) q e in
    inl (Memᴰ.head q, subst (λ (z : Node). entry_named fields parent (scope_of (names_of z)) ≡ true) (sym q) (chosen m.map_entry (entry_named fields parent (scope_of full)) (and_left own_test (entries_named fields m.fields (scope_of full) nested && entries_named fields parent (scope_of h) following) named) is)))
    (λ j.
    ⊎_elim
    (λ l.
    ⊎_elim (λ (t, s). inr (record { around = self; there = Memᴰ.head refl; inside = t; named = s }))
    (λ a. inr (wider fields (nodes full nested) (nodes h (node m nested following)) n (λ x k. Memᴰ.tail (Memᴰ.append_left (nodes h following) k)) a))
    (find_around fields m.fields full nested (and_left (entries_named fields m.fields (scope_of full) nested) (entries_named fields parent (scope_of h) following) rest) n l e))
    (λ l.
    ⊎_elim (λ (t, s). inl (Memᴰ.tail t, s))
    (λ a. inr (wider fields (nodes h following) (nodes h (node m nested following)) n (λ x k. Memᴰ.tail (Memᴰ.append_right (nodes full nested) k)) a))
    (find_around fields parent h following (and_right (entries_named fields m.fields (scope_of full) nested) (entries_named fields parent (scope_of h) following) rest) n l e))
    (Memᴰ.append_cases (nodes full nested) j))
    (Memᴰ.cases_cons i)

-- ---- a set without refusal 6
no_six : (set : List FileDescriptor) → names set ≡ Ok tt → all (file_named (set_fields set)) set ≡ true
unfolding first_six
no_six set h = none_fails (file_named (set_fields set)) set (ltb-false (first_six set) (length set) (no_refusals set h).0)

-- a full name isn't empty
pub names_full : (x : Bytes) (h : List Bytes) (o : Option Bytes) → scope_of (x ∷ h) ≡ text o → is_text (scope_of (x ∷ h)) o ≡ true
names_full x h none e = absurd (let l = length-append (scope_of h) (46 ∷ x) in let z = ap length e in omega arith)
names_full x h (some y) e = ap (same y) e ∙ same_refl y

module _ (set : List FileDescriptor) (good : names set ≡ Ok tt) where
  around_in_file : (f : FileDescriptor) → Memᴰ f set → (n : Node) → Memᴰ n (file_nodes f) → n.message.map_entry ≡ true → Around (set_fields set) (file_nodes f) n
  unfolding file_named map_entries_named
  around_in_file f i n j e =
      let named : file_named (set_fields set) f ≡ true = every_at (λ (g : FileDescriptor). file_named (set_fields set) g ≡ true) set (all_every (λ (g : FileDescriptor). file_named (set_fields set) g ≡ true) (file_named (set_fields set)) (λ g q. q) set (no_six set good)) i in
      let entries_are : entries_named (set_fields set) [] (package_scope f.package_name) f.messages ≡ true = and_right (file_good f) (map_entries_named (set_fields set) f) named in
      ⊎_elim (λ (t, s). absurd (none_around (set_fields set) (scope_of (names_of n)) s)) (λ a. a)
      (find_around (set_fields set) [] (package_names f) f.messages
      (subst (λ (s : Bytes). entries_named (set_fields set) [] s f.messages ≡ true) (sym (scope_of_names (dotted_package f.package_name))) entries_are) n j e)

  around_in_set : (n : Node) → Memᴰ n (set_nodes set) → n.message.map_entry ≡ true → Around (set_fields set) (set_nodes set) n
  around_in_set n i e =
      let (f, j, k) = of_all_of file_nodes set i in
      wider (set_fields set) (file_nodes f) (set_nodes set) n (λ x l. mem_all_of file_nodes set j l) (around_in_file f j n k e)

  -- n is a map entry; f, a field of the message m, names it
  module _ (n : Node) (is_there : Memᴰ n (set_nodes set)) (is_entry : n.message.map_entry ≡ true) (m : Node) (around : Memᴰ m (set_nodes set))
      (f : FieldDescriptor) (field : Memᴰ f m.message.fields) (named : names_it (scope_of (names_of n)) f ≡ true)
    where
      full : Bytes
      full = scope_of (names_of n)

      all_told : (a : Around (set_fields set) (set_nodes set) n) → count (maps_it full) a.around.message.fields ≡ count (names_it full) (all_of fields_in (set_nodes set))
      unfolding entry_named full
      all_told a =
          eqb-true (count (maps_it full) a.around.message.fields) (count (names_it full) (set_fields set))
          (and_right (ltb 0 (count (maps_it full) a.around.message.fields)) (eqb (count (maps_it full) a.around.message.fields) (count (names_it full) (set_fields set))) a.named)
          ∙ ap (count (names_it full)) (set_fields_are set)

      -- it is nested in that message
      pub nested_in : Memᴰ n (tops (names_of m) m.nested)
      unfolding full
      nested_in =
          let a = around_in_set n is_there is_entry in
          ⊎_elim (λ e. subst (λ (z : Node). Memᴰ n (tops (names_of z) z.nested)) e a.inside)
          (λ l.
          let told = all_told a in
          let less = count_less (maps_it full) (names_it full) (maps_names full) a.around.message.fields in
          let one = some_count (names_it full) m.message.fields f field named in
          absurd (omega arith))
          (two_nodes (names_it full) (set_nodes set) a.there around)

      -- and the field is repeated
      pub maps_entry : maps_it (scope_of (names_of n)) f ≡ true
      unfolding full
      maps_entry =
          let a = around_in_set n is_there is_entry in
          ⊎_elim (λ e. e)
          (λ e.
          let told = all_told a in
          ⊎_elim
          (λ q.
          let fewer = count_fewer (maps_it full) (names_it full) (maps_names full) a.around.message.fields f (subst (λ (z : Node). Memᴰ f z.message.fields) (sym q) field) e named in
          let most = one_node (names_it full) (set_nodes set) a.there in
          absurd (omega arith))
          (λ l.
          let less = count_less (maps_it full) (names_it full) (maps_names full) a.around.message.fields in
          let one = some_count (names_it full) m.message.fields f field named in
          absurd (omega arith))
          (two_nodes (names_it full) (set_nodes set) a.there around))
          (bool_cases (maps_it full f))
