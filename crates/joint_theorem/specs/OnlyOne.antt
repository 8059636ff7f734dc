-- No two declarations of the texts are for the same message, enum or oneof. Assumes nothing.
use Rattle.std.specs.Prelude.{ℕ, suc, ◌<◌, ◌≡◌, Bool, true, false, ◌||◌, length, get_or, Ok}
use Rattle.std.proofs.Math.Path.{refl}
use Rattle.std.proofs.Common.{sym, ap, ◌∙◌, subst, arith}
use Rattle.std.proofs.Math.Option.{Option, some}
use Rattle.std.proofs.Math.Logic.{⊎_elim}
use mathlib.Core.List.Memᴰ
use mathlib.Core.List.{List, [], ◌∷◌, ◌++◌, map, map-append, reverse, Memᴰ}
use Rattle.base.specs.Choose.{choose, choose_case}
use Rattle.base.specs.Lists.{Every, every_append, all_of, is_empty}
use Rattle.descriptor.specs.Descriptor.{Bytes, Forest, done, node, EnumDescriptor, MessageDescriptor, FileDescriptor}
use Rattle.options.specs.Settings.{Setting}
use Rattle.extern_paths.specs.ExternPaths.{taken}
use Rattle.name_rules.specs.Accessors.{text}
use Rattle.name_rules.specs.FullNames.{set_entries}
use Rattle.name_rules.specs.Answer.{names}
use Rattle.name_rules.specs.WellFormed.{GoodEnum}
use Rattle.type_names.proofs.SevenTheorems.{full_names, entries_apart}
use Rattle.code_generator.specs.Piece.{Ref, type, choice}
use Rattle.code_generator.specs.Resolve.{local_path}
use Rattle.code_generator.specs.Oneofs.{OneofField, fields_at, meets, oneofs_from, oneof_fields}
use Rattle.code_generator.specs.Generate.{has_module}
use Rattle.sights.specs.Sights.{Item, items}
use Rattle.text_sights.specs.Written.{written_sights}
use Rattle.paths_reach.specs.Dots.{DotFree, scope_of, names_of_scope}
use Rattle.paths_reach.specs.Written.{Named, What, a_module, a_declaration, mark_of, item_of, type_named, oneof_named, enum_nameds, node_nameds, message_nameds, package_names, file_nameds}
use Rattle.paths_reach.specs.Seen.{items_append}
use Rattle.paths_reach.specs.Nodes.{Node, names_of, nodes, file_nodes, items_of_file}
use Rattle.paths_reach.specs.Apart.{Apart, apart_nil, apart_cons, apart_same}
use Rattle.paths_reach.specs.Homes.{mem_all_of}
use Rattle.paths_reach.specs.Closed.{every_at}
use Rattle.paths_reach.specs.Targets.{name_free, package_free, FineNode, fine_node, entry_of, file_entries_are}
use Rattle.paths_reach.specs.Types.{no_seven, well_formed}
use Rattle.paths_reach.specs.Entries.{set_nodes}

-- ---- the messages of a set, and that no two have one full name
pub set_entries_are : (fs : List FileDescriptor) → set_entries fs ≡ map entry_of (set_nodes fs)
unfolding set_entries all_of
set_entries_are [] = refl
set_entries_are (f ∷ fs) = rw (file_entries_are f, set_entries_are fs) (sym (map-append entry_of (file_nodes f) (all_of file_nodes fs)))

abbrev full_of : Node → Bytes
full_of n = scope_of (names_of n)

names_are : (ns : List Node) → full_names (map entry_of ns) ≡ map full_of ns
names_are [] = refl
names_are (n ∷ ns) = ap {B = List Bytes} (λ (l : List Bytes). full_of n ∷ l) (names_are ns)

at_index : (ns : List Node) (n : Node) → Memᴰ n ns → (k : ℕ) × (k < length (map full_of ns)) × (get_or (map full_of ns) k [] ≡ full_of n)
at_index [] n m = absurd (Memᴰ.not-nil m)
at_index (x ∷ ns) n m = ⊎_elim (λ e. (0, omega arith, sym (ap full_of e))) (λ j. let (k, l, q) = at_index ns n j in (suc k, omega (arith, l), q)) (Memᴰ.cases_cons m)

abbrev SameFull : Node → Node → Type 0
SameFull a c = full_of a ≡ full_of c

abbrev FullsDiffer : List Bytes → Type 0
FullsDiffer xs = (i j : ℕ) → i < j → j < length xs → get_or xs i [] ≡ get_or xs j [] → ⊥

first_apart : (n : Node) (ns : List Node) → FullsDiffer (map full_of (n ∷ ns)) → (y : Node) → Memᴰ y ns → SameFull n y → ⊥
first_apart n ns h y m e = let (k, l, q) = at_index ns y m in h 0 (suc k) (omega arith) (omega (arith, l)) (e ∙ sym q)

nodes_apart : (ns : List Node) → FullsDiffer (map full_of ns) → Apart SameFull ns
nodes_apart [] h = apart_nil
nodes_apart (n ∷ ns) h = apart_cons (first_apart n ns h) (nodes_apart ns (λ i j l k e. h (suc i) (suc j) (omega (arith, l)) (omega (arith, k)) e))

module _ (set : List FileDescriptor) (good : names set ≡ Ok tt) where
  one_node : (m n : Node) → Memᴰ m (set_nodes set) → Memᴰ n (set_nodes set) → full_of m ≡ full_of n → m ≡ n
  one_node m n i j e =
      let is : full_names (set_entries set) ≡ map full_of (set_nodes set) = ap full_names (set_entries_are set) ∙ names_are (set_nodes set) in
      let apart : Apart SameFull (set_nodes set) = nodes_apart (set_nodes set)
      (subst FullsDiffer is (entries_apart set (no_seven set good))) in
      apart_same SameFull (λ a c p. sym p) apart i j e

-- ---- where a declaration comes from
module _ (set : List FileDescriptor) where
  data Comes (n : Named) : Type 0 where
    of_module : (x : Bytes) → n.what ≡ a_module x → Comes n
    of_type : (h : List Bytes) (x : Bytes) → Every DotFree (x ∷ h) → n ≡ type_named h x → Comes n
    of_oneof : (m : Node) → Memᴰ m (set_nodes set) → Every DotFree (names_of m) → (x : OneofField) → Memᴰ x (oneof_fields m.message m.nested) → n ≡ oneof_named (names_of m) x → Comes n

  module _ (rs : List Setting) where
    comes_enums : (h : List Bytes) → Every DotFree h → (es : List EnumDescriptor) → Every GoodEnum es → Every Comes (enum_nameds rs h es)
    comes_enums h f [] g = tt
    comes_enums h f (e ∷ es) g =
        every_append Comes (choose (taken rs (scope_of (text e.name ∷ h))) [] (type_named h (text e.name) ∷ [])) (enum_nameds rs h es)
        (choose_case (Every Comes) (taken rs (scope_of (text e.name ∷ h))) (λ _. tt) (λ _. (of_type h (text e.name) (name_free e.name g.0.named, f) refl, tt)))
        (comes_enums h f es g.1)

    comes_oneofs : (m : Node) → Memᴰ m (set_nodes set) → Every DotFree (names_of m) → (xs : List OneofField) → ((x : OneofField) → Memᴰ x xs → Memᴰ x (oneof_fields m.message m.nested))
        → Every Comes (map (oneof_named (names_of m)) xs)
    comes_oneofs m i f [] k = tt
    comes_oneofs m i f (x ∷ xs) k = (of_oneof m i f x (k x (Memᴰ.head refl)) refl, comes_oneofs m i f xs (λ y l. k y (Memᴰ.tail l)))

    comes_messages : (h : List Bytes) (ms : Forest MessageDescriptor) → ((n : Node) → Memᴰ n (nodes h ms) → Memᴰ n (set_nodes set) × FineNode n) → Every Comes (message_nameds rs h ms)
    unfolding nodes message_nameds
    comes_messages h done k = tt
    comes_messages h (node m nested following) k =
        let full = text m.name ∷ h in
        let self : Node = record { home = h; message = m; nested = nested } in
        let (there, fine) = k self (Memᴰ.head refl) in
        let inner = message_nameds rs full nested in
        let enums = enum_nameds rs full m.enums in
        let oneofs = map (oneof_named full) (oneof_fields m nested) in
        every_append Comes (choose (m.map_entry || taken rs (scope_of full)) [] (node_nameds rs h m nested inner)) (message_nameds rs h following)
        (choose_case (Every Comes) (m.map_entry || taken rs (scope_of full)) (λ _. tt)
        (λ _. (
          of_type h (text m.name) fine.free refl,
          choose_case (Every Comes) (has_module m nested)
              (λ _. (
                of_module (text m.name) refl,
                every_append Comes inner (enums ++ oneofs) (comes_messages full nested (λ n i. k n (Memᴰ.tail (Memᴰ.append_left (nodes h following) i))))
                    (every_append Comes enums oneofs (comes_enums full fine.free m.enums fine.good.enums) (comes_oneofs self there fine.free (oneof_fields m nested) (λ x i. i))),
              ))
              (λ _. tt),
        )))
        (comes_messages h following (λ n i. k n (Memᴰ.tail (Memᴰ.append_right (nodes full nested) i))))

    all_come : names set ≡ Ok tt → (f : FileDescriptor) → Memᴰ f set → Every Comes (file_nameds rs f)
    unfolding file_nameds
    all_come good f i =
        let w = well_formed rs set good f i in
        every_append Comes (message_nameds rs (package_names f) f.messages) (enum_nameds rs (package_names f) f.enums)
        (comes_messages (package_names f) f.messages (λ n j. (mem_all_of file_nodes set i j, fine_node f w n j)))
        (comes_enums (package_names f) (package_free f) f.enums w.enums)

-- ---- what it is for tells it
conflict_is : (m : MessageDescriptor) (nested : Forest MessageDescriptor) (i : ℕ) (os : List (Option Bytes)) (x : OneofField) → Memᴰ x (oneofs_from m nested i os)
    → x.has_type_name_conflict ≡ meets m nested x.name
unfolding oneofs_from choose
conflict_is m nested i [] x l = absurd (Memᴰ.not-nil l)
conflict_is m nested i (o ∷ os) x l = go (is_empty (fields_at i m.fields)) l (conflict_is m nested (suc i) os x)
  where
    here : OneofField
    here = record { name = text o; fields = fields_at i m.fields; has_type_name_conflict = meets m nested (text o) }

    go : (t : Bool) → Memᴰ x (choose t (oneofs_from m nested (suc i) os) (here ∷ oneofs_from m nested (suc i) os))
        → (Memᴰ x (oneofs_from m nested (suc i) os) → x.has_type_name_conflict ≡ meets m nested x.name) → x.has_type_name_conflict ≡ meets m nested x.name
    go true k rest = rest k
    go false k rest = ⊎_elim (λ e. subst (λ (z : OneofField). z.has_type_name_conflict ≡ meets m nested z.name) (sym e) refl) rest (Memᴰ.cases_cons k)

no_declaration : {X : Type 0} {w : What} (x : Bytes) (r : Ref) → w ≡ a_module x → w ≡ a_declaration r → X
no_declaration x r p q = absurd (let z : ◌≡◌ {A = ℕ} 0 1 = cc in omega arith)

two_sorts : {X : Type 0} (s full name : Bytes) (r : Ref) → a_declaration (type s) ≡ a_declaration r → a_declaration (choice full name) ≡ a_declaration r → X
two_sorts s full name r p q = absurd (let z : ◌≡◌ {A = ℕ} 0 1 = cc in omega arith)

same_type : (h k : List Bytes) (x y : Bytes) → x ∷ h ≡ y ∷ k → type_named h x ≡ type_named k y
same_type h k x y e =
    let p : x ≡ y = cc in
    let q : h ≡ k = cc in
    rw (p, q) refl

same_oneof : (h k : List Bytes) (x y : OneofField) → h ≡ k → x.name ≡ y.name → x.has_type_name_conflict ≡ y.has_type_name_conflict → oneof_named h x ≡ oneof_named k y
same_oneof h k x y p q c = rw (p, q, c) refl

module _ (set : List FileDescriptor) (good : names set ≡ Ok tt) where
  for_oneof : (m n : Node) → Memᴰ m (set_nodes set) → Memᴰ n (set_nodes set) → (x y : OneofField) → Memᴰ x (oneof_fields m.message m.nested) → Memᴰ y (oneof_fields n.message n.nested)
      → full_of m ≡ full_of n → x.name ≡ y.name → oneof_named (names_of m) x ≡ oneof_named (names_of n) y
  for_oneof m n i j x y k l e q =
      let is = one_node set good m n i j e in
      let first = conflict_is m.message m.nested 0 m.message.oneofs x k in
      let second = conflict_is n.message n.nested 0 n.message.oneofs y l in
      same_oneof (names_of m) (names_of n) x y (ap names_of is) q
      (first ∙ ap (λ (z : Node). meets z.message z.nested x.name) is ∙ ap (meets n.message n.nested) q ∙ sym second)

  one_named : (p q : Named) → Comes set p → Comes set q → (r : Ref) → p.what ≡ a_declaration r → q.what ≡ a_declaration r → p ≡ q
  one_named p q (of_module x e) c r a d = no_declaration x r e a
  one_named p q (of_type h x f e) (of_module y g) r a d = no_declaration y r g d
  one_named p q (of_type h x f e) (of_type k y g i) r a d =
      let first : a_declaration (type (scope_of (x ∷ h))) ≡ a_declaration r = sym (ap (λ (z : Named). z.what) e) ∙ a in
      let second : a_declaration (type (scope_of (y ∷ k))) ≡ a_declaration r = sym (ap (λ (z : Named). z.what) i) ∙ d in
      let fulls : scope_of (x ∷ h) ≡ scope_of (y ∷ k) = cc in
      e ∙ same_type h k x y (sym (names_of_scope (x ∷ h) f) ∙ ap (λ (s : Bytes). reverse (local_path s)) fulls ∙ names_of_scope (y ∷ k) g) ∙ sym i
  one_named p q (of_type h x f e) (of_oneof n j g y l i) r a d =
      two_sorts (scope_of (x ∷ h)) (full_of n) y.name r (sym (ap (λ (z : Named). z.what) e) ∙ a) (sym (ap (λ (z : Named). z.what) i) ∙ d)
  one_named p q (of_oneof m j f x k e) (of_module y g) r a d = no_declaration y r g d
  one_named p q (of_oneof m j f x k e) (of_type h y g i) r a d =
      two_sorts (scope_of (y ∷ h)) (full_of m) x.name r (sym (ap (λ (z : Named). z.what) i) ∙ d) (sym (ap (λ (z : Named). z.what) e) ∙ a)
  one_named p q (of_oneof m j f x k e) (of_oneof n l g y o i) r a d =
      let first : a_declaration (choice (full_of m) x.name) ≡ a_declaration r = sym (ap (λ (z : Named). z.what) e) ∙ a in
      let second : a_declaration (choice (full_of n) y.name) ≡ a_declaration r = sym (ap (λ (z : Named). z.what) i) ∙ d in
      let fulls : full_of m ≡ full_of n = cc in
      let called : x.name ≡ y.name = cc in
      e ∙ for_oneof m n j l x y k o fulls called ∙ sym i

  -- ---- as it is seen
  module _ (rs : List Setting) where
    record From (i : Item) : Type 0 where
      named : Named
      comes : Comes set named
      is : item_of named ≡ i

    from_items : (fs : List FileDescriptor) → ((f : FileDescriptor) → Memᴰ f fs → Memᴰ f set) → (i : Item) → Memᴰ i (items (all_of (written_sights rs set) fs)) → From i
    unfolding all_of
    from_items [] k i m = absurd (Memᴰ.not-nil m)
    from_items (f ∷ fs) k i m =
        ⊎_elim
        (λ j.
        let (n, l, e) = Memᴰ.of_map item_of (file_nameds rs f) (subst (λ (l : List Item). Memᴰ i l) (items_of_file rs set f) j) in
        record { named = n; comes = every_at (Comes set) (file_nameds rs f) (all_come set rs good f (k f (Memᴰ.head refl))) l; is = e })
        (λ j. from_items fs (λ g l. k g (Memᴰ.tail l)) i j)
        (Memᴰ.append_cases (items (written_sights rs set f)) (subst (λ (l : List Item). Memᴰ i l) (items_append (written_sights rs set f) (all_of (written_sights rs set) fs)) m))

    what_is : (w : What) (r : Ref) → mark_of w ≡ some r → w ≡ a_declaration r
    what_is (a_module x) r e = absurd (let z : ◌≡◌ {A = ℕ} 0 1 = cc in omega arith)
    what_is (a_declaration s) r e = ap a_declaration (let z : s ≡ r = cc in z)

    pub only_one_for : (i j : Item) → Memᴰ i (items (all_of (written_sights rs set) set)) → Memᴰ j (items (all_of (written_sights rs set) set))
        → (r : Ref) → i.mark ≡ some r → j.mark ≡ some r → i ≡ j
    only_one_for i j m n r p q =
        let a = from_items set (λ f l. l) i m in
        let c = from_items set (λ f l. l) j n in
        let first = what_is a.named.what r (ap (λ (z : Item). z.mark) a.is ∙ p) in
        let second = what_is c.named.what r (ap (λ (z : Item). z.mark) c.is ∙ q) in
        sym a.is ∙ ap item_of (one_named a.named c.named a.comes c.comes r first second) ∙ c.is
