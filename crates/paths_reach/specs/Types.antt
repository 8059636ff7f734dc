-- The declaration that a field's type name names, in a set without refusals 6 and 7. Assumes nothing.
use Rattle.std.specs.Prelude.{ℕ, zero, suc, ◌+◌, ◌≤◌, ◌<◌, ◌≡◌, refl, Bool, true, ◌&&◌, ◌||◌, not, eqb, length, get_or, Ok}
use Rattle.std.proofs.Math.Path.{ap, sym}
use Rattle.std.proofs.Common.{◌∙◌, subst, ⊎_elim, arith, ltb-false, eqb-true, eq-eqb}
use Rattle.std.proofs.Math.Bool.{false}
use mathlib.Core.List.Memᴰ
use mathlib.Core.List.{List, [], ◌∷◌, ◌++◌, map, Memᴰ}
use Rattle.base.specs.Choose.{choose_case}
use Rattle.base.specs.Tests.{both_ways, and_left, and_right, or_left, or_right, or_cases, not_implied}
use Rattle.base.specs.Lists.{all, Every}
use Rattle.field_types.specs.Types.{FieldType, types, no_type, sort_of, group, message, enumerated}
use Rattle.descriptor.specs.Descriptor.{Bytes, FieldDescriptor, EnumDescriptor, FileDescriptor}
use Rattle.options.specs.Settings.{Setting}
use Rattle.extern_paths.specs.ExternPaths.{taken}
use Rattle.name_rules.specs.Accessors.{text, type, is_message, is_group, is_enum}
use Rattle.name_rules.specs.FullNames.{◌·◌, package_scope, Entry, entries, set_entries, Declaration, enum_declarations, entry_declarations, file_declarations, set_declarations, fresh, type_declared, file_fields, set_fields, first_undeclared}
use Rattle.name_rules.specs.WellFormed.{GoodEnum, WellFormed}
use Rattle.name_rules.specs.Answer.{first_seven, names}
use Rattle.name_rules.proofs.NamesLaws.{no_refusals}
use Rattle.name_rules.proofs.WellFormedLaws.{every_file}
use Rattle.type_names.proofs.FreshLaws.{fulls}
use Rattle.type_names.proofs.SevenTheorems.{full_names, message_named, enum_named}
use Rattle.text_sights.specs.Written.{names_struct, names_enum}
use Rattle.paths_reach.specs.Dots.{DotFree, scope_of, scope_of_names, dotted_package}
use Rattle.paths_reach.specs.Written.{type_named, enum_nameds, message_nameds, package_names, file_nameds}
use Rattle.paths_reach.specs.Nodes.{Node, names_of, file_nodes}
use Rattle.paths_reach.specs.Homes.{whole}
use Rattle.paths_reach.specs.Closed.{every_at, file_within}
use Rattle.paths_reach.specs.There.{taken_inside, node_there, enum_there, struct_in_node, enum_in_node}
use Rattle.paths_reach.specs.Targets.{name_free, package_free, FineNode, fine_node, entry_of, file_entries_are, in_set}

-- ---- by number
pub entry_at : (es : List Entry) (i : ℕ) (name : Bytes) → i < length (full_names es) → get_or (full_names es) i [] ≡ name → (e : Entry) × Memᴰ e es × (e.full ≡ name)
entry_at [] i name l q = absurd (omega arith)
entry_at (e ∷ es) zero name l q = (e, Memᴰ.head refl, q)
entry_at (e ∷ es) (suc i) name l q = let (d, k, r) = entry_at es i name (omega arith) q in (d, Memᴰ.tail k, r)

enum_at : (ds : List Declaration) (i : ℕ) (name : Bytes) → i < length ds → get_or (fulls ds) i [] ≡ name → get_or (map (λ (d : Declaration). d.is_enumeration) ds) i false ≡ true
    → (d : Declaration) × Memᴰ d ds × ((d.full ≡ name) × (d.is_enumeration ≡ true))
enum_at [] i name l q s = absurd (omega arith)
enum_at (d ∷ ds) zero name l q s = (d, Memᴰ.head refl, (q, s))
enum_at (d ∷ ds) (suc i) name l q s = let (c, k, r) = enum_at ds i name (omega arith) q s in (c, Memᴰ.tail k, r)

-- ---- an enum of the set, by its full name
pub data EnumIn (set : List FileDescriptor) (full : Bytes) : Type 0 where
  in_message : (f : FileDescriptor) → Memᴰ f set → (n : Node) → Memᴰ n (file_nodes f) → (e : EnumDescriptor) → Memᴰ e n.message.enums → full ≡ scope_of (text e.name ∷ names_of n) → EnumIn set full
  in_file : (f : FileDescriptor) → Memᴰ f set → (e : EnumDescriptor) → Memᴰ e f.enums → full ≡ scope_of (text e.name ∷ package_names f) → EnumIn set full

enum_of : (scope : Bytes) (es : List EnumDescriptor) (d : Declaration) → Memᴰ d (enum_declarations scope es) → (e : EnumDescriptor) × Memᴰ e es × (d.full ≡ scope · text e.name)
enum_of scope [] d i = absurd (Memᴰ.not-nil i)
enum_of scope (e ∷ es) d i =
    ⊎_elim (λ q. (e, Memᴰ.head refl, ap (λ (z : Declaration). z.full) q)) (λ j. let (c, k, r) = enum_of scope es d j in (c, Memᴰ.tail k, r)) (Memᴰ.cases_cons i)

enum_of_entries : (es : List Entry) (d : Declaration) → Memᴰ d (entry_declarations es) → d.is_enumeration ≡ true
    → (x : Entry) × Memᴰ x es × ((e : EnumDescriptor) × Memᴰ e x.message.enums × (d.full ≡ x.full · text e.name))
enum_of_entries [] d i s = absurd (Memᴰ.not-nil i)
enum_of_entries (x ∷ es) d i s =
    ⊎_elim (λ q. both_ways s (ap (λ (z : Declaration). z.is_enumeration) q))
    (λ j.
    ⊎_elim (λ l. (x, Memᴰ.head refl, enum_of x.full x.message.enums d l)) (λ l. let (y, k, r) = enum_of_entries es d l s in (y, Memᴰ.tail k, r))
    (Memᴰ.append_cases (enum_declarations x.full x.message.enums) j))
    (Memᴰ.cases_cons i)

later : (f : FileDescriptor) (fs : List FileDescriptor) (full : Bytes) → EnumIn fs full → EnumIn (f ∷ fs) full
later f fs full (in_message g i n j e k q) = in_message g (Memᴰ.tail i) n j e k q
later f fs full (in_file g i e k q) = in_file g (Memᴰ.tail i) e k q

enum_of_file : (set : List FileDescriptor) (f : FileDescriptor) → Memᴰ f set → (d : Declaration) → Memᴰ d (file_declarations f) → d.is_enumeration ≡ true → EnumIn set d.full
unfolding file_declarations
enum_of_file set f i d j s =
    ⊎_elim
    (λ l.
    let (x, k, (e, p, q)) = enum_of_entries (entries (package_scope f.package_name) f.messages) d l s in
    let (n, o, r) = Memᴰ.of_map entry_of (file_nodes f) (subst (λ (es : List Entry). Memᴰ x es) (file_entries_are f) k) in
    in_message f i n o e (subst (λ (z : Entry). Memᴰ e z.message.enums) (sym r) p) (q ∙ ap (λ (z : Entry). z.full · text e.name) (sym r)))
    (λ l.
    let (e, p, q) = enum_of (package_scope f.package_name) f.enums d l in
    in_file f i e p (q ∙ ap (λ (s : Bytes). s · text e.name) (sym (scope_of_names (dotted_package f.package_name)))))
    (Memᴰ.append_cases (entry_declarations (entries (package_scope f.package_name) f.messages)) j)

enum_of_set : (set : List FileDescriptor) (d : Declaration) → Memᴰ d (set_declarations set) → d.is_enumeration ≡ true → EnumIn set d.full
unfolding set_declarations
enum_of_set [] d i s = absurd (Memᴰ.not-nil i)
enum_of_set (f ∷ fs) d i s =
    ⊎_elim (λ j. enum_of_file (f ∷ fs) f (Memᴰ.head refl) d j s) (λ j. later f fs d.full (enum_of_set fs d j s)) (Memᴰ.append_cases (file_declarations f) i)

-- ---- the sort of a type tells its number
abbrev numbered : ℕ → ℕ → ℕ → List FieldType → Bool
numbered s n i [] = true
numbered s n i (x ∷ xs) = (not (eqb x.sort s) || eqb i n) && numbered s n (suc i) xs

number_of : (s n : ℕ) → eqb 0 s ≡ false → (xs : List FieldType) (i k : ℕ) → numbered s n i xs ≡ true → eqb (get_or xs k no_type).sort s ≡ true → i + k ≡ n
number_of s n z [] i k h e = both_ways e z
number_of s n z (x ∷ xs) i zero h e = go (eqb x.sort s) e (and_left (not (eqb x.sort s) || eqb i n) (numbered s n (suc i) xs) h)
  where
    go : (t : Bool) → t ≡ true → (not t || eqb i n) ≡ true → i + zero ≡ n
    go true p q = let r = eqb-true i n q in omega arith
    go false p q = both_ways p refl
number_of s n z (x ∷ xs) i (suc k) h e = let r = number_of s n z xs (suc i) k (and_right (not (eqb x.sort s) || eqb i n) (numbered s n (suc i) xs) h) e in omega arith

type_number : (s n : ℕ) → eqb 0 s ≡ false → numbered s n 0 types ≡ true → (t : ℕ) → eqb (sort_of t) s ≡ true → eqb t n ≡ true
unfolding sort_of
type_number s n z h t e = let r = number_of s n z types 0 t h e in eq-eqb t n (omega arith)

pub struct_type : (f : FieldDescriptor) → names_struct f ≡ true → (is_message f || is_group f) ≡ true
struct_type f h =
    ⊎_elim (λ e. or_right (is_message f) (type_number group 10 refl refl (type f) e)) (λ e. or_left (is_group f) (type_number message 11 refl refl (type f) e))
    (or_cases (eqb (sort_of (type f)) group) (eqb (sort_of (type f)) message) h)

pub enum_type : (f : FieldDescriptor) → names_enum f ≡ true → is_enum f ≡ true
enum_type f h = type_number enumerated 14 refl refl (type f) h

-- ---- a set without refusals 6 and 7
first_below : (ds before : List Declaration) (fs : List FileDescriptor) → first_undeclared ds before fs ≤ length fs
unfolding first_undeclared
first_below ds before [] = omega arith
first_below ds before (f ∷ fs) =
    let rest = first_below ds (before ++ file_declarations f) fs in
    choose_case (λ (n : ℕ). n ≤ suc (length fs)) (fresh before (file_declarations f) && all (type_declared ds) (file_fields f)) (λ _. omega arith) (λ _. omega arith)

pub no_seven : (set : List FileDescriptor) → names set ≡ Ok tt → first_seven set ≡ length set
unfolding first_seven
no_seven set h =
    let a = ltb-false (first_seven set) (length set) (no_refusals set h).1 in
    let c = first_below (set_declarations set) [] set in
    omega arith

-- what a full name stands for: it is written where no extern path takes it
pub record Target (rs : List Setting) (set : List FileDescriptor) (full : Bytes) : Type 0 where
  pub home : List Bytes
  pub name : Bytes
  pub is : full ≡ scope_of (name ∷ home)
  pub free : Every DotFree (name ∷ home)
  pub there : taken rs full ≡ false → Memᴰ (type_named home name) (whole rs set)

module _ (rs : List Setting) (set : List FileDescriptor) (good : names set ≡ Ok tt) where
  pub well_formed : (f : FileDescriptor) → Memᴰ f set → WellFormed f
  well_formed f i = every_at WellFormed set (every_file set good) i

  -- a message of the set that is no map entry
  pub struct_target : (e : Entry) → Memᴰ e (set_entries set) → e.message.map_entry ≡ false → Target rs set e.full
  unfolding file_nameds
  struct_target e i entry =
      let r = in_set set e i in
      let f = r.file in
      let n = r.at in
      let q : scope_of (names_of n) ≡ e.full = ap (λ (z : Entry). z.full) r.is in
      record {
        home = n.home;
        name = text n.message.name;
        is = sym q;
        free = (fine_node f (well_formed f r.in_set) n r.in_file).free;
        there = λ t. file_within rs set f r.in_set (type_named n.home (text n.message.name))
            (Memᴰ.append_left (enum_nameds rs (package_names f) f.enums)
            (node_there rs (package_names f) f.messages (well_formed f r.in_set).nothing_nested n r.in_file (ap (λ (z : Entry). z.message.map_entry) r.is ∙ entry) (ap (taken rs) q ∙ t) (type_named n.home (text n.message.name)) (struct_in_node rs n)));
      }

  -- a map entry has no enums
  no_entry : (n : Node) (e : EnumDescriptor) → FineNode n → Memᴰ e n.message.enums → n.message.map_entry ≡ false
  no_entry n e k i = go n.message.map_entry refl
    where
      go : (t : Bool) → n.message.map_entry ≡ t → t ≡ false
      go false q = refl
      go true q = absurd (Memᴰ.not-nil (subst (λ (l : List EnumDescriptor). Memᴰ e l) (k.entry q).no_enum i))

  pub enum_target : (full : Bytes) → EnumIn set full → Target rs set full
  unfolding file_nameds
  enum_target full (in_message f i n j e k q) =
      let fine = fine_node f (well_formed f i) n j in
      record {
        home = names_of n;
        name = text e.name;
        is = q;
        free = (name_free e.name (every_at GoodEnum n.message.enums fine.good.enums k).named, fine.free);
        there = λ t.
            let out : taken rs (scope_of (text e.name ∷ names_of n)) ≡ false = ap (taken rs) (sym q) ∙ t in
            file_within rs set f i (type_named (names_of n) (text e.name))
            (Memᴰ.append_left (enum_nameds rs (package_names f) f.enums)
            (node_there rs (package_names f) f.messages (well_formed f i).nothing_nested n j (no_entry n e fine k)
            (not_implied (taken_inside rs (text n.message.name) n.home (text e.name)) out) (type_named (names_of n) (text e.name)) (enum_in_node rs n e k out)));
      }
  enum_target full (in_file f i e k q) =
      record {
        home = package_names f;
        name = text e.name;
        is = q;
        free = (name_free e.name (every_at GoodEnum f.enums (well_formed f i).enums k).named, package_free f);
        there = λ t. file_within rs set f i (type_named (package_names f) (text e.name))
            (Memᴰ.append_right (message_nameds rs (package_names f) f.messages) (enum_there rs (package_names f) f.enums e k (ap (taken rs) (sym q) ∙ t)));
      }

  -- ---- a field's type name
  mem_split : (f : FieldDescriptor) (xs : List FieldDescriptor) → Memᴰ f xs → (ys : List FieldDescriptor) × (zs : List FieldDescriptor) × (xs ≡ ys ++ (f ∷ zs))
  mem_split f [] i = absurd (Memᴰ.not-nil i)
  mem_split f (x ∷ xs) i =
      ⊎_elim (λ e. ([], xs, ap {B = List FieldDescriptor} (λ (z : FieldDescriptor). z ∷ xs) (sym e))) (λ j. let (ys, zs, q) = mem_split f xs j in (x ∷ ys, zs, ap {B = List FieldDescriptor} (λ (l : List FieldDescriptor). x ∷ l) q)) (Memᴰ.cases_cons i)

  -- of a message or group, where it is no map entry
  pub field_struct : (f : FieldDescriptor) → Memᴰ f (set_fields set) → names_struct f ≡ true
      → ((e : Entry) → Memᴰ e (set_entries set) → e.full ≡ text f.type_name → e.message.map_entry ≡ false) → Target rs set (text f.type_name)
  field_struct f i s k =
      let (ys, zs, q) = mem_split f (set_fields set) i in
      let o = message_named set (no_seven set good) ys f zs q (struct_type f s) in
      let (e, j, r) = entry_at (set_entries set) o.place (text f.type_name) o.below o.named in
      subst (λ (z : Bytes). Target rs set z) r (struct_target e j (k e j r))

  pub field_enum : (f : FieldDescriptor) → Memᴰ f (set_fields set) → names_enum f ≡ true → Target rs set (text f.type_name)
  field_enum f i s =
      let (ys, zs, q) = mem_split f (set_fields set) i in
      let o = enum_named set (no_seven set good) ys f zs q (enum_type f s) in
      let (d, j, (r, t)) = enum_at (set_declarations set) o.place (text f.type_name) o.below o.named o.sort in
      subst (λ (z : Bytes). Target rs set z) r (enum_target d.full (enum_of_set set d j t))
