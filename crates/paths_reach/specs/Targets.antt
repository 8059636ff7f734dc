-- What a type name names, in a set without refusals 6 and 7: a declaration that is written unless an extern path takes it. Assumes nothing.
use Rattle.std.specs.Prelude.{◌≡◌, refl, true}
use Rattle.std.proofs.Common.{ap, sym, ◌∙◌, subst, ⊎_elim}
use Rattle.std.proofs.Math.Option.{Option}
use mathlib.Core.List.Memᴰ
use mathlib.Core.List.{List, [], ◌∷◌, map, reverse_aux, Memᴰ, map-append}
use Rattle.base.specs.Lists.{Every, every_left, every_right}
use Rattle.descriptor.specs.Descriptor.{Bytes, Forest, done, node, preorder, MessageDescriptor, FileDescriptor}
use Rattle.name_rules.specs.Accessors.{text}
use Rattle.name_rules.specs.FullNames.{package_scope, Entry, entries, set_entries}
use Rattle.name_rules.specs.WellFormed.{Named as HasName, GoodMessage, GoodEntry, WellFormed}
use Rattle.code_generator.specs.Resolve.{local_path}
use Rattle.paths_reach.specs.Dots.{DotFree, name_no_dot, scope_of, scope_of_names, dotted_package, path_dot_free}
use Rattle.paths_reach.specs.Written.{package_names}
use Rattle.paths_reach.specs.Nodes.{Node, names_of, nodes, file_nodes}

-- ---- lists
pub every_reverse : {A : Type 0} (P : A → Type 0) (xs ys : List A) → Every P xs → Every P ys → Every P (reverse_aux xs ys)
every_reverse P [] ys p q = q
every_reverse P (x ∷ xs) ys p q = every_reverse P xs (x ∷ ys) p.1 (p.0, q)

-- ---- names have no dot
pub name_free : (o : Option Bytes) → HasName o → DotFree (text o)
name_free o n = subst (λ (z : Option Bytes). DotFree (text z)) (sym n.there) (name_no_dot n.name n.good.identifier)

pub package_free : (f : FileDescriptor) → Every DotFree (package_names f)
package_free f = every_reverse DotFree (local_path (package_scope f.package_name)) [] (path_dot_free (package_scope f.package_name)) tt

-- ---- the messages of a file
pub record FineNode (n : Node) : Type 0 where
  pub free : Every DotFree (names_of n)
  pub good : GoodMessage n.message
  pub entry : n.message.map_entry ≡ true → GoodEntry n.message

fine_nodes : (h : List Bytes) → Every DotFree h → (ms : Forest MessageDescriptor) → Every GoodMessage (preorder ms) → Every (λ m. m.map_entry ≡ true → GoodEntry m) (preorder ms)
    → (n : Node) → Memᴰ n (nodes h ms) → FineNode n
unfolding nodes preorder
fine_nodes h f done g k n i = absurd (Memᴰ.not-nil i)
fine_nodes h f (node m nested following) g k n i =
    let free : Every DotFree (text m.name ∷ h) = (name_free m.name g.0.named, f) in
    ⊎_elim
    (λ e. subst (λ (z : Node). FineNode z) (sym e) (record { free = free; good = g.0; entry = k.0 }))
    (λ j.
    ⊎_elim
    (λ l. fine_nodes (text m.name ∷ h) free nested (every_left GoodMessage (preorder nested) (preorder following) g.1) (every_left (λ m. m.map_entry ≡ true → GoodEntry m) (preorder nested) (preorder following) k.1) n l)
    (λ l. fine_nodes h f following (every_right GoodMessage (preorder nested) (preorder following) g.1) (every_right (λ m. m.map_entry ≡ true → GoodEntry m) (preorder nested) (preorder following) k.1) n l)
    (Memᴰ.append_cases (nodes (text m.name ∷ h) nested) j))
    (Memᴰ.cases_cons i)

pub fine_node : (f : FileDescriptor) → WellFormed f → (n : Node) → Memᴰ n (file_nodes f) → FineNode n
fine_node f w = fine_nodes (package_names f) (package_free f) f.messages w.messages w.map_entries

-- ---- the messages of a set, with their full names
abbrev pub entry_of : Node → Entry
entry_of n = record { full = scope_of (names_of n); message = n.message }

entries_are : (h : List Bytes) (ms : Forest MessageDescriptor) → entries (scope_of h) ms ≡ map entry_of (nodes h ms)
unfolding entries nodes
entries_are h done = refl
entries_are h (node m nested following) =
    let full = text m.name ∷ h in
    ap {B = List Entry} (λ (l : List Entry). record { full = scope_of full; message = m } ∷ l)
    (rw (entries_are full nested, entries_are h following) (sym (map-append entry_of (nodes full nested) (nodes h following))))

pub file_entries_are : (f : FileDescriptor) → entries (package_scope f.package_name) f.messages ≡ map entry_of (file_nodes f)
file_entries_are f = ap (λ (s : Bytes). entries s f.messages) (sym (scope_of_names (dotted_package f.package_name))) ∙ entries_are (package_names f) f.messages

-- a message of the set
pub record InSet (set : List FileDescriptor) (e : Entry) : Type 0 where
  pub file : FileDescriptor
  pub in_set : Memᴰ file set
  pub at : Node
  pub in_file : Memᴰ at (file_nodes file)
  pub is : entry_of at ≡ e

pub in_set : (set : List FileDescriptor) (e : Entry) → Memᴰ e (set_entries set) → InSet set e
unfolding set_entries
in_set [] e i = absurd (Memᴰ.not-nil i)
in_set (f ∷ fs) e i =
    ⊎_elim
    (λ j. let (n, k, q) = Memᴰ.of_map entry_of (file_nodes f) (rw (file_entries_are f) at j) in record { file = f; in_set = Memᴰ.head refl; at = n; in_file = k; is = q })
    (λ j. let r = in_set fs e j in record { file = r.file; in_set = Memᴰ.tail r.in_set; at = r.at; in_file = r.in_file; is = r.is })
    (Memᴰ.append_cases (entries (package_scope f.package_name) f.messages) i)
