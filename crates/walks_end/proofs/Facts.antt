-- What the fields of a set have that is group-free and without refusals 6 and 7. Assumes nothing.
use Rattle.std.specs.Prelude.{ℕ, ◌≡◌, true, false, ◌&&◌, length, Ok}
use Rattle.std.proofs.Common.{ap, sym, ◌∙◌, subst, ⊎_elim}
use Rattle.std.proofs.Math.Bool.{not}
use Rattle.std.proofs.Math.Option.{some}
use mathlib.Core.List.Memᴰ
use mathlib.Core.List.{List, [], ◌∷◌, Memᴰ}
use borrow.Author.Tests.{not-true}
use Rattle.base.specs.Choose.{choose, choose_case}
use Rattle.base.specs.Tests.{and_left}
use Rattle.base.specs.Lists.{all_every}
use Rattle.descriptor.specs.Descriptor.{Bytes, FieldDescriptor, FileDescriptor}
use Rattle.name_rules.specs.Accessors.{text, is_repeated, is_message, is_group}
use Rattle.name_rules.specs.FullNames.{package_scope, Entry, entries, set_entries, set_fields}
use Rattle.name_rules.specs.MapEntries.{names_it}
use Rattle.name_rules.specs.WellFormed.{GoodField}
use Rattle.name_rules.specs.Answer.{names}
use Rattle.context.specs.MessageGraph.{Link, is_link, field_links, links}
use Rattle.code_generator.specs.MapFields.{MapEntry, map_entry_of}
use Rattle.code_generator.specs.Oneofs.{is_at, oneof_of}
use Rattle.paths_reach.specs.Dots.{scope_of}
use Rattle.paths_reach.specs.Written.{package_names}
use Rattle.paths_reach.specs.Nodes.{Node, names_of, file_nodes}
use Rattle.paths_reach.specs.Homes.{mem_all_of}
use Rattle.paths_reach.specs.Closed.{every_at}
use Rattle.paths_reach.specs.Targets.{fine_node, entry_of, file_entries_are}
use Rattle.paths_reach.specs.Types.{well_formed}
use Rattle.paths_reach.specs.Entries.{set_nodes, field_in_set, tops_nodes, nested_nodes, names_full, maps_entry}
use Rattle.paths_reach.proofs.PathsReach.{in_oneof, not_repeated, entry_at}
use Rattle.walks_end.specs.Walks.{group_free}

abbrev pub link_of : Bytes → FieldDescriptor → Link
link_of full f = record { from = full; to = text f.type_name }

-- a field of the message with this full name
pub record FineField (set : List FileDescriptor) (full : Bytes) (f : FieldDescriptor) : Type 0 where
  pub no_group : is_group f ≡ false
  pub linked : is_link f ≡ true → Memᴰ (link_of full f) (links (set_entries set))
  pub singular : (k : ℕ) → is_at k (oneof_of f) ≡ true → is_repeated f ≡ false

pub record FineMessage (set : List FileDescriptor) (n : Node) : Type 0 where
  pub fields : (f : FieldDescriptor) → Memᴰ f n.message.fields → FineField set (scope_of (names_of n)) f
  -- a map field is repeated
  pub maps : (f : FieldDescriptor) → Memᴰ f n.message.fields → (e : MapEntry) → map_entry_of (scope_of (names_of n)) n.nested f.type_name ≡ some e → is_repeated f ≡ true

-- ---- links
field_linked : (full : Bytes) (fs : List FieldDescriptor) (f : FieldDescriptor) → Memᴰ f fs → is_link f ≡ true → Memᴰ (link_of full f) (field_links full fs)
unfolding field_links choose
field_linked full [] f i is = absurd (Memᴰ.not-nil i)
field_linked full (g ∷ fs) f i is =
    ⊎_elim (λ e. let here : is_link g ≡ true = ap (λ (z : FieldDescriptor). is_link z) (sym e) ∙ is in rw here (Memᴰ.head (ap (link_of full) e)))
    (λ j. choose_case (λ (l : List Link). Memᴰ (link_of full f) l) (is_link g) (λ _. Memᴰ.tail (field_linked full fs f j is)) (λ _. field_linked full fs f j is))
    (Memᴰ.cases_cons i)

entry_linked : (es : List Entry) (e : Entry) → Memᴰ e es → (f : FieldDescriptor) → Memᴰ f e.message.fields → is_link f ≡ true → Memᴰ (link_of e.full f) (links es)
unfolding links
entry_linked [] e i f j is = absurd (Memᴰ.not-nil i)
entry_linked (d ∷ es) e i f j is =
    ⊎_elim
    (λ q. Memᴰ.append_left (links es) (subst (λ (z : Entry). Memᴰ (link_of e.full f) (field_links z.full z.message.fields)) q (field_linked e.full e.message.fields f j is)))
    (λ k. Memᴰ.append_right (field_links d.full d.message.fields) (entry_linked es e k f j is))
    (Memᴰ.cases_cons i)

pub file_entries_in : (set : List FileDescriptor) (f : FileDescriptor) → Memᴰ f set → (e : Entry) → Memᴰ e (entries (package_scope f.package_name) f.messages) → Memᴰ e (set_entries set)
unfolding set_entries
file_entries_in [] f i e j = absurd (Memᴰ.not-nil i)
file_entries_in (g ∷ fs) f i e j =
    ⊎_elim (λ q. Memᴰ.append_left (set_entries fs) (subst (λ (z : FileDescriptor). Memᴰ e (entries (package_scope z.package_name) z.messages)) q j))
    (λ k. Memᴰ.append_right (entries (package_scope g.package_name) g.messages) (file_entries_in fs f k e j))
    (Memᴰ.cases_cons i)

-- ---- messages
module _ (set : List FileDescriptor) (good : names set ≡ Ok tt) (free : group_free set ≡ true) where
  no_group_in : (f : FieldDescriptor) → Memᴰ f (set_fields set) → is_group f ≡ false
  unfolding group_free
  no_group_in f i =
      every_at (λ (g : FieldDescriptor). is_group g ≡ false) (set_fields set)
      (all_every (λ (g : FieldDescriptor). is_group g ≡ false) (λ (g : FieldDescriptor). not (is_group g)) (λ g h. not-true (is_group g) h) (set_fields set) free) i

  module _ (f : FileDescriptor) (i : Memᴰ f set) (n : Node) (j : Memᴰ n (file_nodes f)) where
    in_nodes : Memᴰ n (set_nodes set)
    in_nodes = mem_all_of file_nodes set i j

    in_entries : Memᴰ (entry_of n) (set_entries set)
    in_entries = file_entries_in set f i (entry_of n) (subst (λ (l : List Entry). Memᴰ (entry_of n) l) (sym (file_entries_are f)) (Memᴰ.map entry_of j))

    fine_field : (g : FieldDescriptor) → Memᴰ g n.message.fields → FineField set (scope_of (names_of n)) g
    fine_field g k =
        let good_field = every_at (GoodField (length n.message.oneofs)) n.message.fields (fine_node f (well_formed [] set good f i) n j).good.fields k in
        record {
          no_group = no_group_in g (field_in_set set n in_nodes g k);
          linked = entry_linked (set_entries set) (entry_of n) in_entries g k;
          singular = λ index at. not_repeated g (good_field.in_oneof index (in_oneof g index at)).1;
        }

    map_repeated : (g : FieldDescriptor) → Memᴰ g n.message.fields → (e : MapEntry) → map_entry_of (scope_of (names_of n)) n.nested g.type_name ≡ some e → is_repeated g ≡ true
    map_repeated g k e q =
        let c = entry_at (names_of n) n.nested g.type_name e q in
        let there = mem_all_of file_nodes set i (nested_nodes (package_names f) f.messages n j c.at (tops_nodes (names_of n) n.nested c.at c.there)) in
        and_left (is_repeated g) (is_message g && names_it (scope_of (names_of c.at)) g)
        (maps_entry set good c.at there c.is_entry n in_nodes g k (names_full (text c.at.message.name) c.at.home g.type_name c.named))

    pub fine_message : FineMessage set n
    fine_message = record { fields = fine_field; maps = map_repeated }
