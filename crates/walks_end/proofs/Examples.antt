-- A worked set that meets what the theorems on written paths, walks and Boxes ask for, and what is seen in its texts. Assumes nothing.
use Rattle.std.specs.Prelude.{ℕ, ◌≡◌, refl, true, false, Ok}
use Prim.Native.String.{String}
use Rattle.std.proofs.Common.{ap, sym, ◌∙◌, subst}
use Rattle.std.proofs.Math.Option.{Option, some, none}
use mathlib.Core.List.{List, [], ◌∷◌, ◌++◌, map, Memᴰ}
use Rattle.base.specs.Bytes.{b, same}
use Rattle.base.specs.Choose.{choose}
use Rattle.base.specs.Lists.{all, any, all_of, count, first_failing}
use Rattle.heck.specs.Case.{between, class, lowered, raised, parts, words, to_snake_case, to_upper_camel_case}
use Rattle.ident.specs.Ident.{among as among_words, raw_words, kept_words, addition, with_addition, sanitize_identifier, to_snake, to_upper_camel}
use Rattle.ident.specs.Name.{name_start, name_part, every, is_name, has_word}
use Rattle.field_types.specs.Types.{sort_of}
use Rattle.syntax.specs.Syntax.{syntax_of}
use Rattle.descriptor.specs.Descriptor.{Bytes}
use Rattle.options.specs.Settings.{value_of}
use Rattle.path.specs.Forms.{behind_dots, before_dots, filled, suffixes, prefixes, sub_path_iter, among}
use Rattle.path.specs.PathMap.{get_in, first_with, find_best}
use Rattle.extern_paths.specs.Split.{begins, split_behind, split}
use Rattle.extern_paths.specs.ExternPaths.{extern_paths, taken}
use Rattle.name_rules.specs.Rules.{good_name, segments, field_good, value_good, enum_good, message_good, key_type, key_good, value_field_good, entry_good, messages_good, file_good}
use Rattle.name_rules.specs.FullNames.{entries, set_entries, file_declarations, set_declarations, declared, declared_as, fresh, type_declared, fields_of_entries, first_undeclared}
use Rattle.name_rules.specs.MapEntries.{entry_named, entries_named, map_entries_named}
use Rattle.name_rules.specs.Answer.{file_named, first_six, first_seven, names}
use Rattle.context.specs.MessageGraph.{fields_of, field_links, links, leads, is_nested}
use Rattle.context.specs.Context.{should_box}
use Rattle.code_generator.specs.Piece.{type as type_ref, opt}
use Rattle.code_generator.specs.Resolve.{local_path, ident_path, ident_type, skip_common, way}
use Rattle.code_generator.specs.Fields.{optional}
use Rattle.code_generator.specs.MapFields.{map_entry_of}
use Rattle.code_generator.specs.Oneofs.{plain_fields, fields_at, nested_meets, enum_meets, oneofs_from}
use Rattle.code_generator.specs.Generate.{has_nested_types}
use Rattle.code_generator.specs.TreeTexts.{one, set, rs}
use Rattle.code_generator.specs.Refusals.{any_message, overlap}
use Rattle.name_check.specs.NameCheck.{modules_in, each_once, package_modules, enum_places, message_places, file_places, places, places_differ, file_members_meet, name_check}
use Rattle.sights.specs.Events.{WrittenPath}
use Rattle.sights.specs.Sights.{Item, Label, Use, BoxUse, Sight, items, uses, boxes, set_sights}
use Rattle.text_sights.specs.Written.{ident_sights, type_sights, tag_sights, field_sights, map_sights, variant_sights, oneof_field_sights, struct_sights, oneof_sights, enum_sights, message_sights, written_sights}
use Rattle.text_sights.proofs.TextReads.{set_sights_are}
use Rattle.paths_reach.specs.Reach.{package_item, world, those, same_names, ReachesOne}
use Rattle.paths_reach.proofs.PathsReach.{paths_reach}
use Rattle.walks_end.specs.Walks.{group_free, Step, Walk, last as one_step}
use Rattle.walks_end.specs.BoxedFields.{no_boxed_setting, written_fields, leads_back, boxed_field}
use Rattle.walks_end.proofs.WalksEnd.{walks_end}
use Rattle.walks_end.proofs.BoxesStand.{boxes_stand}

pub good : names set ≡ Ok tt
unfolding names first_six first_seven file_named file_good messages_good message_good field_good value_good enum_good entry_good key_good value_field_good key_type segments good_name map_entries_named entries_named entry_named entries set_entries file_declarations set_declarations declared declared_as fresh type_declared fields_of_entries first_undeclared name_start name_part every is_name has_word between class sort_of syntax_of all count first_failing choose same
good = refl

pub says_yes : name_check rs set ≡ true
unfolding name_check places file_places message_places enum_places each_once modules_in package_modules places_differ file_members_meet any all_of any_message overlap among local_path split split_behind begins plain_fields fields_at nested_meets enum_meets oneofs_from has_nested_types taken extern_paths value_of find_best first_with prefixes filled before_dots choose same between class lowered raised parts words to_snake_case to_upper_camel_case among_words raw_words kept_words addition with_addition sanitize_identifier to_snake to_upper_camel
says_yes = refl

pub free : group_free set ≡ true
unfolding group_free entries set_entries fields_of_entries all
free = refl

pub unset : no_boxed_setting rs ≡ true
unfolding no_boxed_setting all
unset = refl

-- ---- what is seen in the texts
abbrev pub path : ℕ → List Bytes → String → WrittenPath
path supers modules last = record { supers = supers; modules = modules; last = b last }

abbrev pub field_name : Option Label → Bytes
field_name none = []
field_name (some l) = l.name

-- the paths, the oneof's twice; and the names of what has a Box
pub seen : let ss = set_sights rs set in
    (map (λ (u : Use). u.path) (uses ss)
    ≡ path 0 [] "Tree"
    ∷ path 1 (b "c" ∷ []) "Forest"
    ∷ path 0 (b "tree" ∷ []) "Kind"
    ∷ path 0 [] "Tree"
    ∷ path 0 [] "Tree"
    ∷ path 0 (b "tree" ∷ []) "Note"
    ∷ path 0 (b "tree" ∷ []) "Shape"
    ∷ path 0 (b "tree" ∷ []) "Shape"
    ∷ path 0 [] "Note"
    ∷ path 1 [] "Tree"
    ∷ path 1 (b "b" ∷ []) "Tree"
    ∷ [])
    × (map (λ (x : BoxUse). field_name x.field) (boxes ss) ≡ b "left" ∷ b "forest" ∷ b "stamp" ∷ b "Branch" ∷ b "tree" ∷ [])
unfolding written_sights message_sights struct_sights oneof_sights enum_sights field_sights map_sights variant_sights oneof_field_sights ident_sights type_sights tag_sights all_of way skip_common ident_path ident_type local_path split split_behind begins plain_fields fields_at nested_meets enum_meets oneofs_from map_entry_of optional has_nested_types should_box links field_links leads is_nested entries set_entries fields_of sub_path_iter suffixes behind_dots taken extern_paths value_of find_best first_with get_in prefixes filled before_dots sort_of syntax_of choose same between class lowered raised parts words to_snake_case to_upper_camel_case among_words raw_words kept_words addition with_addition sanitize_identifier to_snake to_upper_camel
seen = (
  ap (λ (ss : List Sight). map (λ (u : Use). u.path) (uses ss)) (set_sights_are rs set) ∙ refl,
  ap (λ (ss : List Sight). map (λ (x : BoxUse). field_name x.field) (boxes ss)) (set_sights_are rs set) ∙ refl,
)

-- a walk goes from the struct Tree to the struct Note, by the field `note`
abbrev pub tree_struct : Item
tree_struct = record { place = b "b" ∷ b "a" ∷ []; name = b "Tree"; is_module = false; mark = some (type_ref (b ".a.b.Tree")) }

abbrev pub note_struct : Item
note_struct = record { place = b "tree" ∷ b "b" ∷ b "a" ∷ []; name = b "Note"; is_module = false; mark = some (type_ref (b ".a.b.Tree.Note")) }

abbrev note_path : Use
note_path =
    record {
      place = b "b" ∷ b "a" ∷ [];
      owner = some tree_struct;
      field = some (record { name = b "note"; mark = some (record { message = b ".a.b.Tree"; field = one "note" 7 ".a.b.Tree.Note" }) });
      wraps = opt ∷ [];
      in_tag = false;
      path = path 0 (b "tree" ∷ []) "Note";
      mark = some (type_ref (b ".a.b.Tree.Note"));
    }

step : let ss = all_of (written_sights rs set) set in Step (map package_item (package_modules set) ++ items ss) (uses ss) tree_struct note_struct
unfolding written_sights message_sights struct_sights oneof_sights enum_sights field_sights map_sights variant_sights oneof_field_sights ident_sights type_sights tag_sights all_of way skip_common ident_path ident_type local_path split split_behind begins plain_fields fields_at nested_meets enum_meets oneofs_from map_entry_of optional has_nested_types should_box links field_links leads is_nested entries set_entries fields_of sub_path_iter suffixes behind_dots taken extern_paths value_of find_best first_with get_in prefixes filled before_dots sort_of syntax_of choose same between class lowered raised parts words to_snake_case to_upper_camel_case among_words raw_words kept_words addition with_addition sanitize_identifier to_snake to_upper_camel package_modules each_once modules_in any those same_names
step = record {
  path = note_path;
  seen = Memᴰ.tail (Memᴰ.tail (Memᴰ.tail (Memᴰ.tail (Memᴰ.tail (Memᴰ.head refl)))));
  in_type = refl;
  stands_in = refl;
  free = refl;
  leads_to = Memᴰ.head refl;
}

pub tree_to_note : Walk (world rs set) (uses (set_sights rs set)) tree_struct note_struct
unfolding world
tree_to_note =
    one_step (subst (λ (ss : List Sight). Step (map package_item (package_modules set) ++ items ss) (uses ss) tree_struct note_struct) (sym (set_sights_are rs set)) step)

-- ---- so the theorems hold of it
pub all_reach : (u : Use) → Memᴰ u (uses (set_sights rs set)) → ReachesOne (world rs set) u
all_reach = paths_reach rs set good says_yes

pub all_end : (d : Item) → Walk (world rs set) (uses (set_sights rs set)) d d → ⊥
all_end = walks_end rs set good says_yes free

pub boxes_lead_back : map boxed_field (boxes (set_sights rs set)) ≡ map some (those (leads_back set) (written_fields rs set))
boxes_lead_back = boxes_stand rs set good free unset
