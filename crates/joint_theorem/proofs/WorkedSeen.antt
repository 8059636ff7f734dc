-- What demand 3 says of the worked set: the texts, the paths and where each leads, a walk, the Boxes. Assumes nothing.
use Rattle.std.specs.Prelude.{ℕ, ◌<◌, ◌≡◌, refl, false, List, [], ◌∷◌, ◌++◌, map, length, take}
use Prim.Native.String.{String}
use Rattle.std.proofs.Common.{ap, ◌∙◌, arith}
use Rattle.std.proofs.Math.Option.{Option, some, none}
use mathlib.Core.List.Memᴰ
use Rattle.base.specs.Bytes.{b, same}
use Rattle.base.specs.Choose.{choose}
use Rattle.base.specs.Lists.{any, all_of}
use Rattle.heck.specs.Case.{between, class, lowered, raised, parts, words, to_snake_case, to_upper_camel_case}
use Rattle.ident.specs.Ident.{among as among_words, raw_words, kept_words, addition, with_addition, sanitize_identifier, to_snake, to_upper_camel}
use Rattle.field_types.specs.Types.{sort_of}
use Rattle.syntax.specs.Syntax.{syntax_of}
use Rattle.descriptor.specs.Descriptor.{Bytes, FileDescriptor}
use Rattle.descriptor.specs.Decode.{decode_set}
use Rattle.options.specs.Settings.{Setting, value_of}
use Rattle.path.specs.Forms.{behind_dots, before_dots, filled, suffixes, prefixes, sub_path_iter}
use Rattle.path.specs.PathMap.{get_in, first_with, find_best}
use Rattle.extern_paths.specs.Split.{begins, split_behind, split}
use Rattle.extern_paths.specs.ExternPaths.{extern_paths, taken}
use Rattle.name_rules.specs.FullNames.{entries, set_entries}
use Rattle.context.specs.MessageGraph.{fields_of, field_links, links, leads, is_nested}
use Rattle.context.specs.Context.{should_box}
use Rattle.code_generator.specs.Piece.{Wrap, opt}
use Rattle.code_generator.specs.Resolve.{local_path, ident_path, ident_type, skip_common, way}
use Rattle.code_generator.specs.Fields.{optional}
use Rattle.code_generator.specs.MapFields.{map_entry_of}
use Rattle.code_generator.specs.Oneofs.{plain_fields, fields_at, nested_meets, enum_meets, oneofs_from}
use Rattle.code_generator.specs.Generate.{has_nested_types, file_text}
use Rattle.code_generator.specs.TreeTexts as worked
use Rattle.name_check.specs.NameCheck.{modules_in, each_once, package_modules}
use Rattle.calls.specs.TextCall.{file_at, text_call, text_left}
use Rattle.sights.specs.Events.{WrittenPath}
use Rattle.sights.specs.Sights.{Item, Use, BoxUse, Sight, items, uses, boxes}
use Rattle.sights.specs.Unmarked.{unmarked}
use Rattle.text_sights.specs.Written.{ident_sights, type_sights, tag_sights, field_sights, map_sights, variant_sights, oneof_field_sights, struct_sights, oneof_sights, enum_sights, message_sights, written_sights}
use Rattle.paths_reach.specs.Reach.{package_item, those, same_names, is_that_declaration, inside}
use Rattle.walks_end.specs.Walks.{Walk, last as one_step, more}
use Rattle.walks_end.proofs.Examples.{path as written, field_name}
use Rattle.joint_theorem.specs.Claim.{indexes, seen, seen_items}
use Rattle.joint_theorem.specs.Answers.{text_written}
use Rattle.joint_theorem.specs.WorkedBytes.{set, options, decoded, rows}
use Rattle.joint_theorem.proofs.Worked.{buffers, accepted, demand}

-- ---- what the calls leave
abbrev left : ℕ → Bytes
left file = take (text_call set options file (length (buffers file))).place (text_left set options file (buffers file))

pub texts_left : map left (indexes 0 3) ≡ worked.tree_text ∷ worked.forest_text ∷ [] ∷ []
texts_left = rw (is 0 (omega arith), is 1 (omega arith), is 2 (omega arith)) worked.texts
  where
    is : (file : ℕ) → file < 3 → left file ≡ file_text worked.rs worked.set (file_at worked.set file)
    is file l =
        text_written set options file (buffers file) (accepted.not_refused file (rw decoded l))
        ∙ ap (λ (rs : List Setting). file_text rs (decode_set set) (file_at (decode_set set) file)) rows
        ∙ ap (λ (fs : List FileDescriptor). file_text worked.rs fs (file_at fs file)) decoded

-- ---- the paths
-- where a path stands, how it is written, and the declarations that its names lead to
pub record Lead : Type 0 where
  pub from : List Bytes
  pub path : WrittenPath
  pub to : List Item

abbrev lead : List Item → Use → Lead
lead is u = record { from = u.place; path = u.path; to = those (is_that_declaration (inside u) u.path.last) is }

-- a declaration in these modules, the innermost first
abbrev declared : List Bytes → String → Item
declared place name = record { place = place; name = b name; is_module = false; mark = none }

-- in module a::b, and in a::b::tree
abbrev in_b : List Bytes
in_b = b "b" ∷ b "a" ∷ []

abbrev in_tree : List Bytes
in_tree = b "tree" ∷ in_b

abbrev in_c : List Bytes
in_c = b "c" ∷ b "a" ∷ []

abbrev leads_from : List Bytes → WrittenPath → Item → Lead
leads_from place p i = record { from = place; path = p; to = i ∷ [] }

-- what is seen, from the descriptors
abbrev shown : List Sight
shown = map unmarked (all_of (written_sights worked.rs worked.set) worked.set)

abbrev all_items : List FileDescriptor → List Sight → List Item
all_items files ss = map package_item (package_modules files) ++ items ss

seen_so : seen set options ≡ shown
seen_so =
    demand.agree.read.as_marked ∙ ap (map unmarked) demand.agree.read.as_described
    ∙ ap (λ (rs : List Setting). map unmarked (all_of (written_sights rs (decode_set set)) (decode_set set))) rows
    ∙ ap (λ (fs : List FileDescriptor). map unmarked (all_of (written_sights worked.rs fs) fs)) decoded

items_so : seen_items set options ≡ all_items worked.set shown
items_so = ap (λ (ss : List Sight). all_items (decode_set set) ss) seen_so ∙ ap (λ (fs : List FileDescriptor). all_items fs shown) decoded

pub paths_lead : map (lead (seen_items set options)) (uses (seen set options))
    ≡ leads_from in_b (written 0 [] "Tree") (declared in_b "Tree")
    ∷ leads_from in_b (written 1 (b "c" ∷ []) "Forest") (declared in_c "Forest")
    ∷ leads_from in_b (written 0 (b "tree" ∷ []) "Kind") (declared in_tree "Kind")
    ∷ leads_from in_b (written 0 [] "Tree") (declared in_b "Tree")
    ∷ leads_from in_b (written 0 [] "Tree") (declared in_b "Tree")
    ∷ leads_from in_b (written 0 (b "tree" ∷ []) "Note") (declared in_tree "Note")
    ∷ leads_from in_b (written 0 (b "tree" ∷ []) "Shape") (declared in_tree "Shape")
    ∷ leads_from in_b (written 0 (b "tree" ∷ []) "Shape") (declared in_tree "Shape")
    ∷ leads_from in_tree (written 0 [] "Note") (declared in_tree "Note")
    ∷ leads_from in_tree (written 1 [] "Tree") (declared in_b "Tree")
    ∷ leads_from in_c (written 1 (b "b" ∷ []) "Tree") (declared in_b "Tree")
    ∷ []
unfolding written_sights message_sights struct_sights oneof_sights enum_sights field_sights map_sights variant_sights oneof_field_sights ident_sights type_sights tag_sights all_of way skip_common ident_path ident_type local_path split split_behind begins plain_fields fields_at nested_meets enum_meets oneofs_from map_entry_of optional has_nested_types should_box links field_links leads is_nested entries set_entries fields_of sub_path_iter suffixes behind_dots taken extern_paths value_of find_best first_with get_in prefixes filled before_dots sort_of syntax_of choose same between class lowered raised parts words to_snake_case to_upper_camel_case among_words raw_words kept_words addition with_addition sanitize_identifier to_snake to_upper_camel package_modules each_once modules_in any those same_names
paths_lead = rw (items_so, seen_so) refl

-- ---- a walk: from the struct Tree to the enum of its oneof, and on to the struct Note
abbrev step_by : List Bytes → Item → String → List Wrap → WrittenPath → Use
step_by place owner field wraps p =
    record { place = place; owner = some owner; field = some (record { name = b field; mark = none }); wraps = wraps; in_tag = false; path = p; mark = none }

walk_there : Walk (all_items worked.set shown) (uses shown) (declared in_b "Tree") (declared in_tree "Note")
unfolding written_sights message_sights struct_sights oneof_sights enum_sights field_sights map_sights variant_sights oneof_field_sights ident_sights type_sights tag_sights all_of way skip_common ident_path ident_type local_path split split_behind begins plain_fields fields_at nested_meets enum_meets oneofs_from map_entry_of optional has_nested_types should_box links field_links leads is_nested entries set_entries fields_of sub_path_iter suffixes behind_dots taken extern_paths value_of find_best first_with get_in prefixes filled before_dots sort_of syntax_of choose same between class lowered raised parts words to_snake_case to_upper_camel_case among_words raw_words kept_words addition with_addition sanitize_identifier to_snake to_upper_camel package_modules each_once modules_in any those same_names
walk_there =
    more (record {
      path = step_by in_b (declared in_b "Tree") "shape" (opt ∷ []) (written 0 (b "tree" ∷ []) "Shape");
      seen = Memᴰ.tail (Memᴰ.tail (Memᴰ.tail (Memᴰ.tail (Memᴰ.tail (Memᴰ.tail (Memᴰ.tail (Memᴰ.head refl)))))));
      in_type = refl;
      stands_in = refl;
      free = refl;
      leads_to = Memᴰ.head refl;
    })
    (one_step (record {
      path = step_by in_tree (declared in_tree "Shape") "Leaf" [] (written 0 [] "Note");
      seen = Memᴰ.tail (Memᴰ.tail (Memᴰ.tail (Memᴰ.tail (Memᴰ.tail (Memᴰ.tail (Memᴰ.tail (Memᴰ.tail (Memᴰ.head refl))))))));
      in_type = refl;
      stands_in = refl;
      free = refl;
      leads_to = Memᴰ.head refl;
    }))

pub tree_to_note : Walk (seen_items set options) (uses (seen set options)) (declared in_b "Tree") (declared in_tree "Note")
tree_to_note = rw (items_so, seen_so) walk_there

-- ---- the Boxes: the declaration around each, and the field or variant
abbrev name_in : Option Item → Bytes
name_in none = []
name_in (some i) = i.name

pub boxes_at : map {B = Bytes × Bytes} (λ (x : BoxUse). (name_in x.owner, field_name x.field)) (boxes (seen set options))
    ≡ (b "Tree", b "left") ∷ (b "Tree", b "forest") ∷ (b "Tree", b "stamp") ∷ (b "Shape", b "Branch") ∷ (b "Forest", b "tree") ∷ []
unfolding written_sights message_sights struct_sights oneof_sights enum_sights field_sights map_sights variant_sights oneof_field_sights ident_sights type_sights tag_sights all_of way skip_common ident_path ident_type local_path split split_behind begins plain_fields fields_at nested_meets enum_meets oneofs_from map_entry_of optional has_nested_types should_box links field_links leads is_nested entries set_entries fields_of sub_path_iter suffixes behind_dots taken extern_paths value_of find_best first_with get_in prefixes filled before_dots sort_of syntax_of choose same between class lowered raised parts words to_snake_case to_upper_camel_case among_words raw_words kept_words addition with_addition sanitize_identifier to_snake to_upper_camel
boxes_at = rw seen_so refl
