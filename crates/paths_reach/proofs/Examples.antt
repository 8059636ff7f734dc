-- A set of two packages that meets what the theorem asks for, and the paths that are seen in its texts. Assumes nothing.
use Rattle.std.specs.Prelude.{ℕ, ◌≡◌, refl, Bool, true, false, Ok}
use Prim.Native.String.{String}
use Rattle.std.proofs.Common.{ap, ◌∙◌}
use Rattle.std.proofs.Math.Option.{Option, some, none}
use mathlib.Core.List.{List, [], ◌∷◌, map, Memᴰ}
use Rattle.base.specs.Bytes.{b, same}
use Rattle.base.specs.Choose.{choose}
use Rattle.base.specs.Lists.{all, any, all_of, count, first_failing}
use Rattle.heck.specs.Case.{between, class, lowered, raised, parts, words, to_snake_case, to_upper_camel_case}
use Rattle.ident.specs.Ident.{among as among_words, raw_words, kept_words, addition, with_addition, sanitize_identifier, to_snake, to_upper_camel}
use Rattle.ident.specs.Name.{name_start, name_part, every, is_name, has_word}
use Rattle.field_types.specs.Types.{sort_of}
use Rattle.syntax.specs.Syntax.{syntax_of}
use Rattle.descriptor.specs.Descriptor.{Bytes, done, node, FieldDescriptor, EnumDescriptor, MessageDescriptor, FileDescriptor}
use Rattle.options.specs.Settings.{value_of}
use Rattle.path.specs.Forms.{behind_dots, before_dots, filled, suffixes, prefixes, sub_path_iter, among}
use Rattle.path.specs.PathMap.{get_in, first_with, find_best}
use Rattle.extern_paths.specs.Split.{begins, split_behind, split}
use Rattle.extern_paths.specs.ExternPaths.{extern_paths, taken}
use Rattle.name_rules.specs.Rules.{good_name, segments, field_good, value_good, enum_good, message_good, key_type, key_good, value_field_good, entry_good, messages_good, file_good}
use Rattle.name_rules.specs.FullNames.{entries, set_entries, file_declarations, set_declarations, declared, declared_as, fresh, type_declared, fields_of_entries, first_undeclared}
use Rattle.name_rules.specs.MapEntries.{entry_named, entries_named, map_entries_named}
use Rattle.name_rules.specs.Answer.{file_named, first_six, first_seven, names}
use Rattle.context.specs.MessageGraph.{fields_of, field_links, links, leads, is_nested}
use Rattle.context.specs.Context.{should_box}
use Rattle.code_generator.specs.Resolve.{local_path, ident_path, ident_type, skip_common, way}
use Rattle.code_generator.specs.Fields.{optional}
use Rattle.code_generator.specs.MapFields.{map_entry_of}
use Rattle.code_generator.specs.Oneofs.{plain_fields, fields_at, nested_meets, enum_meets, oneofs_from}
use Rattle.code_generator.specs.Generate.{has_nested_types}
use Rattle.code_generator.specs.Refusals.{any_message, overlap}
use Rattle.name_check.specs.NameCheck.{modules_in, each_once, package_modules, enum_places, message_places, file_places, places, places_differ, file_members_meet, name_check}
use Rattle.sights.specs.Events.{WrittenPath}
use Rattle.sights.specs.Sights.{Use, Sight, uses, set_sights}
use Rattle.text_sights.specs.Written.{ident_sights, type_sights, tag_sights, field_sights, map_sights, variant_sights, oneof_field_sights, struct_sights, oneof_sights, enum_sights, message_sights, written_sights}
use Rattle.text_sights.proofs.TextReads.{set_sights_are}
use Rattle.paths_reach.specs.Reach.{world, ReachesOne}
use Rattle.paths_reach.proofs.PathsReach.{paths_reach}

abbrev field : String → ℕ → ℕ → ℕ → Option Bytes → Option ℕ → FieldDescriptor
field name number label type type_name oneof =
    record {
      name = some (b name);
      number = some number;
      label = some label;
      type = some type;
      type_name = type_name;
      default_value = none;
      options = none;
      oneof_index = oneof;
      proto3_optional = false;
    }

abbrev message : String → List FieldDescriptor → List EnumDescriptor → Bool → List (Option Bytes) → MessageDescriptor
message name fields enums map_entry oneofs = record { name = some (b name); fields = fields; enums = enums; map_entry = map_entry; oneofs = oneofs }

-- package a.b: a message with a field of another package's message, an enum, a map and a oneof, whose variant is a nested message
abbrev outer : MessageDescriptor
outer =
    message "Outer"
    (field "thing" 1 1 11 (some (b ".a.c.Thing")) none
    ∷ field "kind" 2 1 14 (some (b ".a.b.Outer.Kind")) none
    ∷ field "things" 3 3 11 (some (b ".a.b.Outer.ThingsEntry")) none
    ∷ field "inner" 4 1 11 (some (b ".a.b.Outer.Inner")) (some 0)
    ∷ [])
    (record { name = some (b "Kind"); values = [] } ∷ []) false (some (b "choice") ∷ [])

abbrev things_entry : MessageDescriptor
things_entry = message "ThingsEntry" (field "key" 1 1 9 none none ∷ field "value" 2 1 11 (some (b ".a.c.Thing")) none ∷ []) [] true []

abbrev set : List FileDescriptor
set =
    record { package_name = some (b "a.b"); syntax = none; messages = node outer (node (message "Inner" [] [] false []) done (node things_entry done done)) done; enums = [] }
    ∷ record { package_name = some (b "a.c"); syntax = none; messages = node (message "Thing" [] [] false []) done done; enums = [] }
    ∷ []

good : names set ≡ Ok tt
unfolding names first_six first_seven file_named file_good messages_good message_good field_good value_good enum_good entry_good key_good value_field_good key_type segments good_name map_entries_named entries_named entry_named entries set_entries file_declarations set_declarations declared declared_as fresh type_declared fields_of_entries first_undeclared name_start name_part every is_name has_word between class sort_of syntax_of all count first_failing choose same
good = refl

says_yes : name_check [] set ≡ true
unfolding name_check places file_places message_places enum_places each_once modules_in package_modules places_differ file_members_meet any all_of any_message overlap among local_path split split_behind begins plain_fields fields_at nested_meets enum_meets oneofs_from has_nested_types taken extern_paths value_of find_best first_with prefixes filled before_dots choose same between class lowered raised parts words to_snake_case to_upper_camel_case among_words raw_words kept_words addition with_addition sanitize_identifier to_snake to_upper_camel
says_yes = refl

abbrev path : ℕ → List Bytes → String → WrittenPath
path supers modules last = record { supers = supers; modules = modules; last = b last }

-- the paths: a field's, the enum's in its tag, the map's value, the oneof's twice, the variant's
pub paths_seen : map (λ (u : Use). u.path) (uses (set_sights [] set))
    ≡ path 1 (b "c" ∷ []) "Thing"
    ∷ path 0 (b "outer" ∷ []) "Kind"
    ∷ path 1 (b "c" ∷ []) "Thing"
    ∷ path 0 (b "outer" ∷ []) "Choice"
    ∷ path 0 (b "outer" ∷ []) "Choice"
    ∷ path 0 [] "Inner"
    ∷ []
unfolding written_sights message_sights struct_sights oneof_sights enum_sights field_sights map_sights variant_sights oneof_field_sights ident_sights type_sights tag_sights all_of way skip_common ident_path ident_type local_path split split_behind begins plain_fields fields_at nested_meets enum_meets oneofs_from map_entry_of optional has_nested_types should_box links field_links leads is_nested entries set_entries fields_of sub_path_iter suffixes behind_dots taken extern_paths value_of find_best first_with get_in prefixes filled before_dots sort_of syntax_of choose same between class lowered raised parts words to_snake_case to_upper_camel_case among_words raw_words kept_words addition with_addition sanitize_identifier to_snake to_upper_camel
paths_seen = ap (λ (ss : List Sight). map (λ (u : Use). u.path) (uses ss)) (set_sights_are [] set) ∙ refl

-- so each of its paths reaches its declaration
pub all_reach : (u : Use) → Memᴰ u (uses (set_sights [] set)) → ReachesOne (world [] set) u
all_reach = paths_reach [] set good says_yes
