-- The name check on small sets. Assumes nothing.
use Rattle.std.specs.Prelude.{ℕ, ◌≡◌, refl, Bool, true, false, List, [], ◌∷◌}
use Prim.Native.String.{String}
use Rattle.std.proofs.Math.Option.{Option, some, none}
use Rattle.base.specs.Bytes.{b, same}
use Rattle.base.specs.Choose.{choose}
use Rattle.base.specs.Lists.{any, all, all_of}
use Rattle.heck.specs.Case.{between, class, lowered, raised, parts, words, to_snake_case, to_upper_camel_case}
use Rattle.ident.specs.Ident.{among as among_words, raw_words, kept_words, addition, with_addition, sanitize_identifier, to_snake, to_upper_camel}
use Rattle.descriptor.specs.Descriptor.{Forest, done, node, FieldDescriptor, MessageDescriptor, FileDescriptor}
use Rattle.options.specs.Settings.{value_of}
use Rattle.path.specs.Forms.{before_dots, filled, prefixes, among}
use Rattle.path.specs.PathMap.{first_with, find_best}
use Rattle.extern_paths.specs.Split.{begins, split_behind, split}
use Rattle.extern_paths.specs.ExternPaths.{extern, extern_paths, taken}
use Rattle.code_generator.specs.Resolve.{local_path}
use Rattle.code_generator.specs.Oneofs.{plain_fields, fields_at, nested_meets, enum_meets, oneofs_from}
use Rattle.code_generator.specs.Generate.{has_nested_types}
use Rattle.code_generator.specs.Refusals.{any_message, overlap}
use Rattle.name_check.specs.NameCheck.{modules_in, each_once, package_modules, enum_places, message_places, file_places, places, places_differ, file_members_meet, name_check}

-- an int32 field
abbrev field : Option ℕ → Bool → String → FieldDescriptor
field oneof proto3_optional name =
    record {
      name = some (b name);
      number = some 1;
      label = some 1;
      type = some 5;
      type_name = none;
      default_value = none;
      options = none;
      oneof_index = oneof;
      proto3_optional = proto3_optional;
    }

abbrev plain : String → FieldDescriptor
plain name = field none false name

-- in the first oneof of its message
abbrev in_oneof : String → FieldDescriptor
in_oneof name = field (some 0) false name

-- the oneof is left without it
abbrev optional : String → FieldDescriptor
optional name = field (some 0) true name

abbrev message : String → List FieldDescriptor → List (Option (List ℕ)) → MessageDescriptor
message name fields oneofs = record { name = some (b name); fields = fields; enums = []; map_entry = false; oneofs = oneofs }

-- a message with nothing in it
abbrev empty : String → Forest MessageDescriptor → Forest MessageDescriptor
empty name following = node (message name [] []) done following

abbrev file : Option (List ℕ) → Forest MessageDescriptor → FileDescriptor
file package_name messages = record { package_name = package_name; syntax = none; messages = messages; enums = [] }

-- a set of one file, without a package, that has one message
abbrev alone : MessageDescriptor → Forest MessageDescriptor → List FileDescriptor
alone m nested = file none (node m nested done) ∷ []

abbrev in_package : String → Forest MessageDescriptor → FileDescriptor
in_package name messages = file (some (b name)) messages

-- a set of two packages with nothing written
abbrev packages : String → String → List FileDescriptor
packages x y = in_package x done ∷ in_package y done ∷ []

-- names that differ
pub says_yes : all (name_check [])
    -- files of one package, one with nothing written, and the same name in another module
    ((in_package "a.b" (empty "M" done) ∷ in_package "a.b" done ∷ in_package "a" (empty "M" done) ∷ [])
    -- a oneof whose type would be called like a nested message gains `OneOf`
    ∷ alone (message "M" (in_oneof "x" ∷ []) (some (b "choice") ∷ [])) (empty "Choice" done)
    -- a oneof left without fields
    ∷ alone (message "M" (optional "x" ∷ []) (some (b "x") ∷ [])) done
    -- a field and a variant, and a oneof and a struct
    ∷ alone (message "M" (plain "x" ∷ in_oneof "x" ∷ []) (some (b "m") ∷ [])) done
    ∷ [])
    ≡ true
unfolding name_check places file_places message_places enum_places each_once modules_in package_modules places_differ file_members_meet any all all_of any_message overlap among local_path split split_behind begins plain_fields fields_at nested_meets enum_meets oneofs_from has_nested_types taken extern_paths value_of find_best first_with prefixes filled before_dots choose same between class lowered raised parts words to_snake_case to_upper_camel_case among_words raw_words kept_words addition with_addition sanitize_identifier to_snake to_upper_camel
says_yes = refl

-- names that meet
pub says_no : any (name_check [])
    -- structs of one module, in two files
    ((in_package "a" (empty "MyMsg" done) ∷ in_package "a" (empty "my_msg" done) ∷ [])
    -- packages whose segments have one snake name
    ∷ packages "a_b" "aB"
    ∷ packages "p.a.x" "p.A.y"
    -- a message's module, and a package's
    ∷ (file none (node (message "A" [] []) (empty "B" done) done) ∷ in_package "a" done ∷ [])
    -- a struct and its own module, both `_1`
    ∷ alone (message "_1" [] []) (empty "B" done)
    -- a oneof's type with `OneOf`, and a nested message
    ∷ alone (message "M" (in_oneof "x" ∷ []) (some (b "choice") ∷ [])) (empty "Choice" (empty "ChoiceOneOf" done))
    -- two fields, a field and a oneof, two variants of a oneof
    ∷ alone (message "M" (plain "fooBar" ∷ plain "foo_bar" ∷ []) []) done
    ∷ alone (message "M" (plain "myName" ∷ in_oneof "x" ∷ []) (some (b "my_name") ∷ [])) done
    ∷ alone (message "M" (in_oneof "a_b" ∷ in_oneof "aB" ∷ []) (some (b "o") ∷ [])) done
    ∷ [])
    ≡ false
unfolding name_check places file_places message_places enum_places each_once modules_in package_modules places_differ file_members_meet any all all_of any_message overlap among local_path split split_behind begins plain_fields fields_at nested_meets enum_meets oneofs_from has_nested_types taken extern_paths value_of find_best first_with prefixes filled before_dots choose same between class lowered raised parts words to_snake_case to_upper_camel_case among_words raw_words kept_words addition with_addition sanitize_identifier to_snake to_upper_camel
says_no = refl

-- with extern paths: what one takes doesn't count
pub taken_struct : name_check (extern (b ".a.my_msg") (b "X") ∷ []) (in_package "a" (empty "MyMsg" (empty "my_msg" done)) ∷ []) ≡ true
unfolding name_check places file_places message_places enum_places each_once modules_in package_modules places_differ file_members_meet any all all_of any_message overlap among local_path split split_behind begins plain_fields fields_at nested_meets enum_meets oneofs_from has_nested_types taken extern_paths value_of find_best first_with prefixes filled before_dots choose same between class lowered raised parts words to_snake_case to_upper_camel_case among_words raw_words kept_words addition with_addition sanitize_identifier to_snake to_upper_camel
taken_struct = refl

-- but the module does, in which nothing is left
pub empty_module : name_check (extern (b ".A.B") (b "X") ∷ []) (file none (node (message "A" [] []) (empty "B" done) done) ∷ in_package "a" done ∷ []) ≡ false
unfolding name_check places file_places message_places enum_places each_once modules_in package_modules places_differ file_members_meet any all all_of any_message overlap among local_path split split_behind begins plain_fields fields_at nested_meets enum_meets oneofs_from has_nested_types taken extern_paths value_of find_best first_with prefixes filled before_dots choose same between class lowered raised parts words to_snake_case to_upper_camel_case among_words raw_words kept_words addition with_addition sanitize_identifier to_snake to_upper_camel
empty_module = refl
