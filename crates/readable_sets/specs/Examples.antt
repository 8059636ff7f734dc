-- A set that the theorem speaks of: a message that holds itself, an enum and a oneof. Assumes nothing.
use Rattle.std.specs.Prelude.{ℕ, ◌≡◌, refl, false, List, [], ◌∷◌, map, Ok}
use Rattle.std.proofs.Math.Option.{Option, some, none}
use Rattle.base.specs.Bytes.{b, same}
use Rattle.base.specs.Choose.{choose}
use Rattle.base.specs.Lists.{all, first_failing, count}
use Rattle.heck.specs.Case.{between, class}
use Rattle.ident.specs.Name.{name_start, name_part, every, is_name, has_word}
use Rattle.syntax.specs.Syntax.{syntax_of}
use Rattle.descriptor.specs.Descriptor.{Bytes, done, node, FieldDescriptor, EnumDescriptor, MessageDescriptor, FileDescriptor}
use Rattle.name_rules.specs.FullNames.{entries, set_entries, file_declarations, set_declarations, declared, declared_as, fresh, type_declared, fields_of_entries, first_undeclared}
use Rattle.name_rules.specs.Rules.{good_name, segments, field_good, value_good, enum_good, message_good, messages_good, file_good}
use Rattle.name_rules.specs.MapEntries.{entries_named, map_entries_named}
use Rattle.name_rules.specs.Answer.{file_named, first_six, first_seven, names}
use Rattle.sights.specs.Sights.{set_sights}
use Rattle.sights.specs.Unmarked.{unmarked}
use Rattle.readable_sets.specs.ReadableSets.{seen_in, see_set}

-- proto3, each labelled optional
abbrev a_field : Bytes → ℕ → ℕ → Option Bytes → Option ℕ → FieldDescriptor
a_field n k t target oneof =
    record {
      name = some n;
      number = some k;
      label = some 1;
      type = some t;
      type_name = target;
      default_value = none;
      options = none;
      oneof_index = oneof;
      proto3_optional = false;
    }

abbrev kind : EnumDescriptor
kind = record { name = some (b "Kind"); values = record { name = some (b "ROOT"); number = some 0; deprecated = false } ∷ [] }

abbrev tree : MessageDescriptor
tree =
    record {
      name = some (b "Tree");
      fields =
          a_field (b "left") 1 11 (some (b ".a.b.Tree")) none
          ∷ a_field (b "kind") 2 14 (some (b ".a.b.Tree.Kind")) none
          ∷ a_field (b "leaf") 3 9 none (some 0)
          ∷ [];
      enums = kind ∷ [];
      map_entry = false;
      oneofs = some (b "end") ∷ [];
    }

abbrev trees : List FileDescriptor
trees = record { package_name = some (b "a.b"); syntax = some (b "proto3"); messages = node tree done done; enums = [] } ∷ []

pub trees_good : names trees ≡ Ok tt
unfolding choose same between class name_start name_part every is_name has_word all first_failing count syntax_of segments good_name field_good value_good enum_good message_good messages_good file_good entries set_entries file_declarations set_declarations declared declared_as fresh type_declared fields_of_entries first_undeclared entries_named map_entries_named file_named first_six first_seven names
trees_good = refl

pub trees_seen : seen_in [] trees ≡ map unmarked (set_sights [] trees)
trees_seen = see_set [] trees trees_good
