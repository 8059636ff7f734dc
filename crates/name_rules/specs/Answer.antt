-- Refusals 6 and 7 of a set: 6, first such file of the whole set, before any 7. Assumes nothing.
use Rattle.std.specs.Prelude.{ℕ, Bool, ◌&&◌, List, [], ltb, length, Result, Ok, Err}
use Rattle.base.specs.Choose.{choose}
use Rattle.base.specs.declared.refusal.Refusal.{Refusal}
use Rattle.base.specs.declared.refusal.Refusal.TheVariants.{Declaration, TypeName}
use Rattle.descriptor.specs.Descriptor.{FieldDescriptor, FileDescriptor}
use Rattle.base.specs.Lists.{first_failing}
use Rattle.name_rules.specs.Rules.{file_good}
use Rattle.name_rules.specs.FullNames.{set_declarations, set_fields, first_undeclared}
use Rattle.name_rules.specs.MapEntries.{map_entries_named}

-- a file without refusal 6, given the fields of the set
unfoldable pub file_named : List FieldDescriptor → FileDescriptor → Bool
file_named fields f = file_good f && map_entries_named fields f

-- the first file with refusal 6, or the count of files
unfoldable pub first_six : List FileDescriptor → ℕ
first_six fs = first_failing (file_named (set_fields fs)) fs

-- the first file with refusal 7, or the count of files
unfoldable pub first_seven : List FileDescriptor → ℕ
first_seven fs = first_undeclared (set_declarations fs) [] fs

unfoldable pub names : List FileDescriptor → Result Unit Refusal
names fs =
    choose (ltb (first_six fs) (length fs)) (Err (Declaration (first_six fs)))
    (choose (ltb (first_seven fs) (length fs)) (Err (TypeName (first_seven fs))) (Ok tt))
