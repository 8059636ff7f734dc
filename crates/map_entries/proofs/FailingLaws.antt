-- Refusal 6 of a set: the first file at fault by itself, or by a map entry. Assumes nothing.
use mathlib.Core.Path.{◌≡◌}
use mathlib.Core.List.{List}
use Prim.Native.Nat.{min}
use Rattle.base.specs.Lists.{first_failing, first_both}
use Rattle.descriptor.specs.Descriptor.{FileDescriptor}
use Rattle.name_rules.specs.Rules.{file_good}
use Rattle.name_rules.specs.FullNames.{set_fields}
use Rattle.name_rules.specs.MapEntries.{map_entries_named}
use Rattle.name_rules.specs.Answer.{file_named, first_six}

pub first_six_is : (ds : List FileDescriptor) → first_six ds ≡ min (first_failing file_good ds) (first_failing (map_entries_named (set_fields ds)) ds)
unfolding first_six file_named
first_six_is ds = first_both file_good (map_entries_named (set_fields ds)) ds
