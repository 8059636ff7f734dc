-- A oneof by its name. Assumes nothing.
use Rattle.std.specs.Prelude.{Bool, List, []}
use Rattle.descriptor.specs.Descriptor.{Bytes, FieldDescriptor}
use Rattle.code_generator.specs.Oneofs.{OneofField}

abbrev pub oneof_with : List FieldDescriptor → Bytes → Bool → OneofField
oneof_with fs name has_conflict = record { name = name; fields = fs; has_type_name_conflict = has_conflict }

-- where its fields don't matter
abbrev pub oneof_named : Bytes → Bool → OneofField
oneof_named = oneof_with []
