-- A name as it is spelt in a row. Assumes nothing.
use Rattle.std.specs.Prelude.{[], ◌++◌}
use Rattle.base.specs.Bytes.{b}
use Rattle.writer.specs.Text.{pick}
use Rattle.ident.specs.Ident.{to_snake, to_upper_camel}
use Rattle.descriptor.specs.Descriptor.{Bytes}
use Rattle.name_rows.specs.declared.Spelling.{Spelling}
use Rattle.name_rows.specs.declared.Spelling.TheVariants.{Snake, UpperCamel, OneofType}

abbrev pub spelt_by : Spelling → Bytes → Bytes
spelt_by Snake name = to_snake name
spelt_by UpperCamel name = to_upper_camel name
spelt_by (OneofType conflict) name = to_upper_camel name ++ pick conflict (b "OneOf") []
