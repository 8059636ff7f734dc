use Rattle.declared_types.proofs.FieldLaws.{good_package, good_before, good_enum, good_message}
use mathlib.Core.Path.{ap, ◌∙◌}
use mathlib.Core.Bool.{not}
use Rattle.declared_types.proofs.is_row_good.Goals as goal

pub returns-in-Package : goal.returns-in-Package
returns-in-Package c = good_package _ _ _ _ _ c.row-declaration.ensures c.in-Package.is

pub returns-in-Enum : goal.returns-in-Enum
returns-in-Enum c = good_enum _ _ _ _ _ c.row-declaration.ensures _ c.declared_before.ensures c.in-Enum.is

pub returns-then-not-declared_before : goal.returns-then-not-declared_before
returns-then-not-declared_before c = good_message _ _ _ _ _ c.row-declaration.ensures _ c.declared_before-in-Message.ensures _ c.in-Message.is c.if-not-declared_before.true _ c.bytes_of.ensures _ c.types_good.ensures

pub returns-else-not-declared_before : goal.returns-else-not-declared_before
returns-else-not-declared_before c = ap not c.if-not-declared_before.false ∙ good_before _ _ _ _ _ c.row-declaration.ensures _ c.declared_before-in-Message.ensures _ c.in-Message.is c.if-not-declared_before.false
