use Rattle.enum_declaration.proofs.DeclarationLaws.{deep_declaration}
use Rattle.enum_declaration.proofs.put_enum_declaration.Goals as goal

pub returns-else-depth-lt-DEEPEST : goal.returns-else-depth-lt-DEEPEST
returns-else-depth-lt-DEEPEST c = deep_declaration _ _ _ _ _ _ _ _ _ _ c.if-depth-lt-DEEPEST.false c.append_attributes.ensures c.append_attributes-2.ensures c.put_enum_derive.ensures c.full-full.ensures
