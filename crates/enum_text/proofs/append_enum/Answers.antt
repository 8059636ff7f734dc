use mathlib.Core.Path.{ap}
use borrow.Author.Rules.{rules}
use Rattle.writer.specs.Writing.{draft_of}
use Rattle.descriptor.specs.Decode.{decode_enum}
use Rattle.enum_text.specs.EnumText.{enum_tree, enum_text}
use Rattle.enum_text.proofs.PartLaws.{filled_from}
use Rattle.enum_text.proofs.append_enum.Goals as goal

pub returns : goal.returns
unfolding enum_text
returns c = filled_from (enum_tree c.args.options.now c.args.depth c.args.scope.now (decode_enum c.args.part.now)) c.put_enum.new.text c.new-text.result (search rules) c.put_enum.ensures (ap draft_of c.new-text.ensures)
