use Rattle.enum_text.proofs.PartLaws.{enums_more, enums_none}
use Rattle.enum_text.proofs.append_enums.Goals as goal

pub loop-enumeration-preserved : goal.loop-enumeration-preserved
loop-enumeration-preserved c = enums_more c.args.options.now c.args.depth c.args.scope.now _ _ _ _ _ _ c.in-Some.ensures.steps c.lend_enum.ensures c.loop-enumeration.invariant

pub returns : goal.returns
returns c = enums_none c.args.options.now c.args.depth c.args.scope.now _ _ _ c.in-None.ensures.steps.0 c.loop-enumeration.invariant
