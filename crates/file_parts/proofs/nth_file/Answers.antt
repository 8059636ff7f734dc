use Rattle.std.proofs.lemmas.Iterator.Consumers.{YieldsList-from_first, nth_from_yields_List}
use Rattle.descriptor.specs.Decode.{entries, parts}
use Rattle.file_parts.proofs.nth_file.Goals as goal

pub returns : goal.returns
returns c =
    nth_from_yields_List _ _ _ c.nth.ensures.ran (YieldsList-from_first (λ x. x.now) (λ rest. rest) (parts 1 (entries c.args.set.now)) c.new.ensures.parts)
