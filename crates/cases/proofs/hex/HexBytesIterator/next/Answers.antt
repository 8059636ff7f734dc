use Rattle.std.proofs.Common.{rules, refl, sym, ◌∙◌}
use Rattle.cases.proofs.HexLaws.{no_digits, next_byte}
use Rattle.cases.proofs.hex.HexBytesIterator.next.Goals as goal

pub returns-in_err-high-clause-steps : goal.returns-in_err-high-clause-steps
returns-in_err-high-clause-steps c = let e = no_digits c.self.inside.digits.now in search rules

pub returns-clause-steps : goal.returns-clause-steps
returns-clause-steps c =
    sym c.self.view_is
    ∙ next_byte c.self.inside.digits.now c.in_ok-high.high.now c.in_ok-high.rest.now _ (search rules) refl refl c.split_first-2.result c.split_first-2.ensures.cases c.unwrap_or.result c.unwrap_or.ensures _ _ c.digit_value.ensures c.digit_value-2.ensures

pub returns-clause-goes : goal.returns-clause-goes
returns-clause-goes c = let first = returns-clause-steps c in search rules
