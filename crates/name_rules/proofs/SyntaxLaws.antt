-- A syntax that is known is good.
use Rattle.std.proofs.Common.{◌≡◌, refl, Option, Some, None, is_ok, Bor, List, ℕ}
use Rattle.base.specs.Given.{text_seen}
use Rattle.descriptor.specs.Seen as seen
use Rattle.syntax.specs.Syntax.{Syntax, Proto2, Proto3, Unknown, known, syntax_of}
use Rattle.name_rules.specs.Rules.{is_known, syntax_good}

known_is : (x : Syntax) → is_ok (known x) ≡ is_known x
known_is Proto2 = refl
known_is Proto3 = refl
known_is Unknown = refl

pub known_good : (s : Option (Bor (List ℕ))) → is_ok (known (syntax_of (text_seen s))) ≡ syntax_good (seen.text_seen s)
known_good None = known_is (syntax_of (text_seen None))
known_good (Some s) = known_is (syntax_of (text_seen (Some s)))
