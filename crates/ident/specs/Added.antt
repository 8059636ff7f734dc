-- What sanitising adds, in front of a name and behind it.
use Rattle.std.specs.Prelude.{◌≡◌, refl, List, [], ◌++◌, ℕ}
use Rattle.std.proofs.Common.{ap, ◌∙◌, append-nil}
use Rattle.base.specs.Bytes.{b}
use Rattle.ident.specs.Ident.{addition, with_addition, sanitize_identifier}
use Rattle.ident.specs.declared.keywords.Addition.{Addition}
use Rattle.ident.specs.declared.keywords.Addition.TheVariants.{Nothing, Raw, Trailing, Leading}

abbrev pub before : Addition → List ℕ
before Nothing = []
before Raw = b "r#"
before Trailing = []
before Leading = b "_"

abbrev pub behind : Addition → List ℕ
behind Nothing = []
behind Raw = []
behind Trailing = b "_"
behind Leading = []

around : (added : Addition) (x : List ℕ) → before added ++ x ++ behind added ≡ with_addition added x
unfolding with_addition
around Nothing x = append-nil x
around Raw x = append-nil (b "r#" ++ x)
around Trailing x = refl
around Leading x = append-nil (b "_" ++ x)

pub sanitized_around : (added : Addition) (x : List ℕ) → added ≡ addition x → before added ++ x ++ behind added ≡ sanitize_identifier x
unfolding sanitize_identifier
sanitized_around added x e = around added x ∙ ap (λ (k : Addition). with_addition k x) e
