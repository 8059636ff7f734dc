use Rattle.std.specs.Prelude.{None, Some}
use Rattle.std.proofs.lemmas.Bool.Decides.{Decides-eqb}
use Rattle.std.proofs.lemmas.Slice.Eq.{strip_suffix_is}
use Rattle.type_names.proofs.FrontLaws.{other_own, rest_stripped}
use Rattle.type_names.proofs.strip.Goals as goal

pub returns-in_err-strip_suffix : goal.returns-in_err-strip_suffix
returns-in_err-strip_suffix c =
    rw c.from_residual.ensures
    (other_own _ _ _ _ _ c.row.ensures _ c.name_of-own.ensures (strip_suffix_is Decides-eqb _ _ None c.in_err-strip_suffix.ensures.cases))

pub returns : goal.returns
returns c =
    rest_stripped _ _ _ _ _ c.row.ensures _ c.name_of-own.ensures _ (strip_suffix_is Decides-eqb _ _ (Some c.in_ok-strip_suffix.field-0) c.in_ok-strip_suffix.ensures.cases) _
    (strip_suffix_is Decides-eqb _ _ _ c.strip_suffix-2.ensures.cases)
