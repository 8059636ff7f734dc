-- The convert call's answer is that of the two names. Assumes nothing.
use Rattle.std.proofs.Common.{◌≡◌, refl, Bool, true, false, Ok, Err, List, ℕ}
use Rattle.base.specs.Choose.{choose}
use Rattle.ident.specs.Ident.{to_snake, to_upper_camel}
use Rattle.ident.specs.Convert.{convertible, spelt, spellings, converted, refused, answered, convert}

pub answered_convert : (s : List ℕ) → answered (spellings s) ≡ convert s
unfolding answered spellings spelt converted convert choose
answered_convert s = on (convertible s)
  where
    on : (t : Bool) → answered (choose t (Ok (spelt (to_snake s) (to_upper_camel s))) (Err (record {}))) ≡ choose t (converted (to_snake s) (to_upper_camel s)) refused
    on true = refl
    on false = refl
